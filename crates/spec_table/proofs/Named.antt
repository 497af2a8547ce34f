-- What jobs name, and who holds them.
use Prim.Native.Nat.{ℕ, zero, suc}
use mathlib.Core.Path.{◌≡◌, refl, ap, sym, subst, ◌∙◌}
use mathlib.Core.Logic.{◌⊎◌, ◌↔◌, inl, inr, ⊎_elim, ◌≢◌}
use mathlib.Core.Bool.{Bool, true, false, not}
use mathlib.Core.List.{List, [], ◌∷◌}
use lib.Dec.{T, not_T}
use lib.ListN.{length, get_or}
use Rattle.spec_lists.specs.Lists.{within, member, In, all, distinct, Each, empty, nth, update}
use Rattle.spec_table.specs.Board.{Shares, may_hold, names_fit, names_of, stands, holder_of, Board, Valid}
use Rattle.spec_lists.proofs.Tests.{true→T, T→true, false→not, never→false, left, both, right, T-eqb, within_both}
use Rattle.spec_lists.proofs.Elements.{all_in, empty_in, is_empty, some_in, nth_within, each_nth, length_update, each_update}
use Rattle.spec_lists.proofs.NumberLists.{member_in, in_member, not_member, distinct_head}
use Rattle.spec_table.specs.Table.{most_benches, most_jobs, paired, Storable}

-- there are as many holders as job numbers
pub length_shares : (named : List (List ℕ)) (holders : List ℕ) → Shares named holders → length holders ≡ length named
length_shares [] [] s = refl
length_shares [] (h ∷ holders) s = absurd s
length_shares (names ∷ named) [] s = absurd s
length_shares (names ∷ named) (h ∷ holders) s = ap suc (length_shares named holders s.1)

-- names that fit are benches of 1 to B
pub fit_bench : (benches : ℕ) (names : List ℕ) (x : ℕ) → T (names_fit benches names) → In x names → T (within 1 benches x)
fit_bench benches names x f = all_in (within 1 benches) x names (left (all (within 1 benches) names) (distinct names) f)

-- two names fit exactly if they are different benches of 1 to B
pub pair_fits : (benches x y : ℕ) → T (names_fit benches (x ∷ y ∷ [])) ↔ (T (within 1 benches x) × T (within 1 benches y) × (x ≢ y))
pair_fits benches x y =
    let bench = within 1 benches in
    let rest = y ∷ [] in
    let names = x ∷ rest in
    let listed = all bench names in (
      λ f. (fit_bench benches names x f (inl refl), fit_bench benches names y f (inr (inl refl)), λ e. distinct_head x rest (right listed (distinct names) f) (inl e)),
      λ r. both listed (distinct names) (both (bench x) (all bench rest) r.0 (both (bench y) true r.1 tt)) (both (not (member x rest)) true (not_member x rest (⊎_elim r.2 (λ i. i))) tt),
    )

-- .. and do not where one is none of 1 to B, or both are the same
pub pair_misfits : (benches x y : ℕ) → (within 1 benches x ≡ false) ⊎ (within 1 benches y ≡ false) ⊎ (x ≡ y) → names_fit benches (x ∷ y ∷ []) ≡ false
pair_misfits benches x y c = never→false (names_fit benches (x ∷ y ∷ [])) (λ f. wrong ((pair_fits benches x y).0 f) c)
  where
    wrong : T (within 1 benches x) × T (within 1 benches y) × (x ≢ y) → (within 1 benches x ≡ false) ⊎ (within 1 benches y ≡ false) ⊎ (x ≡ y) → ⊥
    wrong p (inl e) = subst T e p.0
    wrong p (inr (inl e)) = subst T e p.1
    wrong p (inr (inr e)) = p.2 e

-- a standing job's number is one of 1 to J
pub stands_within : (b : Board) (j : ℕ) → T (stands b j) → T (within 1 (length b.named) j)
stands_within b j t =
    let r = nth_within b.named j [] (λ e. rw e at t) in
    within_both 1 (length b.named) j r.0 r.1

-- a job that names a bench stands ..
pub named_stands : (b : Board) (j y : ℕ) → In y (names_of b j) → T (stands b j)
named_stands b j y i = not_T (empty (names_of b j)) (λ t. empty_in y (names_of b j) t i)

-- .. and that bench may hold it
pub named_may : (names : List ℕ) (y : ℕ) → In y names → T (may_hold names y)
named_may [] y i = absurd i
named_may (x ∷ names) y i = in_member y (x ∷ names) i

-- on a valid board it is a bench of 1 to B
pub named_bench : (b : Board) → Valid b → (j y : ℕ) → In y (names_of b j) → T (within 1 b.benches y)
named_bench b v j y =
    fit_bench b.benches (names_of b j) y (each_nth (λ names. T (names_fit b.benches names)) b.named j [] tt v.names)

-- a job is held by a bench that may hold it ..
shares_get_d : (named : List (List ℕ)) (holders : List ℕ) → Shares named holders → (i : ℕ) → T (may_hold (get_or named i []) (get_or holders i 0))
shares_get_d [] [] s i = tt
shares_get_d [] (h ∷ holders) s i = absurd s
shares_get_d (names ∷ named) [] s i = absurd s
shares_get_d (names ∷ named) (h ∷ holders) s zero = s.0
shares_get_d (names ∷ named) (h ∷ holders) s (suc i) = shares_get_d named holders s.1 i

pub shares_nth : (b : Board) → Valid b → (j : ℕ) → T (may_hold (names_of b j) (holder_of b j))
shares_nth b v zero = tt
shares_nth b v (suc i) = shares_get_d b.named b.holders v.shares i

-- .. and if it names any, by one that it names
pub held_named : (names : List ℕ) (h y : ℕ) → In y names → T (may_hold names h) → In h names
held_named [] h y i t = absurd i
held_named (x ∷ names) h y i t = member_in h (x ∷ names) t

-- 02: "sharings that leave these jobs in place": in every sharing a job that names one bench is held by that bench
pub one_in_place : (named : List (List ℕ)) (holders : List ℕ) → Shares named holders → (j x : ℕ) → nth named j [] ≡ x ∷ [] → nth holders j 0 ≡ x
one_in_place named holders s zero x e = absurd (empty_in x [] tt (subst (In x) (sym e) (inl refl)))
one_in_place named holders s (suc i) x e = only (member_in h (x ∷ []) (rw e at may))
  where
    h : ℕ
    h = get_or holders i 0

    may : T (may_hold (get_or named i []) h)
    may = shares_get_d named holders s i

    only : In h (x ∷ []) → h ≡ x
    only (inl q) = q
    only (inr k) = absurd k

-- a standing job's holder is a bench of 1 to B
pub holder_bench : (b : Board) → Valid b → (j : ℕ) → T (stands b j) → T (within 1 b.benches (holder_of b j))
holder_bench b v j t =
    let y = some_in (names_of b j) t in
    named_bench b v j (holder_of b j) (held_named (names_of b j) (holder_of b j) y.0 y.1 (shares_nth b v j))

-- where no job stands the holder is 0
pub holder_none : (b : Board) → Valid b → (j : ℕ) → names_of b j ≡ [] → holder_of b j ≡ 0
holder_none b v j e = let t = shares_nth b v j in T-eqb (holder_of b j) 0 (rw e at t)

-- a job stands exactly if its holder is a bench
pub stands_by_holder : (b : Board) → Valid b → (j : ℕ) → stands b j ≡ within 1 b.benches (holder_of b j)
stands_by_holder b v j = go (stands b j) refl
  where
    bench : ℕ → Bool
    bench = within 1 b.benches

    go : (z : Bool) → stands b j ≡ z → z ≡ bench (holder_of b j)
    go true e = sym (T→true (bench (holder_of b j)) (holder_bench b v j (true→T (stands b j) e)))
    go false e = ap bench (sym (holder_none b v j (is_empty (names_of b j) (false→not (stands b j) e))))

-- a board with the sizes of a storable one, valid and with two benches for each job, is storable
pub resized : (b c : Board) → Storable b → Valid c → c.benches ≡ b.benches → length c.named ≡ length b.named → Each (λ names. T (paired names)) c.named → Storable c
resized b c s v e l p =
    record {
      valid = v;
      benches = subst (λ (n : ℕ). T (within 1 most_benches n)) (sym e) s.benches;
      jobs = subst (λ (n : ℕ). T (within 1 most_jobs n)) (sym l) s.jobs;
      pairs = p;
    }

-- so is one in which job j was taken to these names
pub changed_storable : (b c : Board) (j : ℕ) (names : List ℕ) → Storable b → T (paired names) → Valid c → c.benches ≡ b.benches → c.named ≡ update b.named j names → Storable c
changed_storable b c j names s p v e n =
    resized b c s v e (ap length n ∙ length_update b.named j names)
    (subst (Each (λ names. T (paired names))) (sym n) (each_update (λ names. T (paired names)) b.named j names p s.pairs))
