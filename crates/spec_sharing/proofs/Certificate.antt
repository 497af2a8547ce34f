-- The counting argument that everything rests on: jobs inside a set of benches have to be held inside it.
use Prim.Native.Nat.{ℕ, zero, suc, ◌+◌, ◌-◌, ◌*◌, ◌≤◌, ◌<◌}
use native.Mathlib.Omega.{arith}
use native.Mathlib.Decide.{dec_lt}
use native.Mathlib.Nat.{mul-le-mul_left}
use mathlib.Core.Path.{◌≡◌, refl, sym, ap}
use mathlib.Core.Bool.{Bool, true, false}
use mathlib.Core.List.{List, [], ◌∷◌}
use lib.Dec.{T}
use lib.ListN.{length, get_or}
use Rattle.spec_lists.specs.Lists.{bit, within, member, distinct, total, greatest, all, Each, In}
use Rattle.spec_table.specs.Board.{Board, Valid, load, excess, Shares, names_fit}
use Rattle.spec_sharing.specs.Paths.{Step, step_by, steps}
use Rattle.spec_sharing.specs.Sharing.{inside, density}
use Rattle.spec_lists.proofs.Tests.{true→T, Compared, same, other, compared, T-eqb, within_low, within_high, within_both}
use Rattle.spec_lists.proofs.Elements.{all_in, in_each}
use Rattle.spec_lists.proofs.NumberLists.{member_in, Member, is_in, not_in, membered}
use Rattle.spec_table.proofs.Named.{length_shares, fit_bench}
use Rattle.spec_lists.proofs.Counting.{bit_same, bit_other, total_add, total_times, total_same, total_le, total_but_one, size, size_le, size_once, greatest_above}
use Rattle.spec_sharing.proofs.Paths.{is_step}
use Rattle.spec_sharing.proofs.Sets.{density_least, inside_skips, inside_counts}
use Rattle.spec_table.proofs.Loads.{excess_none}

-- the load of a bench of the set, 0 for other benches
abbrev pub load_in : List ℕ → List ℕ → ℕ → ℕ
load_in set holders x = bit (member x set) * load holders x

-- the loads of the set's benches of 1 to n, added up: the jobs held in the set
abbrev pub held_in : ℕ → List ℕ → List ℕ → ℕ
held_in n set holders = total n (load_in set holders)

held_in_none : (n : ℕ) (set : List ℕ) → held_in n set [] ≡ 0
held_in_none zero set = refl
held_in_none (suc n) set = omega (arith, held_in_none n set)

-- the height for a bench of the set, and for every bench what its load is above the height
abbrev height_at : List ℕ → List ℕ → ℕ → ℕ → ℕ
height_at set holders h x = h * bit (member x set) + (load holders x - h)

total_heights : (n : ℕ) (set holders : List ℕ) (h : ℕ) → total n (height_at set holders h) ≡ h * size n set + excess n holders h
unfolding excess
total_heights n set holders h =
    omega (arith, total_add n (λ x. h * bit (member x set)) (λ x. load holders x - h), total_times n h (λ x. bit (member x set)))

module _ (n : ℕ) (set : List ℕ) (h : ℕ) (holders : List ℕ) where
  held_in_le : held_in n set holders ≤ held_in n set (h ∷ holders)
  held_in_le =
      total_le n (load_in set holders) (load_in set (h ∷ holders)) (λ x l u. mul-le-mul_left (bit (member x set)) (omega arith))

  -- a job held outside the set is not counted ..
  held_in_skips : (In h set → ⊥) → held_in n set (h ∷ holders) ≡ held_in n set holders
  held_in_skips out =
      total_same n (load_in set (h ∷ holders)) (load_in set holders) (λ x l u. go x (membered x set))
    where
      go : (x : ℕ) {z : Bool} → Member x set z → bit z * load (h ∷ holders) x ≡ bit z * load holders x
      go x (is_in i) = omega (arith, bit_other h x (λ e. out (rw e i)))
      go x (not_in f) = omega arith

  -- .. and one held by a bench of the set is counted once
  held_in_counts : T (within 1 n h) → In h set → held_in n set (h ∷ holders) ≡ suc (held_in n set holders)
  held_in_counts t i = go (membered h set) changed
    where
      changed : held_in n set (h ∷ holders) + load_in set holders h ≡ held_in n set holders + load_in set (h ∷ holders) h
      changed =
          total_but_one n (load_in set (h ∷ holders)) (load_in set holders) h (within_low 1 n h t) (within_high 1 n h t) (λ y l u d. ap (λ (k : ℕ). bit (member y set) * k) (omega (arith, bit_other h y (λ e. d (sym e)))))

      go : {z : Bool} → Member h set z → held_in n set (h ∷ holders) + bit z * load holders h ≡ held_in n set holders + bit z * load (h ∷ holders) h → held_in n set (h ∷ holders) ≡ suc (held_in n set holders)
      go (is_in j) e = omega (arith, bit_same h h refl)
      go (not_in f) e = absurd (f i)

-- the jobs inside a set are held in it, whatever the sharing
inside_held : (n : ℕ) (set : List ℕ) (named : List (List ℕ)) → Each (λ names. T (names_fit n names)) named → (holders : List ℕ) → Shares named holders → inside set named ≤ held_in n set holders
inside_held n set [] fit [] s = omega arith
inside_held n set [] fit (h ∷ holders) s = absurd s
inside_held n set (names ∷ named) fit [] s = absurd s
inside_held n set ([] ∷ named) fit (h ∷ holders) s =
    omega (arith, inside_held n set named fit.1 holders s.1, held_in_le n set h holders)
inside_held n set ((x ∷ names) ∷ named) fit (h ∷ holders) s =
    go (all (λ y. member y set) (x ∷ names)) refl (inside_held n set named fit.1 holders s.1)
  where
    i : In h (x ∷ names)
    i = member_in h (x ∷ names) s.0

    go : (z : Bool) → all (λ y. member y set) (x ∷ names) ≡ z → inside set named ≤ held_in n set holders → bit z + inside set named ≤ held_in n set (h ∷ holders)
    go true e ih =
        let w = fit_bench n (x ∷ names) h fit.0 i in
        let k = member_in h set (all_in (λ y. member y set) h (x ∷ names) (true→T (all (λ y. member y set) (x ∷ names)) e) i) in
        omega (arith, held_in_counts n set h holders w k)
    go false e ih = omega (arith, held_in_le n set h holders)

-- what is held in the set is not above the height times its benches and the excess
held_height : (n : ℕ) (set holders : List ℕ) (h : ℕ) → held_in n set holders ≤ h * size n set + excess n holders h
held_height n set holders h =
    omega (arith, total_le n (load_in set holders) (height_at set holders h) (λ x l u. go (member x set) (load holders x)), total_heights n set holders h)
  where
    go : (z : Bool) (k : ℕ) → bit z * k ≤ h * bit z + (k - h)
    go true k = omega arith
    go false k = omega arith

-- for every sharing, every set of benches and every height: inside jobs ≤ height × benches of the set + excess above the height
pub certificate : (benches : ℕ) (named : List (List ℕ)) → Each (λ names. T (names_fit benches names)) named → (holders : List ℕ) → Shares named holders → (set : List ℕ) (h : ℕ) → inside set named ≤ h * length set + excess benches holders h
certificate benches named fit holders s set h =
    omega (arith, inside_held benches set named fit holders s, held_height benches set holders h, mul-le-mul_left h (size_le benches set))

-- so no sharing's heaviest load is below the density of any set, rounded up
pub density_bounds : (benches : ℕ) (named : List (List ℕ)) → Each (λ names. T (names_fit benches names)) named → (holders : List ℕ) → Shares named holders → (set : List ℕ) → 1 ≤ length set → density (inside set named) (length set) ≤ greatest benches (load holders)
density_bounds benches named fit holders s set l =
    let h = greatest benches (load holders) in
    let flat = excess_none benches holders h (greatest_above benches (load holders)) in
    density_least (inside set named) (length set) h l (omega (arith, certificate benches named fit holders s set h))

-- a set of benches that proves a board's excess above h: it has every bench above h and none below it, and no step leads out of it
pub record Proves (b : Board) (set : List ℕ) (h : ℕ) : Type 0 where
  pub bench : (x : ℕ) → In x set → T (within 1 b.benches x)
  pub once : T (distinct set)
  pub above : (x : ℕ) → T (within 1 b.benches x) → h < load b.holders x → In x set
  pub full : (x : ℕ) → In x set → h ≤ load b.holders x
  pub closed : (x : ℕ) (s : Step) → In x set → In s (steps b x) → In s.to set

-- row by row: if the jobs held in the set name benches of the set only, the jobs inside it are those held in it
inside_is_held : (n : ℕ) (set : List ℕ) → ((x : ℕ) → In x set → T (within 1 n x)) → (named : List (List ℕ)) (holders : List ℕ) → Shares named holders → ((i y : ℕ) → In (get_or holders i 0) set → In y (get_or named i []) → In y set) → inside set named ≡ held_in n set holders
inside_is_held n set w [] [] s f = sym (held_in_none n set)
inside_is_held n set w [] (h ∷ holders) s f = absurd s
inside_is_held n set w (names ∷ named) [] s f = absurd s
inside_is_held n set w ([] ∷ named) (h ∷ holders) s f =
    let out : In h set → ⊥ = λ i. let l = within_low 1 n h (w h i) in omega (arith, T-eqb h 0 s.0) in
    omega (arith, inside_is_held n set w named holders s.1 (λ i. f (suc i)), held_in_skips n set h holders out)
inside_is_held n set w ((x ∷ names) ∷ named) (h ∷ holders) s f =
    go (membered h set) (inside_is_held n set w named holders s.1 (λ i. f (suc i)))
  where
    row : List ℕ
    row = x ∷ names

    go : {z : Bool} → Member h set z → inside set named ≡ held_in n set holders → inside set (row ∷ named) ≡ held_in n set (h ∷ holders)
    go (is_in i) ih =
        omega (arith, inside_counts set row named refl (in_each (λ y. In y set) row (λ y j. f 0 y i j)), held_in_counts n set h holders (w h i) i)
    go (not_in out) ih =
        omega (arith, inside_skips set row named h (member_in h row s.0) out, held_in_skips n set h holders out)

-- the loads in a proving set are not below the height, and the others not above it
held_exact : (b : Board) (set : List ℕ) (h : ℕ) → Proves b set h → held_in b.benches set b.holders ≡ h * size b.benches set + excess b.benches b.holders h
held_exact b set h p =
    omega (arith, total_same b.benches (load_in set b.holders) (height_at set b.holders h) (λ x l u. go x l u (membered x set)), total_heights b.benches set b.holders h)
  where
    go : (x : ℕ) → 1 ≤ x → x ≤ b.benches → {z : Bool} → Member x set z → bit z * load b.holders x ≡ h * bit z + (load b.holders x - h)
    go x l u (is_in i) = omega (arith, p.full x i)
    go x l u (not_in f) =
        elim (dec_lt h (load b.holders x)) [
          | yes k ↦ absurd (f (p.above x (within_both 1 b.benches x l u) k))
          | no k ↦ omega arith
        ]

-- no job held in a set that no step leaves names a bench outside it
closed_row : (b : Board) → Valid b → (set : List ℕ) → ((x : ℕ) (s : Step) → In x set → In s (steps b x) → In s.to set) → (i y : ℕ) → In (get_or b.holders i 0) set → In y (get_or b.named i []) → In y set
closed_row b v set closed i y j k = go (compared y (get_or b.holders i 0))
  where
    go : {z : Bool} → Compared y (get_or b.holders i 0) z → In y set
    go (same e) = rw e j
    go (other d) =
        let s = step_by (suc i) y in
        closed (get_or b.holders i 0) s j (is_step b (get_or b.holders i 0) s refl k d (sym (length_shares b.named b.holders v.shares)))

-- so the jobs inside such a set of benches are its benches' loads
pub closed_inside : (b : Board) → Valid b → (set : List ℕ) → ((x : ℕ) → In x set → T (within 1 b.benches x)) → ((x : ℕ) (s : Step) → In x set → In s (steps b x) → In s.to set) → inside set b.named ≡ held_in b.benches set b.holders
closed_inside b v set bench closed =
    inside_is_held b.benches set bench b.named b.holders v.shares (closed_row b v set closed)

-- for such a set the certificate is an equation
pub attained : (b : Board) → Valid b → (set : List ℕ) (h : ℕ) → Proves b set h → inside set b.named ≡ h * length set + excess b.benches b.holders h
attained b v set h p =
    omega (arith, closed_inside b v set p.bench p.closed, held_exact b set h p, ap (λ (k : ℕ). h * k) (size_once b.benches set p.once p.bench))

-- so no sharing of the same jobs has less excess above h
pub proved_least : (b : Board) → Valid b → (set : List ℕ) (h : ℕ) → Proves b set h → (holders : List ℕ) → Shares b.named holders → excess b.benches b.holders h ≤ excess b.benches holders h
proved_least b v set h p holders s = omega (arith, attained b v set h p, certificate b.benches b.named v.names holders s set h)
