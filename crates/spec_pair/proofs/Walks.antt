-- Walks along the chains of any table: how many records they read, and what the job is that they meet.
use Prim.Native.Nat.{ℕ, zero, suc, ◌+◌, ◌*◌, ◌≤◌}
use native.Mathlib.Omega.{arith}
use mathlib.Core.Path.{◌≡◌, refl, sym, ap, subst, ◌∙◌}
use mathlib.Core.Logic.{◌⊎◌, inl, inr, ⊎_elim}
use mathlib.Core.Bool.{Bool, true, false, cond, false≢true}
use mathlib.Core.List.{List, [], ◌∷◌, ◌++◌}
use mathlib.Core.Option.{Option, none, some, some-injective, none-ne-some}
use lib.Dec.{T, leb, ltb}
use lib.ListN.{length, length-append}
use borrow.Author.Tests.{leb-true, ltb-false}
use Rattle.spec_lists.specs.Lists.{within, In, nth}
use Rattle.spec_table.specs.Table.{Entry, Layout, vacant, follow, chains}
use Rattle.spec_pair.specs.Pair.{End, broken, unmatched, matched, Walk, stop, read_then, may_follow, is_held_by, names_both, is_above, walk, met_by, is_broken, first_walk, second_walk, unreadable_pair, records_read, lower, job_found}
use Rattle.spec_lists.proofs.Tests.{true→T, left, neither}
use Rattle.spec_table.proofs.Sound.{chain_from_lem}

module _ (l : Layout) (x y : ℕ) where
  -- what is asked of job j's record: bench x is its holder, both benches are named
  abbrev held_in : ℕ → Bool
  held_in j = is_held_by l.benches x (nth l.entries j vacant)

  abbrev both_in : ℕ → Bool
  both_in j = names_both x y (nth l.entries j vacant).names

  module _ (first : Option ℕ) (before j : ℕ) (chain : List ℕ) where
    -- a walk that comes to job j, case by case: how it goes on, and why
    pub data Turn : Walk → Type 0 where
      above : is_above first j ≡ true → Turn (stop unmatched)
      unfit : is_above first j ≡ false → may_follow l.jobs before j ≡ false → Turn (stop broken)
      foreign : is_above first j ≡ false → may_follow l.jobs before j ≡ true → held_in j ≡ false → Turn (read_then j (stop broken))
      found : is_above first j ≡ false → may_follow l.jobs before j ≡ true → held_in j ≡ true → both_in j ≡ true → Turn (read_then j (stop (matched j)))
      passed : is_above first j ≡ false → may_follow l.jobs before j ≡ true → held_in j ≡ true → both_in j ≡ false → Turn (read_then j (walk l x y first j chain))

    -- these are all
    pub turn : Turn (walk l x y first before (j ∷ chain))
    turn = go (is_above first j) refl (may_follow l.jobs before j) refl (held_in j) refl (both_in j) refl
      where
        go : (a : Bool) → is_above first j ≡ a → (m : Bool) → may_follow l.jobs before j ≡ m → (h : Bool) → held_in j ≡ h → (n : Bool) → both_in j ≡ n →
            Turn (cond a (stop unmatched) (cond m (read_then j (cond h (cond n (stop (matched j)) (walk l x y first j chain)) (stop broken))) (stop broken)))
        go true a m f h p n q = above a
        go false a false f h p n q = unfit a f
        go false a true f false p n q = foreign a f p
        go false a true f true p true q = found a f p q
        go false a true f true p false q = passed a f p q

  -- a walk reads at most the records of its chain
  pub walk_read : (first : Option ℕ) (before : ℕ) (chain : List ℕ) → length (walk l x y first before chain).read ≤ length chain
  walk_read first before [] = omega arith
  walk_read first before (j ∷ chain) = go (turn first before j chain) (walk_read first j chain)
    where
      go : {w : Walk} → Turn first before j chain w → length (walk l x y first j chain).read ≤ length chain → length w.read ≤ suc (length chain)
      go (above a) ih = omega arith
      go (unfit a f) ih = omega arith
      go (foreign a f h) ih = omega arith
      go (found a f h n) ih = omega arith
      go (passed a f h n) ih = omega arith

  -- each record that is read has a number of 1 to J
  pub read_within : (first : Option ℕ) (before : ℕ) (chain : List ℕ) (i : ℕ) → In i (walk l x y first before chain).read → T (within 1 l.jobs i)
  read_within first before [] i o = absurd o
  read_within first before (j ∷ chain) i o = go (turn first before j chain) (read_within first j chain i) o
    where
      here : may_follow l.jobs before j ≡ true → i ≡ j → T (within 1 l.jobs i)
      here f e = rw e (left (within 1 l.jobs j) (ltb before j) (true→T (may_follow l.jobs before j) f))

      go : {w : Walk} → Turn first before j chain w → (In i (walk l x y first j chain).read → T (within 1 l.jobs i)) →
          In i w.read → T (within 1 l.jobs i)
      go (above a) ih = λ o. absurd o
      go (unfit a f) ih = λ o. absurd o
      go (foreign a f h) ih = ⊎_elim (here f) (λ o. absurd o)
      go (found a f h n) ih = ⊎_elim (here f) (λ o. absurd o)
      go (passed a f h n) ih = ⊎_elim (here f) ih

  -- a job that a walk meets is read, is not above the first match, and its record is bench x's and names both
  pub record Met (first : Option ℕ) (read : List ℕ) (j : ℕ) : Type 0 where
    pub is_read : In j read
    pub reached : is_above first j ≡ false
    pub held : held_in j ≡ true
    pub names : both_in j ≡ true

  pub met : (first : Option ℕ) (before : ℕ) (chain : List ℕ) (j : ℕ) → (walk l x y first before chain).end ≡ matched j →
      Met first (walk l x y first before chain).read j
  met first before [] j e = absurd (true→T false cc)
  met first before (i ∷ chain) j e = go (turn first before i chain) (met first i chain j) e
    where
      go : {w : Walk} → Turn first before i chain w →
          ((walk l x y first i chain).end ≡ matched j → Met first (walk l x y first i chain).read j) → w.end ≡ matched j → Met first w.read j
      go (above a) ih e = absurd (true→T false cc)
      go (unfit a f) ih e = absurd (true→T false cc)
      go (foreign a f h) ih e = absurd (true→T false cc)
      go (found a f h n) ih e =
          let q : i ≡ j = cc in
          record { is_read = inl (sym q); reached = rw q at a; held = rw q at h; names = rw q at n }
      go (passed a f h n) ih e = let m = ih e in record { is_read = inr m.is_read; reached = m.reached; held = m.held; names = m.names }

  -- so it has a number of 1 to J
  pub met_within : (first : Option ℕ) (before : ℕ) (chain : List ℕ) (j : ℕ) → (walk l x y first before chain).end ≡ matched j → T (within 1 l.jobs j)
  met_within first before chain j e = read_within first before chain j (met first before chain j e).is_read

  -- a walk that is not limited and meets none has no matching job on its chain
  pub unmatched_none : (before : ℕ) (chain : List ℕ) → (walk l x y none before chain).end ≡ unmatched → (i : ℕ) → In i chain → both_in i ≡ false
  unmatched_none before [] e i o = absurd o
  unmatched_none before (j ∷ chain) e i o = go (turn none before j chain) (λ d. unmatched_none j chain d i) e o
    where
      go : {w : Walk} → Turn none before j chain w → ((walk l x y none j chain).end ≡ unmatched → In i chain → both_in i ≡ false) →
          w.end ≡ unmatched → In i (j ∷ chain) → both_in i ≡ false
      go (above a) ih e o = absurd (true→T false a)
      go (unfit a f) ih e o = absurd (true→T false cc)
      go (foreign a f h) ih e o = absurd (true→T false cc)
      go (found a f h n) ih e o = absurd (true→T false cc)
      go (passed a f h n) ih e (inl q) = rw q n
      go (passed a f h n) ih e (inr o) = ih e o

follow_few : (es : List Entry) (k j : ℕ) → length (follow es k j) ≤ k
follow_few es zero j = omega arith
follow_few es (suc k) zero = omega arith
follow_few es (suc k) (suc i) = omega (arith, follow_few es k (nth es (suc i) vacant).next)

-- the records read are at most those of the two chains ..
pub chains_read : (l : Layout) (x y : ℕ) → length (records_read l x y) ≤ length (nth (chains l) x []) + length (nth (chains l) y [])
unfolding records_read first_walk second_walk
chains_read l x y = go (is_broken one.end) (walk_read l x y none 0 c) (walk_read l y x (met_by one.end) 0 d)
  where
    one : Walk
    one = first_walk l x y

    two : Walk
    two = second_walk l x y

    c : List ℕ
    c = nth (chains l) x []

    d : List ℕ
    d = nth (chains l) y []

    go : (z : Bool) → length one.read ≤ length c → length two.read ≤ length d →
        length (cond z one.read (one.read ++ two.read)) ≤ length c + length d
    go true h k = omega arith
    go false h k = omega (arith, length-append one.read two.read)

-- .. which have at most J + 1 jobs each, on any table
pub pair_read : (l : Layout) (x y : ℕ) → length (records_read l x y) ≤ 2 * suc l.jobs
pair_read l x y =
    let k = suc l.jobs in
    let most : (z : ℕ) → length (nth (chains l) z []) ≤ k = λ z. rw (chain_from_lem l z) (follow_few l.entries k (nth l.heads z 0)) in
    omega (arith, chains_read l x y, most x, most y)

-- of the first match and a job that is not above it the latter is the lower
lower_met : (o : Option ℕ) (n : ℕ) → is_above o n ≡ false → lower o (some n) ≡ some n
lower_met none n a = refl
lower_met (some m) n a = ap some (go (leb m n) refl)
  where
    go : (z : Bool) → leb m n ≡ z → cond z m n ≡ n
    go true e = omega (arith, leb-true m n e, ltb-false m n a)
    go false e = refl

lower_first : (o : Option ℕ) → lower o none ≡ o
lower_first none = refl
lower_first (some m) = refl

-- the job found is the second walk's, if it meets one ..
pub found_second : (l : Layout) (x y n : ℕ) → (second_walk l x y).end ≡ matched n → job_found l x y ≡ some n
unfolding job_found second_walk
found_second l x y n e =
    let o = met_by (first_walk l x y).end in
    ap (λ (w : End). lower o (met_by w)) e ∙ lower_met o n (met l y x o 0 (nth (chains l) y []) n e).reached

-- .. and else the first walk's
pub found_first : (l : Layout) (x y : ℕ) → (second_walk l x y).end ≡ unmatched → job_found l x y ≡ met_by (first_walk l x y).end
unfolding job_found
found_first l x y e = let o = met_by (first_walk l x y).end in ap (λ (w : End). lower o (met_by w)) e ∙ lower_first o

lower_either : (o p : Option ℕ) (j : ℕ) → lower o p ≡ some j → (o ≡ some j) ⊎ (p ≡ some j)
lower_either none p j e = inr e
lower_either (some m) none j e = inl e
lower_either (some m) (some n) j e = go (leb m n) e
  where
    go : (z : Bool) → some (cond z m n) ≡ some j → (some m ≡ some j) ⊎ (some n ≡ some j)
    go true e = inl e
    go false e = inr e

met_matched : (e : End) (j : ℕ) → met_by e ≡ some j → e ≡ matched j
met_matched broken j p = absurd (none-ne-some j p)
met_matched unmatched j p = absurd (none-ne-some j p)
met_matched (matched i) j p = ap matched (some-injective i j p)

-- the job found was met by one of the walks
pub found_met : (l : Layout) (x y j : ℕ) → job_found l x y ≡ some j → ((first_walk l x y).end ≡ matched j) ⊎ ((second_walk l x y).end ≡ matched j)
unfolding job_found
found_met l x y j f =
    let one = (first_walk l x y).end in
    let two = (second_walk l x y).end in
    ⊎_elim (λ p. inl (met_matched one j p)) (λ p. inr (met_matched two j p)) (lower_either (met_by one) (met_by two) j f)

-- so it has a number of 1 to J
pub found_within : (l : Layout) (x y j : ℕ) → job_found l x y ≡ some j → T (within 1 l.jobs j)
unfolding first_walk second_walk
found_within l x y j f =
    ⊎_elim
    (λ e. met_within l x y none 0 (nth (chains l) x []) j e)
    (λ e. met_within l y x (met_by (first_walk l x y).end) 0 (nth (chains l) y []) j e)
    (found_met l x y j f)

end_unmatched : (e : End) → is_broken e ≡ false → met_by e ≡ none → e ≡ unmatched
end_unmatched broken u f = absurd (false≢true (sym u))
end_unmatched unmatched u f = refl
end_unmatched (matched j) u f = absurd (none-ne-some j (sym f))

lower_none : (o p : Option ℕ) → lower o p ≡ none → (o ≡ none) × (p ≡ none)
lower_none none p e = (refl, e)
lower_none (some m) none e = absurd (none-ne-some m (sym e))
lower_none (some m) (some n) e = absurd (none-ne-some (cond (leb m n) m n) (sym e))

-- where none is found and no walk is broken, both chains are read to their ends
pub none_met : (l : Layout) (x y : ℕ) → unreadable_pair l x y ≡ false → job_found l x y ≡ none →
    ((first_walk l x y).end ≡ unmatched) × ((walk l y x none 0 (nth (chains l) y [])).end ≡ unmatched)
unfolding unreadable_pair job_found second_walk
none_met l x y u f =
    let one = (first_walk l x y).end in
    let two = (second_walk l x y).end in
    let whole = neither (is_broken one) (is_broken two) u in
    let none_of = lower_none (met_by one) (met_by two) f in
    (end_unmatched one whole.0 none_of.0, subst (λ o. (walk l y x o 0 (nth (chains l) y [])).end ≡ unmatched) none_of.0 (end_unmatched two whole.1 none_of.1))
