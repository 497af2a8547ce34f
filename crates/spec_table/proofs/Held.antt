-- The jobs that a bench holds: as many as its load, rising, and just those that it is the holder of.
use Prim.Native.Nat.{ℕ, zero, suc, ◌+◌, ◌≤◌, ◌<◌}
use native.Mathlib.Omega.{arith}
use native.Mathlib.Nat.{add-zero}
use mathlib.Core.Path.{◌≡◌, refl, sym, ap, ◌∙◌}
use mathlib.Core.Logic.{◌↔◌}
use mathlib.Core.Bool.{Bool, true, false, cond}
use mathlib.Core.List.{List, [], ◌∷◌}
use lib.Dec.{T, eqb}
use lib.ListN.{length, get_or}
use Rattle.spec_lists.specs.Lists.{bit, within, count, range, rises, filter, Each, In, nth}
use Rattle.spec_table.specs.Board.{load, jobs_held}
use Rattle.spec_lists.proofs.Tests.{Compared, same, other, compared, within_both}
use Rattle.spec_lists.proofs.Elements.{in_each, nth_within}
use Rattle.spec_lists.proofs.Counting.{bit_same, bit_other, count_some, counted_in}
use Rattle.spec_lists.proofs.RisingLists.{rises_range, rises_filter}

-- a bench holds as many jobs as its load
pub held_length : (i x : ℕ) (holders : List ℕ) → length (jobs_held i x holders) ≡ load holders x
held_length i x [] = refl
held_length i x (h ∷ holders) = go (eqb h x) (held_length (suc i) x holders)
  where
    later : List ℕ
    later = jobs_held (suc i) x holders

    go : (z : Bool) → length later ≡ load holders x → length (cond z (i ∷ later) later) ≡ bit z + load holders x
    go true e = omega arith
    go false e = omega arith

-- the jobs of a bench, where f tells each job's holder: in the order of their numbers, those that it holds
held_filter : (f : ℕ → ℕ) (i x : ℕ) (holders : List ℕ) → ((k : ℕ) → k < length holders → get_or holders k 0 ≡ f (i + k)) → jobs_held i x holders ≡ filter (λ j. eqb (f j) x) (range i (length holders))
held_filter f i x [] g = refl
held_filter f i x (h ∷ holders) g =
    let here : h ≡ f i = g 0 (omega arith) ∙ ap f (omega arith) in
    let later = held_filter f (suc i) x holders (λ k l. g (suc k) (omega arith) ∙ ap f (omega arith)) in
    rw (later, here)

-- "a bench's jobs stand in rising order": of the job numbers, which rise, those that it holds
pub held_rising : (x : ℕ) (holders : List ℕ) → jobs_held 1 x holders ≡ filter (λ j. eqb (nth holders j 0) x) (range 1 (length holders))
held_rising x holders = held_filter (λ j. nth holders j 0) 1 x holders (λ k l. let e : suc k ≡ 1 + k = omega arith in ap (λ j. nth holders j 0) e)

-- so they rise
pub held_rises : (x : ℕ) (holders : List ℕ) → T (rises (jobs_held 1 x holders))
held_rises x holders =
    let r = rises_filter (λ j. eqb (nth holders j 0) x) (range 1 (length holders)) (rises_range 1 (length holders)) in
    rw (held_rising x holders) r

-- another number in front, put there or not, changes no count
pub count_later : (z : Bool) (i j : ℕ) (l : List ℕ) → (i ≡ j → ⊥) → count j (cond z (i ∷ l) l) ≡ count j l
count_later true i j l d = omega (arith, bit_other i j d)
count_later false i j l d = refl

-- a number in front of a list without it counts as often as it is put there
pub count_here : (z : Bool) (i : ℕ) (l : List ℕ) → count i l ≡ 0 → count i (cond z (i ∷ l) l) ≡ bit z
count_here true i l e = omega (arith, bit_same i i refl)
count_here false i l e = e

-- no job before number i is among those from i on
pub count_before : (j i x : ℕ) (holders : List ℕ) → j < i → count j (jobs_held i x holders) ≡ 0
count_before j i x [] l = refl
count_before j i x (h ∷ holders) l =
    count_later (eqb h x) i j (jobs_held (suc i) x holders) (λ e. omega arith) ∙ count_before j (suc i) x holders (omega arith)

-- the job k places after job i is held by the bench that stands there, once
held_at : (i k x : ℕ) (holders : List ℕ) → 1 ≤ x → count (i + k) (jobs_held i x holders) ≡ bit (eqb (get_or holders k 0) x)
held_at i k x [] l = sym (bit_other 0 x (λ e. omega arith))
held_at i zero x (h ∷ holders) l =
    rw add-zero (count_here (eqb h x) i (jobs_held (suc i) x holders) (count_before i (suc i) x holders (omega arith)))
held_at i (suc k) x (h ∷ holders) l =
    let later = jobs_held (suc i) x holders in
    count_later (eqb h x) i (i + suc k) later (λ e. omega arith)
    ∙ ap (λ (j : ℕ). count j later) (omega arith) ∙ held_at (suc i) k x holders l

-- among the jobs of bench x stands job j once if x is its holder, else not
pub held_once : (j x : ℕ) (holders : List ℕ) → 1 ≤ x → count j (jobs_held 1 x holders) ≡ bit (eqb (nth holders j 0) x)
held_once zero x holders l = count_before 0 1 x holders (omega arith) ∙ sym (bit_other 0 x (λ e. omega arith))
held_once (suc i) x holders l = ap (λ (j : ℕ). count j (jobs_held 1 x holders)) (omega arith) ∙ held_at 1 i x holders l

-- the jobs of bench x are just those that it is the holder of ..
pub held_exact : (j x : ℕ) (holders : List ℕ) → 1 ≤ x → In j (jobs_held 1 x holders) ↔ (nth holders j 0 ≡ x)
held_exact j x holders l = (forth, back)
  where
    js : List ℕ
    js = jobs_held 1 x holders

    forth : In j js → nth holders j 0 ≡ x
    forth i = go (compared (nth holders j 0) x) (held_once j x holders l)
      where
        go : {z : Bool} → Compared (nth holders j 0) x z → count j js ≡ bit z → nth holders j 0 ≡ x
        go (same e) d = e
        go (other n) d = absurd (omega (arith, count_some j js i))

    back : nth holders j 0 ≡ x → In j js
    back e = counted_in j js (omega (arith, held_once j x holders l, bit_same (nth holders j 0) x e))

-- .. so their numbers are 1 to J
pub held_within : (x : ℕ) (holders : List ℕ) → 1 ≤ x → Each (λ j. T (within 1 (length holders) j)) (jobs_held 1 x holders)
held_within x holders l =
    in_each (λ j. T (within 1 (length holders) j)) (jobs_held 1 x holders)
    (λ j i. let e = (held_exact j x holders l).0 i in let r = nth_within holders j 0 (λ d. omega arith) in within_both 1 (length holders) j r.0 r.1)
