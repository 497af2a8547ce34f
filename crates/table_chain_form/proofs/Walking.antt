-- The walks of the form check one step at a time.
use Rattle.std.specs.Prelude.{Some, None}
use Prim.Native.Nat.{ℕ, zero, suc, ◌+◌, ◌-◌, ◌≤◌, ◌<◌}
use native.Mathlib.Numerals.{add-one}
use native.Mathlib.Omega.{arith}
use mathlib.Core.Path.{◌≡◌, refl}
use mathlib.Core.Bool.{false}
use mathlib.Core.List.{List, [], ◌∷◌}
use lib.Dec.{eqb}
use lib.ListN.{length, get_or, drop, drop_of_length-le, get_or-eq_default}
use lib.Seq.{drop-cons}
use borrow.Author.Tests.{ne_eqb}
use Rattle.spec_lists.specs.Lists.{nth}
use Rattle.spec_table.specs.Table.{Entry, vacant, holder_in}
use Rattle.table_chain_form.specs.ChainWalks.{only_if, walked, all_walked}

-- one chain

-- a chain with more jobs than are left
pub walk_full : (es : List Entry) (x n j : ℕ) → n ≡ 0 → 1 ≤ j → None ≡ walked es x n j
walk_full es x n zero e l = absurd (omega arith)
walk_full es x n (suc i) e l = rw e

-- job j, with record e, is on the chain, and bench x has to hold it
pub walk_step : (es : List Entry) (x n j : ℕ) (e : Entry) → e ≡ nth es j vacant → 1 ≤ n → 1 ≤ j → walked es x n j ≡ only_if (eqb (holder_in e) x) (walked es x (n - 1) e.next)
walk_step es x zero j e q m l = absurd (omega arith)
walk_step es x (suc n) zero e q m l = absurd (omega arith)
walk_step es x (suc n) (suc i) e q m l = let p : suc n - 1 ≡ n = omega arith in rw (p, q)

-- a number above J has no record, so no bench holds it
pub walk_above : (es : List Entry) (x n j : ℕ) → 1 ≤ x → length es < j → None ≡ walked es x n j
walk_above es x n zero m l = absurd (omega arith)
walk_above es x zero (suc i) m l = refl
walk_above es x (suc n) (suc i) m l =
    let none : get_or es i vacant ≡ vacant = get_or-eq_default es vacant (omega arith) in
    rw (none, ne_eqb 0 x (omega arith))

-- all chains

-- bench x's chain is the first of those that are left after x - 1
pub all_step : (es : List Entry) (x n : ℕ) (heads : List ℕ) → 1 ≤ x → x ≤ length heads → all_walked es x (drop (x - 1) heads) (Some n) ≡ all_walked es (x + 1) (drop (x + 1 - 1) heads) (walked es x n (nth heads x 0))
all_step es zero n heads m l = absurd (omega arith)
all_step es (suc i) n heads m l =
    let now : suc i - 1 ≡ i = omega arith in
    let later : suc i + 1 - 1 ≡ suc i = omega arith in
    rw (now, later, add-one (suc i), drop-cons heads i 0 l)

-- a broken chain breaks all
pub all_broken : (es : List Entry) (x : ℕ) (heads : List ℕ) → all_walked es x heads None ≡ false
all_broken es x [] = refl
all_broken es x (j ∷ heads) = refl

-- after the last, no job is left
pub all_end : (es : List Entry) (x n : ℕ) (heads : List ℕ) → length heads < x → eqb n 0 ≡ all_walked es x (drop (x - 1) heads) (Some n)
all_end es x n heads l = let past : length heads ≤ x - 1 = omega arith in rw (drop_of_length-le heads past)
