-- A list with one of its numbers raised or lowered by one, as loads are when a job comes or goes.
use Prim.Native.Nat.{ℕ, ◌+◌, ◌-◌, ◌≤◌, ◌<◌}
use native.Mathlib.Omega.{arith}
use mathlib.Core.Path.{◌≡◌, sym, ap}
use mathlib.Core.Bool.{Bool, true, false}
use mathlib.Core.List.{List}
use lib.Dec.{eqb}
use lib.ListN.{length, get_or, set}
use lib.Seq.{get_or-set_same, get_or-set_other}
use Rattle.spec_lists.specs.Lists.{bit}
use Rattle.spec_lists.proofs.Tests.{Compared, same, other, compared}

module _ (l : List ℕ) (x y : ℕ) (h : x < length l) where
  -- at y stands what was written at x if they are the same, else what stood there
  get_d_written : (P : Bool → ℕ → Type 0) (n : ℕ) → (x ≡ y → P true n) → P false (get_or l y 0) → P (eqb x y) (get_or (set l x n) y 0)
  get_d_written P n p q = go (compared x y)
    where
      go : {z : Bool} → Compared x y z → P z (get_or (set l x n) y 0)
      go (same e) = rw (← e, get_or-set_same l x n 0 h) (p e)
      go (other d) = rw (get_or-set_other l x y n 0 (λ e. d (sym e))) q

  -- one more at x ..
  pub get_d_raised : get_or (set l x (get_or l x 0 + 1)) y 0 ≡ get_or l y 0 + bit (eqb x y)
  get_d_raised = get_d_written (λ z m. m ≡ get_or l y 0 + bit z) (get_or l x 0 + 1) (λ e. omega (arith, ap (λ (i : ℕ). get_or l i 0) e)) (omega arith)

  -- .. and one less
  pub get_d_lowered : 1 ≤ get_or l x 0 → get_or (set l x (get_or l x 0 - 1)) y 0 + bit (eqb x y) ≡ get_or l y 0
  get_d_lowered k = get_d_written (λ z m. m + bit z ≡ get_or l y 0) (get_or l x 0 - 1) (λ e. omega (arith, ap (λ (i : ℕ). get_or l i 0) e)) (omega arith)
