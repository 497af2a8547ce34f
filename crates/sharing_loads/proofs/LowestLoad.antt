-- The lightest of several benches: the lowest load, then the lowest number. The benches stand at places, as in a queue; where a place is its own
-- bench, they are the benches themselves.
use Prim.Native.Nat.{ℕ, ◌+◌, ◌≤◌, ◌<◌}
use native.Mathlib.Omega.{arith}
use native.Mathlib.Decide.{ℕ_discrete}
use mathlib.Core.Path.{◌≡◌, refl, sym, ap, subst}
use mathlib.Core.Logic.{inl, inr}
use mathlib.Core.List.{List}
use Rattle.graph_lists.specs.Arrays.{at}
use Rattle.sharing_loads.specs.LoadRanks.{NoHeavier, LightestAt}

-- a bench is no heavier than another if its load is not higher, nor its number where the loads are equal
no_heavier : (loads : List ℕ) (y z : ℕ) → at loads y ≤ at loads z → (at loads y ≡ at loads z → y ≤ z) → NoHeavier loads y z
no_heavier loads y z h n = elim (ℕ_discrete (at loads y) (at loads z)) [ yes e ↦ inr (e, n e) | no d ↦ inl (omega arith) ]

module _ {loads : List ℕ} {bench : ℕ → ℕ} {begin : ℕ} where
  -- of one bench it is that one ..
  pub lightest_start : LightestAt loads bench begin (begin + 1) (bench begin)
  lightest_start = record {
    is = (begin, omega arith, omega arith, refl);
    least = λ i l u. let e : i ≡ begin = omega arith in inr (ap (λ (n : ℕ). at loads (bench n)) (sym e), omega (arith, ap bench e));
  }

  module _ {end y : ℕ} (k : LightestAt loads bench begin end y) where
    -- .. of one more the next one, if that comes before it ..
    pub lightest_lower : begin ≤ end → at loads (bench end) ≤ at loads y → (at loads (bench end) ≡ at loads y → bench end ≤ y) → LightestAt loads bench begin (end + 1) (bench end)
    lightest_lower h low n = record { is = (end, h, omega arith, refl); least = λ i l u. least i l u (ℕ_discrete i end) }
      where
        behind : {z : ℕ} → NoHeavier loads y z → NoHeavier loads (bench end) y → NoHeavier loads (bench end) z
        behind (inl a) (inl b) = inl (omega arith)
        behind (inl a) (inr b) = inl (omega (arith, b.0))
        behind (inr a) (inl b) = inl (omega (arith, a.0))
        behind (inr a) (inr b) = inr (omega (arith, a.0, b.0), omega (arith, a.1, b.1))

        least : (i : ℕ) → begin ≤ i → i < end + 1 → Dec (i ≡ end) → NoHeavier loads (bench end) (bench i)
        least i l u (yes e) = inr (ap (λ (m : ℕ). at loads (bench m)) (sym e), omega (arith, ap bench e))
        least i l u (no d) = behind (k.least i l (omega arith)) (no_heavier loads (bench end) y low n)

    -- .. else it stays
    pub lightest_same : at loads y ≤ at loads (bench end) → (at loads y ≡ at loads (bench end) → y ≤ bench end) → LightestAt loads bench begin (end + 1) y
    lightest_same low n = record {
      is = let (i, l, u, e) = k.is in (i, l, omega arith, e);
      least = λ i l u. elim (ℕ_discrete i end) [
        | yes e ↦ subst (λ (m : ℕ). NoHeavier loads y (bench m)) (sym e) (no_heavier loads y (bench end) low n)
        | no d ↦ k.least i l (omega arith)
      ];
    }
