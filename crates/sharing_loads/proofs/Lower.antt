-- Loads in falling order: the greatest below another.
use Prim.Native.Nat.{ℕ, ◌+◌, ◌≤◌, ◌<◌, max}
use native.Mathlib.Omega.{arith}
use native.Mathlib.Decide.{ℕ_discrete, dec_le}
use mathlib.Core.Path.{◌≡◌, sym, ap, ◌∙◌}
use mathlib.Core.Logic.{◌⊎◌, inl, inr}
use mathlib.Core.List.{List}
use Rattle.graph_lists.specs.Arrays.{at}

-- `most` is the greatest load below `load` of the benches before bench x
pub record LowerBefore (loads : List ℕ) (load x most : ℕ) : Type 0 where
  pub is : (most ≡ 0) ⊎ ((z : ℕ) × (1 ≤ z) × (z < x) × (at loads z ≡ most))
  pub lower : 1 ≤ load → most < load
  pub passed : (z : ℕ) → 1 ≤ z → z < x → at loads z < load → at loads z ≤ most

-- with a load n more it is the greater of the two, if n is below `load`, else as it was
abbrev pub Next : ℕ → ℕ → ℕ → ℕ → Type 0
Next load most n p = ((n < load) × (p ≡ max most n)) ⊎ ((load ≤ n) × (p ≡ most))

module _ {loads : List ℕ} {load x most : ℕ} (h : LowerBefore loads load x most) where
  -- each bench brings its load ..
  pub lower_turn : {p : ℕ} → 1 ≤ x → Next load most (at loads x) p → LowerBefore loads load (x + 1) p
  lower_turn {p} l w = record { is = is w; lower = λ one. lower (h.lower one) w; passed = passed }
    where
      kept : p ≡ most → (p ≡ 0) ⊎ ((z : ℕ) × (1 ≤ z) × (z < x + 1) × (at loads z ≡ p))
      kept e = elim h.is [ inl d ↦ inl (e ∙ d) | inr v ↦ inr (v.0, v.1, omega (arith, v.2), v.3 ∙ sym e) ]

      is : Next load most (at loads x) p → (p ≡ 0) ⊎ ((z : ℕ) × (1 ≤ z) × (z < x + 1) × (at loads z ≡ p))
      is (inl g) = elim (dec_le (at loads x) most) [ yes u ↦ kept (omega (arith, g.1)) | no u ↦ inr (x, l, omega arith, omega (arith, g.1)) ]
      is (inr g) = kept g.1

      lower : most < load → Next load most (at loads x) p → p < load
      lower m (inl g) = omega (arith, g.0, g.1)
      lower m (inr g) = omega (arith, g.1)

      passed : (z : ℕ) → 1 ≤ z → z < x + 1 → at loads z < load → at loads z ≤ p
      passed z i u k = elim (ℕ_discrete z x) [ yes e ↦ here (ap (at loads) e) w | no d ↦ before (h.passed z i (omega arith) k) w ]
        where
          here : at loads z ≡ at loads x → Next load most (at loads x) p → at loads z ≤ p
          here e (inl g) = omega (arith, g.1)
          here e (inr g) = omega (arith, g.0)

          before : at loads z ≤ most → Next load most (at loads x) p → at loads z ≤ p
          before m (inl g) = omega (arith, g.1)
          before m (inr g) = omega (arith, g.1)
