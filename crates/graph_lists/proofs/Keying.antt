-- Keys of benches: a wanted bench in the queue.
use Prim.Native.Nat.{ℕ, ◌+◌, ◌≤◌, ◌<◌}
use native.Mathlib.Omega.{arith}
use native.Mathlib.Decide.{ℕ_discrete}
use mathlib.Core.Path.{ap}
use mathlib.Core.List.{List}
use Rattle.graph_lists.specs.Arrays.{at}
use Rattle.graph_lists.specs.Keys.{WantedIn}

module _ (queue key : List ℕ) (begin limit : ℕ) where
  -- where no place before i has a wanted bench, and i has none, the places to i have none ..
  pub wanted_turn : (i : ℕ) → (WantedIn queue begin i key limit → ⊥) → limit < at key (at queue i) → WantedIn queue begin (i + 1) key limit → ⊥
  wanted_turn i none high (k, l, u, low) =
      elim (ℕ_discrete k i) [ yes e ↦ omega (arith, ap (λ (n : ℕ). at key (at queue n)) e) | no d ↦ none (k, l, omega arith, low) ]

  -- .. and at the end none has one
  pub wanted_end : (i end : ℕ) → (WantedIn queue begin i key limit → ⊥) → end ≤ i → WantedIn queue begin end key limit → ⊥
  wanted_end i end none h (k, l, u, low) = none (k, l, omega arith, low)
