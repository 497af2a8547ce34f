-- The lightest bench, and loads in falling order.
use Rattle.std.specs.Prelude.{ℕ, ◌≤◌, ◌<◌, ◌≡◌, ◌⊎◌, List}
use Rattle.graph_lists.specs.Arrays.{at}
use Rattle.table_size.specs.Sizes.{BenchIn}
use Rattle.table_size.specs.declared.Size.{Size}

-- bench y has a lower load than z, or the same load and no higher number
abbrev pub NoHeavier : List ℕ → ℕ → ℕ → Type 0
NoHeavier loads y z = (at loads y < at loads z) ⊎ ((at loads y ≡ at loads z) × (y ≤ z))

-- r has the lowest load of benches 1 to B, then the lowest number
pub record Lightest (s : Size) (loads : List ℕ) (r : ℕ) : Type 0 where
  pub is : BenchIn s r
  pub least : (x : ℕ) → BenchIn s x → NoHeavier loads r x

-- r has the lowest load of the benches at places `begin` to `end`, then the lowest number
pub record LightestAt (loads : List ℕ) (bench : ℕ → ℕ) (begin end r : ℕ) : Type 0 where
  pub is : (i : ℕ) × (begin ≤ i) × (i < end) × (bench i ≡ r)
  pub least : (i : ℕ) → begin ≤ i → i < end → NoHeavier loads r (bench i)

-- r is the greatest load of benches 1 to B below `load`, 0 where no bench has less
pub record NextLower (s : Size) (loads : List ℕ) (load r : ℕ) : Type 0 where
  pub is : (r ≡ 0) ⊎ ((x : ℕ) × BenchIn s x × (at loads x ≡ r))
  pub lower : 1 ≤ load → r < load
  pub most : (x : ℕ) → BenchIn s x → at loads x < load → at loads x ≤ r
