-- Marks, and what benches bring in.
use Rattle.std.specs.Prelude.{ℕ, ◌+◌, ◌≤◌, ◌≡◌, Bool, false, not, List, T, length, get_or}
use Rattle.spec_table.specs.Table.{most_benches}
use Rattle.table_size.specs.Sizes.{BenchIn}
use Rattle.table_size.specs.declared.Size.{Size}
use Rattle.graph_lists.specs.Arrays.{at, Reached}

-- whether bench y is marked
abbrev pub mark : List Bool → ℕ → Bool
mark marks y = get_or marks y false

-- one mark for each bench
pub record Marks (marks : List Bool) : Type 0 where
  pub long : length marks ≡ most_benches + 1

-- x is a bench of 1 to B with load h or more
abbrev pub Heavy : Size → List ℕ → ℕ → ℕ → Type 0
Heavy s loads h x = BenchIn s x × (h ≤ at loads x)

-- such a bench leads to y
abbrev pub FromHeavy : Size → List ℕ → ℕ → (ℕ → ℕ → Type 0) → ℕ → Type 0
FromHeavy s loads h Joined y = (x : ℕ) × Heavy s loads h x × Joined x y

-- the benches `Seeds` are marked, and what they bring in: no mark goes, each new one is at a bench that one of them
-- reaches, and every step from a newly marked bench leads to a marked one
pub record ClosedOver (Joined : ℕ → ℕ → Type 0) (Seeds : ℕ → Type 0) (marks marks' : List Bool) : Type 0 where
  pub long : Marks marks'
  pub grows : (y : ℕ) → T (mark marks y) → T (mark marks' y)
  pub every : (y : ℕ) → Seeds y → T (mark marks' y)
  pub only : (y : ℕ) → T (not (mark marks y)) → T (mark marks' y) → (x : ℕ) × Seeds x × Reached Joined x y
  pub shut : (z y : ℕ) → T (not (mark marks z)) → T (mark marks' z) → Joined z y → T (mark marks' y)
