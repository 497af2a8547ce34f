-- What the walks leave.
use Rattle.std.specs.Prelude.{ℕ, ◌≡◌, List, [], length, get_or}
use Rattle.spec_lists.specs.Lists.{nth}
use Rattle.spec_table.specs.Table.{Layout, chains}
use Rattle.table_size.specs.Sizes.{BenchIn, ByBench}
use Rattle.table_size.specs.declared.Size.{Size}

-- at each bench the number of jobs on its chain
pub record ChainLengths (l : Layout) (s : Size) (lengths : List ℕ) : Type 0 where
  pub by_bench : ByBench s lengths
  pub chain : (x : ℕ) → BenchIn s x → get_or lengths x 0 ≡ length (nth (chains l) x [])
