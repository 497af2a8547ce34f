-- The board with the new job: its benches and steps, and its loads in an array.
use Prim.Native.Nat.{ℕ, ◌≤◌}
use native.Mathlib.Omega.{arith}
use mathlib.Core.Path.{◌≡◌}
use mathlib.Core.List.{List}
use lib.Dec.{T}
use lib.ListN.{length}
use Rattle.spec_lists.specs.Lists.{within}
use Rattle.spec_table.specs.Board.{Board, load}
use Rattle.spec_table.specs.Table.{most_benches, most_jobs}
use Rattle.spec_lists.proofs.Tests.{within_low, within_high, within_both}
use Rattle.table_size.specs.Sizes.{BenchIn}
use Rattle.table_size.specs.declared.Size.{Size}
use Rattle.table_board.specs.BoardView.{Loaded}
use Rattle.graph_lists.specs.Arrays.{at}
use Rattle.sharing_paths_from.specs.ArrivalSearch.{WithJob}

module _ {b c : Board} {s : Size} {x job other : ℕ} (joined : WithJob b c s x job other) where
  -- it has no more benches than the arrays ..
  pub benches_most : s.benches ≤ most_benches
  benches_most = omega (arith, joined.benches, within_high 1 most_benches c.benches joined.storable.benches)

  -- .. and no more jobs
  pub jobs_most : s.jobs ≤ most_jobs
  jobs_most = omega (arith, joined.jobs, within_high 1 most_jobs (length c.named) joined.storable.jobs)

  -- a bench of the size is one of the board ..
  pub on_board : {z : ℕ} → BenchIn s z → T (within 1 c.benches z)
  on_board {z} w = rw joined.benches (within_both 1 s.benches z w.least w.most)

  -- .. and back
  pub in_size : (z : ℕ) → T (within 1 c.benches z) → BenchIn s z
  in_size z t = record { least = within_low 1 c.benches z t; most = omega (arith, within_high 1 c.benches z t, joined.benches) }

  -- its load stands at its number
  pub load_at : {loads : List ℕ} {z : ℕ} → Loaded c loads → BenchIn s z → at loads z ≡ load c.holders z
  load_at {z = z} l w = l.bench z w.least (omega (arith, w.most, benches_most))
