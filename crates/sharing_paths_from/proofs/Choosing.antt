-- The lightest of the benches at some places of a queue, as far as they were compared.
use Prim.Native.Nat.{ℕ, ◌≤◌, ◌<◌}
use mathlib.Core.List.{List}
use Rattle.spec_table.specs.Table.{most_benches, most_jobs}
use Rattle.graph_lists.specs.Arrays.{at}
use Rattle.sharing_loads.specs.LoadRanks.{LightestAt}

-- of the benches at places `begin` to i the lightest is `low`, a bench with the load of a board
pub record Among (queue : List ℕ) (begin end : ℕ) (loads : List ℕ) (low i : ℕ) : Type 0 where
  pub lightest : LightestAt loads (at queue) begin i low
  pub rises : begin < i
  pub most : i ≤ end
  pub bench : low ≤ most_benches
  pub load : at loads low ≤ most_jobs
