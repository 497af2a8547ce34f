-- A table's chains in arrays: as they are stored.
use Rattle.std.specs.Prelude.{ℕ, ◌≡◌, List, T}
use Rattle.spec_table.specs.Board.{stands}
use Rattle.spec_table.specs.Table.{decode}
use Rattle.table_size.specs.declared.Size.{Size}
use Rattle.table_chains.specs.Chains.{stored_next, StoredHeads}
use Rattle.graph_lists.specs.Arrays.{at}
use Rattle.sharing_steps.specs.Others.{other_of}

-- at each standing job the job after it on its chain, and the other bench that it names
pub record StoredJobs (t next to : List ℕ) : Type 0 where
  pub nexts : (j : ℕ) → T (stands (decode t) j) → at next j ≡ stored_next t j
  pub others : (j : ℕ) → T (stands (decode t) j) → at to j ≡ other_of (decode t) j

-- the arrays have the table's chains
pub record StoredChains (t : List ℕ) (s : Size) (head next to : List ℕ) : Type 0 where
  pub heads : StoredHeads t s head
  pub jobs : StoredJobs t next to
