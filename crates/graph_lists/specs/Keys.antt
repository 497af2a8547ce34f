-- Keys of benches, and the benches that are wanted.
use Rattle.std.specs.Prelude.{ℕ, ◌≤◌, ◌<◌, List}
use Rattle.spec_table.specs.Table.{most_benches}
use Rattle.graph_lists.specs.Arrays.{at}

-- bench w is wanted: its key is at most the limit
abbrev pub Wanted : List ℕ → ℕ → ℕ → Type 0
Wanted key limit w = at key w ≤ limit

-- benches stand in the queue from place `begin` to `end`
pub record QueuedIn (queue : List ℕ) (begin end : ℕ) : Type 0 where
  pub most : end ≤ most_benches
  pub bench : (i : ℕ) → begin ≤ i → i < end → at queue i ≤ most_benches

-- one of them is wanted
abbrev pub WantedIn : List ℕ → ℕ → ℕ → List ℕ → ℕ → Type 0
WantedIn queue begin end key limit = (i : ℕ) × (begin ≤ i) × (i < end) × Wanted key limit (at queue i)
