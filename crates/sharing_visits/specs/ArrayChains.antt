-- Chains in arrays, in any order: `head` has the first job of each bench's chain, `next` the job after each, and `to`
-- the bench that each leads to.
use Rattle.std.specs.Prelude.{ℕ, zero, suc, ◌≤◌, ◌≡◌, List, [], ◌∷◌, T, length}
use Rattle.spec_lists.specs.Lists.{within, In}
use Rattle.spec_table.specs.Table.{most_benches, most_jobs}
use Rattle.graph_lists.specs.Arrays.{at}

-- the jobs on a chain from job j on: "Next 0 ends a chain"
abbrev pub chain_along : List ℕ → ℕ → ℕ → List ℕ
chain_along next zero j = []
chain_along next (suc k) zero = []
chain_along next (suc k) (suc i) = suc i ∷ chain_along next k (at next (suc i))

-- the same, with fuel for one more than the most jobs, so that a chain which does not end is too long
unfoldable pub chain_on : List ℕ → ℕ → List ℕ
chain_on next j = chain_along next (suc most_jobs) j

-- the chain from job j on ends, and each job on it leads to a bench
pub record Walkable (next to : List ℕ) (j : ℕ) : Type 0 where
  pub ends : length (chain_on next j) ≤ most_jobs
  pub jobs : (i : ℕ) → In i (chain_on next j) → i ≤ most_jobs
  pub leads : (i : ℕ) → In i (chain_on next j) → T (within 1 most_benches (at to i))

-- so does every bench's chain
pub record BenchChains (head next to : List ℕ) : Type 0 where
  pub bench : (x : ℕ) → T (within 1 most_benches x) → Walkable next to (at head x)

-- a job on the chain from job j on leads to y
abbrev pub FromChain : List ℕ → List ℕ → ℕ → ℕ → Type 0
FromChain next to j y = (i : ℕ) × In i (chain_on next j) × (at to i ≡ y)

-- a job on x's chain leads to y
abbrev pub Leads : List ℕ → List ℕ → List ℕ → ℕ → ℕ → Type 0
Leads head next to x y = FromChain next to (at head x) y
