-- Lists of jobs in arrays: a first job for each bench, and after each job the next one.
use Rattle.std.specs.Prelude.{ℕ, ◌+◌, ◌≡◌, List, [], ◌∷◌, T, length, get_or}
use Rattle.spec_lists.specs.Lists.{within}
use Rattle.spec_table.specs.Board.{Board, jobs_held}
use Rattle.spec_table.specs.Table.{most_benches, most_jobs}

-- the jobs from job j on, each followed by the one that stands at it; 0 ends the list
pub data ListFrom (next : List ℕ) : ℕ → List ℕ → Type 0 where
  list_end : ListFrom next 0 []
  list_job : {j : ℕ} {js : List ℕ} → T (within 1 most_jobs j) → ListFrom next (get_or next j 0) js → ListFrom next j (j ∷ js)

-- at each bench begins the list of the jobs that it holds, rising
pub record JobLists (b : Board) (head next : List ℕ) : Type 0 where
  pub held : (x : ℕ) → T (within 1 b.benches x) → ListFrom next (get_or head x 0) (jobs_held 1 x b.holders)
  pub heads_long : length head ≡ most_benches + 1
  pub nexts_long : length next ≡ most_jobs + 1
