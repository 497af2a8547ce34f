-- A path that was found: its jobs in an array, in path order, and its other end.
use Rattle.std.specs.Prelude.{ℕ, ◌+◌, ◌-◌, ◌≤◌, ◌<◌, ◌≡◌, ◌≢◌, List, [], map, length, take, drop}
use Rattle.std.proofs.Math.Option.{Option, none, some}
use Rattle.spec_table.specs.Board.{Board, holder_of}
use Rattle.spec_table.specs.Table.{most_benches}
use Rattle.spec_sharing.specs.Paths.{Step, BenchPath, path_by, end_of, last, jobs, IsPath}
use Rattle.table_size.specs.Sizes.{JobIn}
use Rattle.table_size.specs.declared.Size.{Size}
use Rattle.graph_lists.specs.Arrays.{at}
use Rattle.sharing_search.specs.Searching.{Course, Searching, Agree, started}
use Rattle.sharing_paths.specs.declared.FoundPath.{FoundPath}

-- the path's jobs, none where there is no path
abbrev pub jobs_in : Option BenchPath → List ℕ
jobs_in none = []
jobs_in (some p) = jobs p

-- the path's last bench, x where there is no path
abbrev pub last_of : ℕ → Option BenchPath → ℕ
last_of x none = x
last_of x (some p) = last p

-- the path's first bench, x where there is no path
abbrev pub start_of : ℕ → Option BenchPath → ℕ
start_of x none = x
start_of x (some p) = p.start

-- r tells the path `choice`: its other end and the number of its jobs, which stand in `path`, in path order
pub record PathFound (choice : Option BenchPath) (end : ℕ) (path : List ℕ) (r : FoundPath) : Type 0 where
  pub bench : r.bench ≡ end
  pub count : r.jobs ≡ length (jobs_in choice)
  pub listed : take r.jobs path ≡ jobs_in choice
  pub few : r.jobs ≤ most_benches
  pub long : length path ≡ most_benches + 1

-- a search found bench y by n jobs, and from each bench but starts and y itself its course leads along the board's
-- steps
pub record Behind (b : Board) (c : Course) (benches found : ℕ) (queue came : List ℕ) (y n : ℕ) : Type 0 where
  pub searching : Searching c benches 0 found queue came
  pub reached : 1 ≤ at came y
  pub jobs : length (searching.trail y).route ≡ n
  pub agree : (w : ℕ) → 1 ≤ at came w → at came w ≢ started → w ≢ y → Agree c b w 0 started

-- at place i of the path, if it is one of its n, stands a job of 1 to J
abbrev pub JobAt : Size → List ℕ → ℕ → ℕ → Type 0
JobAt s path i n = i < n → JobIn s (at path i)

-- y holds the job at place i of the path, and is `end` behind the last of its n jobs
pub record AfterIn (b : Board) (path : List ℕ) (i n end y : ℕ) : Type 0 where
  pub next : i < n → y ≡ holder_of b (at path i)
  pub last : n ≤ i → y ≡ end

-- the route r from bench x is a path of the board to bench `end`, by the jobs at places `first` to n
pub record RouteIn (b : Board) (path : List ℕ) (first n end x : ℕ) (r : List Step) : Type 0 where
  pub is : IsPath b (path_by x r)
  pub ends : end_of x r ≡ end
  pub listed : map (λ s. s.job) r ≡ take (n - first) (drop first path)
  pub count : first + length r ≡ n
