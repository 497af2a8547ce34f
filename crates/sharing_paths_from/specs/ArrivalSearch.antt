-- The search for the path that the arrival's order names.
use Rattle.std.specs.Prelude.{ℕ, ◌+◌, ◌≤◌, ◌<◌, ◌≡◌, ◌⊎◌, ◌≢◌, ◌↔◌, List, length, Option, None, Some}
use Rattle.spec_lists.specs.Lists.{In}
use Rattle.spec_table.specs.Board.{Board, holder_of}
use Rattle.spec_table.specs.Table.{most_benches, most_jobs, Storable}
use Rattle.spec_sharing.specs.Paths.{Step, step_by, steps}
use Rattle.spec_sharing.specs.Searches.{distance, Lower, ArrivalEnd, FirstList}
use Rattle.table_size.specs.Sizes.{BenchIn}
use Rattle.table_size.specs.declared.Size.{Size}
use Rattle.table_board.specs.BoardView.{Loaded}
use Rattle.graph_lists.specs.Arrays.{at}
use Rattle.sharing_loads.specs.LoadRanks.{Lightest}
use Rattle.sharing_search.specs.Searching.{Course, Searching, started}
use Rattle.sharing_paths.specs.FoundPaths.{Behind}
use Rattle.sharing_paths.specs.declared.FoundPath.{FoundPath}
use Rattle.sharing_paths_from.specs.declared.new_job.NewJob.{NewJob}

-- the board c is b, where bench x has one job more, by which it leads to bench `other`; the same steps where job is 0
pub record WithJob (b c : Board) (s : Size) (x job other : ℕ) : Type 0 where
  pub storable : Storable c
  pub benches : c.benches ≡ s.benches
  pub jobs : length c.named ≡ s.jobs
  pub elsewhere : (z : ℕ) → z ≢ x → (q : Step) → In q (steps c z) ↔ In q (steps b z)
  pub here : (q : Step) → In q (steps c x) ↔ (In q (steps b x) ⊎ ((job ≢ 0) × (q ≡ step_by job other)))
  pub free : holder_of b job ≡ 0
  pub few : job ≤ most_jobs
  pub leads : other ≤ most_benches

-- the arriving job's number, 0 where none arrives
abbrev pub job_of : Option NewJob → ℕ
job_of None = 0
job_of (Some n) = n.job

-- the bench that the arriving job leads to, 0 where none arrives
abbrev pub leads_to : Option NewJob → ℕ
leads_to None = 0
leads_to (Some n) = n.other

-- the board c is b, where bench x has the arriving job more; the same steps where none arrives
abbrev pub WithNew : Board → Board → Size → ℕ → Option NewJob → Type 0
WithNew b c s x arriving = WithJob b c s x (job_of arriving) (leads_to arriving)

-- what a search from x over the board c goes along: every start has the same rank
abbrev pub course_from : Board → ℕ → ℕ → ℕ → Course
course_from c done end level = record { out = steps c; rank = λ v. 0; now = 0; done = done; end = end; level = level }

-- the search from x alone is at place `done`; the benches at places `done` to `end` are those that `level` jobs lead to
pub record FromBench (c : Board) (benches x done end level found : ℕ) (queue came : List ℕ) : Type 0 where
  pub searching : Searching (course_from c done end level) benches 0 found queue came
  pub first : at queue 0 ≡ x
  pub start : at came x ≡ started
  pub only : (v : ℕ) → at came v ≡ started → v ≡ x

-- the steps from x were taken: the benches at places 1 to `end` are those that one job leads to. `goal` is the lightest
-- bench of all, and x is heavier by two or more
pub record FirstLevel (b c : Board) (s : Size) (loads : List ℕ) (x job other goal end : ℕ) (queue came : List ℕ) :
    Type 0 where
  pub joined : WithJob b c s x job other
  pub loaded : Loaded c loads
  pub bench : BenchIn s x
  pub lightest : Lightest s loads goal
  pub heavier : at loads goal + 2 ≤ at loads x
  pub from : FromBench c s.benches x 1 end 1 end queue came

-- benches stand in the queue from place `begin` to `end`, with the loads of a board
pub record Weighed (queue : List ℕ) (begin end : ℕ) (loads : List ℕ) : Type 0 where
  pub some : begin < end
  pub most : end ≤ most_benches
  pub bench : (i : ℕ) → begin ≤ i → i < end → (at queue i ≤ most_benches) × (at loads (at queue i) ≤ most_jobs)

-- r is the end that the arrival's order names, x and 0 where no bench is one; and it can be followed back, along the
-- first list to it
pub record EndFound (b c : Board) (benches x : ℕ) (queue came : List ℕ) (r : FoundPath) : Type 0 where
  pub none : r.jobs ≡ 0 → (r.bench ≡ x) × ((z : ℕ) → Lower c x (distance c x) z → ⊥)
  pub some : r.jobs ≢ 0 → ArrivalEnd c x (distance c x) r.bench
  pub course : Course
  pub found : ℕ
  pub behind : Behind b course benches found queue came r.bench r.jobs
  pub list : FirstList c x r.bench (distance c x r.bench) (behind.searching.trail r.bench).route
