-- A breadth-first search along the jobs of benches. `queue` has the benches in the order of finding, `came` at each
-- bench the job by which it was found, 0 for none, and at a start a mark. From the benches before one place of the
-- queue every step was taken, and from the bench at that place the steps by jobs below a limit.
use Rattle.std.specs.Prelude.{ℕ, suc, ◌+◌, ◌≤◌, ◌<◌, ◌≡◌, ◌⊎◌, ◌≢◌, ◌↔◌, cond, List, [], T, eqb, ltb, length, set}
use Rattle.spec_lists.specs.Lists.{bit, within, total, In}
use Rattle.spec_table.specs.Board.{Board}
use Rattle.spec_table.specs.Table.{most_benches, most_jobs}
use Rattle.spec_sharing.specs.Paths.{Step, step_by, steps, BenchPath, path_by}
use Rattle.spec_sharing.specs.Searches.{further, NoLater, Sooner}
use Rattle.graph_lists.specs.Arrays.{at}
use Rattle.table_size.specs.declared.Size.{Size}
use Rattle.table_order.specs.InOrder.{FirstFrom}

-- the mark of a start: no job has this number
abbrev pub started : ℕ
started = most_jobs + 1

-- where a search leads, and where it is, for the proofs alone: the steps from each bench; the rank of each start, that
-- of the starts now searched from; the place in the queue; the place where the next level begins, and how many jobs led
-- to the benches before it
pub record Course : Type 0 where
  pub out : ℕ → List Step
  pub rank : ℕ → ℕ
  pub now : ℕ
  pub done : ℕ
  pub end : ℕ
  pub level : ℕ

-- the course at another place of the queue
abbrev pub at_place : Course → ℕ → Course
at_place c done =
    record { out = c.out; rank = c.rank; now = c.now; done = done; end = c.end; level = c.level }

-- the course at the next level: it ends where the benches found so far do
abbrev pub at_level : Course → ℕ → Course
at_level c found =
    record { out = c.out; rank = c.rank; now = c.now; done = c.end; end = found; level = suc c.level }

-- the course at the beginning of a round, from starts of one rank, at places `done` to `end`
abbrev pub at_round : Course → ℕ → ℕ → ℕ → Course
at_round c now done end =
    record { out = c.out; rank = c.rank; now = now; done = done; end = end; level = 0 }

-- the step by job j from place i was taken
abbrev pub Taken : Course → ℕ → ℕ → ℕ → Type 0
Taken c limit i j = (i < c.done) ⊎ ((i ≡ c.done) × (j < limit))

-- the search, as far as it went
pub record Searching (c : Course) (benches limit found : ℕ) (queue came : List ℕ) : Type 0 where
  -- by which path each bench was found
  pub trail : ℕ → BenchPath
  -- the steps are by jobs and lead to benches, each job to one
  pub steps_in : (z : ℕ) (q : Step) → In q (c.out z) → T (within 1 most_jobs q.job) × T (within 1 benches q.to)
  pub one : (z : ℕ) (p q : Step) → In p (c.out z) → In q (c.out z) → p.job ≡ q.job → p.to ≡ q.to
  -- the benches that were found stand in the queue
  pub few : benches ≤ most_benches
  pub queue_long : length queue ≡ most_benches + 1
  pub came_long : length came ≡ most_benches + 1
  pub counted : found ≡ total most_benches (λ y. bit (ltb 0 (at came y)))
  pub bench : (i : ℕ) → i < found → T (within 1 benches (at queue i)) × (1 ≤ at came (at queue i))
  pub listed : (y : ℕ) → 1 ≤ at came y → (i : ℕ) × (i < found) × (at queue i ≡ y)
  pub marks : (y : ℕ) → at came y ≤ started
  -- in the order of their trails
  pub sorted : (i k : ℕ) → i < k → k < found → Sooner c.rank (trail (at queue i)) (trail (at queue k))
  -- a start's trail is its own, any other bench's goes on by its job from a bench from which that step was taken
  pub own : (v : ℕ) → at came v ≡ started → trail v ≡ path_by v []
  pub from :
      (y : ℕ) → 1 ≤ at came y → at came y ≢ started →
      (i : ℕ) × (i < found) × Taken c limit i (at came y) × In (step_by (at came y) y) (c.out (at queue i)) ×
      (trail y ≡ further (trail (at queue i)) (step_by (at came y) y))
  -- a step that was taken leads to a bench that was found, at latest by it
  pub on :
      (i : ℕ) (q : Step) → i < found → Taken c limit i q.job → In q (c.out (at queue i)) →
      (1 ≤ at came q.to) × NoLater c.rank (trail q.to) (further (trail (at queue i)) q)
  -- the places, and what is known of the benches at and behind the search's place
  pub place : c.done ≤ c.end
  pub places : c.end ≤ found
  pub ranked : (i : ℕ) → i < found → c.rank (trail (at queue i)).start ≤ c.now
  pub round : (i : ℕ) → c.done ≤ i → i < found → c.rank (trail (at queue i)).start ≡ c.now
  pub near : (i : ℕ) → c.done ≤ i → i < c.end → length (trail (at queue i)).route ≡ c.level
  pub far : (i : ℕ) → c.end ≤ i → i < found → length (trail (at queue i)).route ≡ suc c.level

-- bench u was found, and steps from it may still be to be taken
abbrev pub Open : Course → ℕ → List ℕ → ℕ → Type 0
Open c found queue u = (i : ℕ) × (c.done ≤ i) × (i < found) × (at queue i ≡ u)

-- bench y was found by job j and got the next place in the queue, if it was not found before
pub record Discovered (y j found : ℕ) (queue came : List ℕ) (found' : ℕ) (queue' came' : List ℕ) : Type 0 where
  pub count : found' ≡ found + bit (eqb (at came y) 0)
  pub job : came' ≡ cond (eqb (at came y) 0) (set came y j) came
  pub place : queue' ≡ cond (eqb (at came y) 0) (set queue found y) queue

-- what was found stays, and what is new stands in the queue behind it
pub record Grown (found : ℕ) (queue came : List ℕ) (found' : ℕ) (queue' came' : List ℕ) : Type 0 where
  pub more : found ≤ found'
  pub before : (i : ℕ) → i < found → at queue' i ≡ at queue i
  pub kept : (y : ℕ) → 1 ≤ at came y → at came' y ≡ at came y

-- from bench z the course leads along the board's steps, by the jobs from `low` on and below `high`
abbrev pub Agree : Course → Board → ℕ → ℕ → ℕ → Type 0
Agree c b z low high = (q : Step) → low ≤ q.job → q.job < high → In q (c.out z) ↔ In q (steps b z)

-- the search is at bench x and comes to job j, the lowest from `low` on that x holds; it is to go on below `high`
pub record AtBench (c : Course) (b : Board) (s : Size) (x j low high found : ℕ) (queue came : List ℕ) : Type 0 where
  pub searching : Searching c s.benches low found queue came
  pub reached : c.done < c.end
  pub here : at queue c.done ≡ x
  pub next : FirstFrom b s x low j
  pub agree : Agree c b x low high
  pub rises : low ≤ high
  pub most : high ≤ started

-- from the places `done` to `end` on the course leads along the board's steps
pub record AtLevel (c : Course) (b : Board) (s : Size) (done end found : ℕ) (queue came : List ℕ) : Type 0 where
  pub searching : Searching c s.benches 0 found queue came
  pub at_done : c.done ≡ done
  pub at_end : c.end ≡ end
  pub agree : (i : ℕ) → done ≤ i → i < end → Agree c b (at queue i) 0 started

-- the search went on over a level, to its end or until `goal` was found
pub record Level (c : Course) (benches goal found : ℕ) (queue came : List ℕ) : Type 0 where
  pub place : ℕ
  pub searching : Searching (at_place c place) benches 0 found queue came
  pub whole : (place ≡ c.end) ⊎ (1 ≤ at came goal)
