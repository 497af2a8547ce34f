-- 01, "Sharing", first paragraph: steps, paths, improving paths, turning a path.
use Rattle.std.specs.Prelude.{ℕ, zero, suc, ◌+◌, ◌≡◌, Bool, true, cond, not, eqb, leb}
use mathlib.Core.List.{List, [], ◌∷◌, ◌++◌, map, flat_map}
use Rattle.spec_lists.specs.Lists.{member, distinct, range, filter, In, update}
use Rattle.spec_table.specs.Board.{Board, load}

-- by this job, to this bench
pub record Step : Type 0 where
  pub job : ℕ
  pub to : ℕ

-- the step by job j to bench y
abbrev pub step_by : ℕ → ℕ → Step
step_by j y = record { job = j; to = y }

-- "each step is by a job held by the bench it leaves, to that job's other bench": the steps from bench x by the jobs
-- from j on
abbrev pub steps_from : ℕ → ℕ → List (List ℕ) → List ℕ → List Step
steps_from j x [] holders = []
steps_from j x (names ∷ named) [] = []
steps_from j x (names ∷ named) (h ∷ holders) =
    let others = map (step_by j) (filter (λ y. not (eqb y x)) names) in
    let later = steps_from (suc j) x named holders in
    cond (eqb h x) (others ++ later) later

-- the steps from bench x
unfoldable pub steps : Board → ℕ → List Step
steps b x = steps_from 1 x b.named b.holders

-- a path: its first bench and its steps
pub record BenchPath : Type 0 where
  pub start : ℕ
  pub route : List Step

-- the path from x with these steps
abbrev pub path_by : ℕ → List Step → BenchPath
path_by x r = record { start = x; route = r }

-- the bench that a route from x leads to
abbrev pub end_of : ℕ → List Step → ℕ
end_of x [] = x
end_of x (s ∷ r) = end_of s.to r

-- a path's last bench
abbrev pub last : BenchPath → ℕ
last p = end_of p.start p.route

-- a path's jobs, in path order
abbrev pub jobs : BenchPath → List ℕ
jobs p = map (λ s. s.job) p.route

-- each step of the route leaves the bench that the one before it led to
abbrev pub Walk : (ℕ → List Step) → ℕ → List Step → Type 0
Walk out x [] = Unit {0}
Walk out x (s ∷ r) = In s (out x) × Walk out s.to r

-- "A path goes from bench to bench, no bench twice"
pub record IsPath (b : Board) (p : BenchPath) : Type 0 where
  pub walk : Walk (steps b) p.start p.route
  pub once : distinct (p.start ∷ map (λ s. s.to) p.route) ≡ true

-- the routes from x that come to no bench already seen: none, or a step and a route from there. The fuel is the
-- number of benches
abbrev pub routes : (ℕ → List Step) → ℕ → List ℕ → ℕ → List (List Step)
routes out zero seen x = [] ∷ []
routes out (suc k) seen x =
    [] ∷ flat_map (λ s. map (λ r. s ∷ r) (routes out k (s.to ∷ seen) s.to))
    (filter (λ s. not (member s.to seen)) (out x))

-- all paths from bench x
unfoldable pub paths_from : Board → ℕ → List BenchPath
paths_from b x = map (path_by x) (routes (steps b) b.benches (x ∷ []) x)

-- "It improves if its first bench has a load at least two above its last"
unfoldable pub improves : Board → BenchPath → Bool
improves b p = leb (load b.holders (last p) + 2) (load b.holders p.start)

-- the improving paths from bench x
unfoldable pub improving_from : Board → ℕ → List BenchPath
improving_from b x = filter (improves b) (paths_from b x)

-- all improving paths
unfoldable pub improving : Board → List BenchPath
improving b = flat_map (improving_from b) (range 1 b.benches)

-- the improving paths that end at bench x
unfoldable pub improving_to : Board → ℕ → List BenchPath
improving_to b x = filter (λ p. eqb (last p) x) (improving b)

-- the holders after each job of a route went to the bench its step leads to
abbrev pub hand_over : List ℕ → List Step → List ℕ
hand_over holders [] = holders
hand_over holders (s ∷ r) = hand_over (update holders s.job s.to) r

-- "Turning a path hands each of its jobs to the other bench"; 000: to flip it
unfoldable pub flip : Board → BenchPath → Board
flip b p = record { benches = b.benches; named = b.named; holders = hand_over b.holders p.route }
