-- What a search is to find: the benches that a bench reaches and how far they are, the bench that starts levelling's
-- path, the end of an arrival's path and the first list to it; and in which order paths are found. These are no rules
-- of 01: the contracts of the searches speak in these words, and laws say that they come to the rules' paths.
use Rattle.std.specs.Prelude.{ℕ, suc, ◌+◌, ◌≤◌, ◌<◌, ◌≡◌, ◌⊎◌, List, [], ◌∷◌, ◌++◌, T, eqb, length}
use Rattle.std.proofs.Math.Option.{Option, none, some}
use Rattle.spec_lists.specs.Lists.{within, lex_le, filter, argmin}
use Rattle.spec_table.specs.Board.{Board, load}
use Rattle.spec_sharing.specs.Paths.{Step, steps, BenchPath, path_by, end_of, last, jobs, Walk, paths_from}

-- bench x reaches bench y: a walk leads from x to y, by the steps `out` of each bench. It may come to a bench twice
abbrev pub Reach : (ℕ → List Step) → ℕ → ℕ → Type 0
Reach out x y = (r : List Step) × Walk out x r × (end_of x r ≡ y)

-- bench x starts an improving path: it reaches a bench whose load is lower by two or more
abbrev pub StartsOne : Board → ℕ → Type 0
StartsOne b x = (y : ℕ) × Reach (steps b) x y × (load b.holders y + 2 ≤ load b.holders x)

-- how many steps a path has, as a key: the shortest come first
abbrev pub steps_key : BenchPath → List ℕ
steps_key p = length p.route ∷ []

-- one more than the steps of a path, 0 for none
abbrev pub far : Option BenchPath → ℕ
far none = 0
far (some p) = suc (length p.route)

-- the paths from x to y
abbrev pub paths_to : Board → ℕ → ℕ → List BenchPath
paths_to b x y = filter (λ p. eqb (last p) y) (paths_from b x)

-- the distance from x to y: one more than the steps of a shortest path, 0 where none leads there
unfoldable pub distance : Board → ℕ → ℕ → ℕ
distance b x y = far (argmin steps_key (paths_to b x y))

-- y is a bench where an improving path from x may end; f are the distances from x
pub record Lower (b : Board) (x : ℕ) (f : ℕ → ℕ) (y : ℕ) : Type 0 where
  pub bench : T (within 1 b.benches y)
  pub reached : 1 ≤ f y
  pub lower : load b.holders y + 2 ≤ load b.holders x

-- y is the first of these by the arrival's order: "lowest last load, then fewest jobs, then lowest last bench"
pub record ArrivalEnd (b : Board) (x : ℕ) (f : ℕ → ℕ) (y : ℕ) : Type 0 where
  pub is : Lower b x f y
  pub first :
      (z : ℕ) → Lower b x f z →
      (load b.holders y < load b.holders z) ⊎
      ((load b.holders y ≡ load b.holders z) × ((f y < f z) ⊎ ((f y ≡ f z) × (y ≤ z))))

-- r is a walk from x to y with d - 1 steps, and its list of jobs is the first of all such walks' in dictionary order
pub record FirstList (b : Board) (x y d : ℕ) (r : List Step) : Type 0 where
  pub walk : Walk (steps b) x r
  pub ends : end_of x r ≡ y
  pub long : d ≡ suc (length r)
  pub first :
      (q : List Step) → Walk (steps b) x q → end_of x q ≡ y → length q ≡ length r →
      T (lex_le (jobs (path_by x r)) (jobs (path_by x q)))

-- a path with one step more
abbrev pub further : BenchPath → Step → BenchPath
further p q = path_by p.start (p.route ++ (q ∷ []))

-- the order in which a search finds: by the rank of the start, then fewest jobs, lowest start, first list. With
-- `below` as the rank that is the closing's order, word for word; with one start only length and list count
abbrev pub search_key : (ℕ → ℕ) → BenchPath → List ℕ
search_key rank p = rank p.start ∷ length p.route ∷ p.start ∷ jobs p

-- p is found no later than q: its key is not above that of q
abbrev pub NoLater : (ℕ → ℕ) → BenchPath → BenchPath → Type 0
NoLater rank p q = T (lex_le (search_key rank p) (search_key rank q))

-- p is found sooner than q
abbrev pub Sooner : (ℕ → ℕ) → BenchPath → BenchPath → Type 0
Sooner rank p q = NoLater rank q p → ⊥
