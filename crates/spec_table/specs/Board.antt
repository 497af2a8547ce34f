-- The board as mathematics sees it: jobs that name benches, and who holds each. A job names a list of benches; how
-- many is the table's affair, and nothing here depends on it.
use Rattle.std.specs.Prelude.{ℕ, suc, ◌-◌, Bool, cond, not, ◌&&◌, List, [], ◌∷◌, T, eqb, length}
use Rattle.spec_lists.specs.Lists.{within, count, member, distinct, total, greatest, filter, all, Each, empty, nth, update}

-- 000: an oriented multigraph; a bench is a vertex, a job an edge, its holder the vertex that the edge leaves.
-- Benches are 1 to `benches`; for each job number in order the benches that the job names, [] for no job; and the
-- bench that holds it, 0 for no job
pub record Board : Type 0 where
  pub benches : ℕ
  pub named : List (List ℕ)
  pub holders : List ℕ

-- the benches that job j names, in their order
abbrev pub names_of : Board → ℕ → List ℕ
names_of b j = nth b.named j []

-- the bench that holds job j
abbrev pub holder_of : Board → ℕ → ℕ
holder_of b j = nth b.holders j 0

-- job j stands
abbrev pub stands : Board → ℕ → Bool
stands b j = not (empty (names_of b j))

-- the number of standing jobs
abbrev pub standing : Board → ℕ
standing b = length (filter (λ names. not (empty names)) b.named)

-- the board with the benches of job j and its holder written anew; [] and 0 take the job away
abbrev pub put : Board → ℕ → List ℕ → ℕ → Board
put b j names h =
    record { benches = b.benches; named = update b.named j names; holders = update b.holders j h }

-- "a bench's load is then the number of jobs given to it"; 000: the vertex's out-degree
abbrev pub load : List ℕ → ℕ → ℕ
load holders x = count x holders

-- the jobs from number i on that bench x holds, rising; the first holder is that of job i
abbrev pub jobs_held : ℕ → ℕ → List ℕ → List ℕ
jobs_held i x [] = []
jobs_held i x (h ∷ holders) = let r = jobs_held (suc i) x holders in cond (eqb h x) (i ∷ r) r

-- the heaviest load of benches 1 to B, 0 without jobs; 000: the maximum out-degree
unfoldable pub heaviest : Board → ℕ
heaviest b = greatest b.benches (load b.holders)

-- 01: overhang. "Each load above h less h, added up over benches 1 to B"
unfoldable pub excess : ℕ → List ℕ → ℕ → ℕ
excess benches holders h = total benches (λ x. load holders x - h)

-- a bench that may hold a job with these names: one of them, and 0 where there is no job
abbrev pub may_hold : List ℕ → ℕ → Bool
may_hold [] h = eqb h 0
may_hold (x ∷ names) h = member h (x ∷ names)

-- "A sharing of the book's jobs gives each job to one bench it names"; 000: an orientation
abbrev pub Shares : List (List ℕ) → List ℕ → Type 0
Shares [] [] = Unit {0}
Shares [] (h ∷ holders) = ⊥
Shares (names ∷ named) [] = ⊥
Shares (names ∷ named) (h ∷ holders) = T (may_hold names h) × Shares named holders

-- the same jobs, held otherwise
abbrev pub held_by : Board → List ℕ → Board
held_by b holders = record { benches = b.benches; named = b.named; holders = holders }

-- different benches of 1 to B
abbrev pub names_fit : ℕ → List ℕ → Bool
names_fit benches names = all (within 1 benches) names && distinct names

-- a board whose jobs name different benches of 1 to B and are held by one that they name
pub record Valid (b : Board) : Type 0 where
  pub names : Each (λ names. T (names_fit b.benches names)) b.named
  pub shares : Shares b.named b.holders
