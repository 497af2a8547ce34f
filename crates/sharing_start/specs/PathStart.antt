-- The bench that starts the path which levelling flips.
use Rattle.std.specs.Prelude.{ℕ, suc, ◌+◌, ◌-◌, ◌*◌, ◌≤◌, ◌<◌, ◌≡◌, ◌⊎◌, List, T, length, Option, None, Some}
use Rattle.spec_table.specs.Board.{Board, load}
use Rattle.spec_table.specs.Table.{most_benches, most_jobs}
use Rattle.spec_sharing.specs.Paths.{steps}
use Rattle.spec_sharing.specs.Sharing.{level}
use Rattle.spec_sharing.specs.Searches.{StartsOne}
use Rattle.table_size.specs.Sizes.{BenchIn}
use Rattle.table_size.specs.declared.Size.{Size}
use Rattle.graph_lists.specs.Arrays.{at}
use Rattle.sharing_search.specs.Searching.{Course, Searching}
use Rattle.sharing_start.specs.declared.Search.{Search}

-- r has the greatest load, then the lowest number, of the benches that start an improving path
pub record FirstStart (b : Board) (s : Size) (r : ℕ) : Type 0 where
  pub bench : BenchIn s r
  pub starts : StartsOne b r
  pub first :
      (w : ℕ) → BenchIn s w → StartsOne b w →
      (load b.holders w < load b.holders r) ⊎ ((load b.holders r ≡ load b.holders w) × (r ≤ w))

-- r is that bench, none where the board is level
pub record StartOf (b : Board) (s : Size) (r : Option ℕ) : Type 0 where
  pub none : r ≡ None → T (level b)
  pub some : (v : ℕ) → r ≡ Some v → FirstStart b s v

-- falling loads, and rising numbers of benches of one load
abbrev pub rank_at : ℕ → ℕ → ℕ
rank_at n x = (most_jobs - n) * (most_benches + 1) + x

-- in this order benches are searched from
abbrev pub start_rank : Board → ℕ → ℕ
start_rank b v = rank_at (load b.holders v) v

-- what searches go along: steps of the board, from one start after the other; the last had the rank `now`
abbrev pub course_of : Board → ℕ → ℕ → ℕ → ℕ → Course
course_of b now done end level =
    record { out = steps b; rank = start_rank b; now = now; done = done; end = end; level = level }

-- a bench that starts an improving path does not come before bench x of load n
abbrev pub StartsFrom : Board → Size → ℕ → ℕ → Type 0
StartsFrom b s n x =
    (w : ℕ) → BenchIn s w → StartsOne b w →
    (load b.holders w < n) ⊎ ((n ≡ load b.holders w) × (x ≤ w))

-- searches from the benches that come before bench x of load n are done, x of 1 to B + 1: every step was taken from
-- what they found, none of it is lighter than n - 1, and no such bench starts an improving path
pub record Searched (b : Board) (s : Size) (n x found : ℕ) (queue came : List ℕ) : Type 0 where
  pub now : ℕ
  pub level : ℕ
  pub searching : Searching (course_of b now found found level) s.benches 0 found queue came
  pub before : now < rank_at n x
  pub least : 1 ≤ x
  pub most : x ≤ suc s.benches
  pub few : n ≤ most_jobs
  pub high : (y : ℕ) → 1 ≤ at came y → n ≤ load b.holders y + 1
  pub first : StartsFrom b s n x

-- so it is, or the first bench that starts an improving path is known; the queue is as long as before
pub record SearchedTo (b : Board) (s : Size) (n x : ℕ) (r : Search) (queue came : List ℕ) : Type 0 where
  pub none : r.start ≡ None → Searched b s n x r.found queue came
  pub some : (v : ℕ) → r.start ≡ Some v → FirstStart b s v
  pub long : length queue ≡ most_benches + 1
