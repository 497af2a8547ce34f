-- The search for the path that the closing's order names.
use Rattle.std.specs.Prelude.{ℕ, suc, ◌+◌, ◌-◌, ◌≤◌, ◌<◌, ◌≡◌, ◌⊎◌, ◌≢◌, ◌↔◌, List, T, length, None, Some}
use Rattle.std.proofs.Math.Option.{some}
use Rattle.spec_lists.specs.Lists.{within, In}
use Rattle.spec_table.specs.Board.{Board, load, heaviest}
use Rattle.spec_table.specs.Table.{Storable}
use Rattle.spec_sharing.specs.Paths.{Step, steps, BenchPath}
use Rattle.spec_sharing.specs.Sharing.{below, closing_choice}
use Rattle.table_size.specs.Sizes.{BenchIn}
use Rattle.table_size.specs.declared.Size.{Size}
use Rattle.table_board.specs.BoardView.{Loaded}
use Rattle.graph_lists.specs.Arrays.{at}
use Rattle.sharing_search.specs.Searching.{Course, Searching, started}
use Rattle.sharing_paths.specs.FoundPaths.{Behind}
use Rattle.sharing_paths_to.specs.declared.Round.{Round}

-- the board c is b, but for a job of bench x: all other benches lead along the same steps
pub record WithoutJob (b c : Board) (s : Size) (x : ℕ) : Type 0 where
  pub storable : Storable c
  pub benches : c.benches ≡ s.benches
  pub jobs : length c.named ≡ s.jobs
  pub elsewhere : (z : ℕ) → z ≢ x → (q : Step) → In q (steps c z) ↔ In q (steps b z)

-- what the search goes along on the board c: the heaviest starts rank first, and those of load h are searched from now
abbrev pub course_to : Board → ℕ → ℕ → ℕ → ℕ → Course
course_to c h done end level =
    record { out = steps c; rank = below c; now = heaviest c - h; done = done; end = end; level = level }

-- bench z was found, as a start or from a start heavier than itself
abbrev pub FromHeavier : Board → List ℕ → (ℕ → BenchPath) → ℕ → Type 0
FromHeavier c came trail z =
    (1 ≤ at came z) × ((at came z ≡ started) ⊎ (load c.holders z < load c.holders (trail z).start))

-- every bench of load h or more was found so, and no start is lighter
pub record FoundFrom (c : Board) (h : ℕ) (came : List ℕ) (trail : ℕ → BenchPath) : Type 0 where
  pub heavy : (z : ℕ) → T (within 1 c.benches z) → h ≤ load c.holders z → FromHeavier c came trail z
  pub starts : (v : ℕ) → at came v ≡ started → h ≤ load c.holders v

-- the search from the benches heavier than h is over, and did not find x
pub record Rounds (b c : Board) (s : Size) (loads : List ℕ) (x h found : ℕ) (queue came : List ℕ) : Type 0 where
  pub without : WithoutJob b c s x
  pub loaded : Loaded c loads
  pub bench : BenchIn s x
  pub searching : Searching (course_to c h found found 0) s.benches 0 found queue came
  pub missed : at came x ≡ 0
  pub heavier : FoundFrom c (suc h) came searching.trail

-- the search from the benches of load h has come to those that `level` jobs lead to, at places `begin` to `end`, and
-- did not find x
pub record InRound (b c : Board) (s : Size) (loads : List ℕ) (x h begin end level : ℕ) (queue came : List ℕ) :
    Type 0 where
  pub without : WithoutJob b c s x
  pub loaded : Loaded c loads
  pub bench : BenchIn s x
  pub improves : at loads x + 2 ≤ h
  pub searching : Searching (course_to c h begin end level) s.benches 0 end queue came
  pub missed : at came x ≡ 0
  pub heavy : FoundFrom c h came searching.trail

-- x was found by n jobs, along the path that the closing's order names
pub record GoalFound (b c : Board) (s : Size) (x n found : ℕ) (queue came : List ℕ) : Type 0 where
  pub course : Course
  pub behind : Behind b course s.benches found queue came x n
  pub choice : closing_choice c x ≡ some (behind.searching.trail x)

-- what a round from the benches of load h did: it found x, or is over
pub record RoundOf (b c : Board) (s : Size) (loads : List ℕ) (x h : ℕ) (queue came : List ℕ) (r : Round) : Type 0 where
  pub none : r.jobs ≡ None → Rounds b c s loads x (h - 1) r.found queue came
  pub some : (n : ℕ) → r.jobs ≡ Some n → (n ≢ 0) × GoalFound b c s x n r.found queue came
