-- Marks as a set of benches, and the tight set of a height.
use Rattle.std.specs.Prelude.{ℕ, ◌<◌, ◌≡◌, ◌↔◌, Bool, cond, List, T, length}
use Rattle.spec_lists.specs.Lists.{range, filter, total}
use Rattle.spec_table.specs.Board.{Board}
use Rattle.spec_sharing.specs.Sharing.{tight_set, inside}
use Rattle.table_size.specs.Sizes.{BenchIn}
use Rattle.table_size.specs.declared.Size.{Size}
use Rattle.graph_lists.specs.Arrays.{at}
use Rattle.sharing_visits.specs.Marks.{mark, Marks, Heavy}
use Rattle.sharing_tight_set.specs.declared.Extent.{Extent}

-- the marked benches of 1 to B, rising
abbrev pub marked : Size → List Bool → List ℕ
marked s marks = filter (mark marks) (range 1 s.benches)

-- just the benches with load h or more are marked
pub record HeavyMarked (s : Size) (loads : List ℕ) (h : ℕ) (marks : List Bool) : Type 0 where
  pub long : Marks marks
  pub heavy : (x : ℕ) → T (mark marks x) ↔ Heavy s loads h x

-- a bench of 1 to B has less
abbrev pub Lighter : Size → List ℕ → ℕ → Type 0
Lighter s loads h = (x : ℕ) × BenchIn s x × (at loads x < h)

-- the number of marked benches, and their loads added up
pub record Measured (s : Size) (loads : List ℕ) (marks : List Bool) (r : Extent) : Type 0 where
  pub benches : r.benches ≡ length (marked s marks)
  pub jobs : r.jobs ≡ total s.benches (λ x. cond (mark marks x) (at loads x) 0)

-- the marks are the tight set of height h, and r its benches and inside jobs
pub record TightSet (b : Board) (s : Size) (h : ℕ) (marks : List Bool) (r : Extent) : Type 0 where
  pub set : marked s marks ≡ tight_set b h
  pub benches : r.benches ≡ length (tight_set b h)
  pub jobs : r.jobs ≡ inside (tight_set b h) b.named
