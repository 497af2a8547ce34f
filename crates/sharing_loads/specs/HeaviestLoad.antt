-- The heaviest load, and how many benches are counted until it is known.
use Rattle.std.specs.Prelude.{ℕ, ◌+◌, ◌≤◌, ◌<◌, ◌≡◌, List}
use Rattle.spec_lists.specs.Lists.{total, greatest}
use Rattle.spec_table.specs.Board.{Board, heaviest}
use Rattle.spec_table.specs.CountedBenches.{BenchesCounted}
use Rattle.table_size.specs.declared.Size.{Size}
use Rattle.graph_lists.specs.Arrays.{at}
use Rattle.sharing_loads.specs.declared.Count.{Count}
use Rattle.sharing_loads.specs.declared.Heaviest.{Heaviest}

-- the board's heaviest load, and the least number of benches at which the standing jobs not yet counted are no more
-- than the best load so far
pub record HeaviestOf (b : Board) (r : Heaviest) : Type 0 where
  pub load : r.load ≡ heaviest b
  pub counted : BenchesCounted b r.benches

-- so many benches are counted, with this best load; the others of 1 to B have so many jobs
pub record CountOf (s : Size) (loads : List ℕ) (c : Count) : Type 0 where
  pub few : c.benches ≤ s.benches
  pub best : c.best ≡ greatest c.benches (at loads)
  pub left : total c.benches (at loads) + c.left ≡ total s.benches (at loads)

-- with fewer benches the count did not end: the others have more jobs than the best load
abbrev pub NotBefore : Size → List ℕ → Count → Type 0
NotBefore s loads c = (m : ℕ) → m < c.benches → total m (at loads) + greatest m (at loads) < total s.benches (at loads)
