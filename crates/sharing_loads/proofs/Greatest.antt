-- Loads in an array: their greatest and their total are the board's.
use Prim.Native.Nat.{ℕ, ◌+◌, ◌≤◌, ◌<◌}
use native.Mathlib.Omega.{arith}
use mathlib.Core.Path.{◌≡◌, ap, ◌∙◌}
use mathlib.Core.List.{List}
use lib.ListN.{get_or, drop}
use borrow.Rule.Slice.PartMut.{mid_of}
use Rattle.std.proofs.lemmas.List.{get_or-take, get_or-drop}
use Rattle.spec_lists.specs.Lists.{total, greatest}
use Rattle.spec_table.specs.Board.{Board, load, heaviest}
use Rattle.spec_table.specs.Table.{most_benches}
use Rattle.spec_lists.proofs.Counting.{total_same, greatest_same}
use Rattle.table_board.specs.BoardView.{Loaded}
use Rattle.graph_lists.specs.Arrays.{at}

module _ {b : Board} {loads : List ℕ} (l : Loaded b loads) (n : ℕ) (few : n ≤ most_benches) where
  -- the loads of benches 1 to n in an array have the board's greatest ..
  pub loaded_greatest : greatest n (at loads) ≡ greatest n (load b.holders)
  loaded_greatest = greatest_same n (at loads) (load b.holders) (λ x i u. l.bench x i (omega arith))

  -- .. and its total
  pub loaded_total : total n (at loads) ≡ total n (load b.holders)
  loaded_total = total_same n (at loads) (load b.holders) (λ x i u. l.bench x i (omega arith))

-- over all benches the greatest is the board's heaviest
pub board_heaviest : {c : Board} {benches : ℕ} {loads : List ℕ} {n : ℕ} → c.benches ≡ benches → benches ≤ most_benches → Loaded c loads → n ≡ greatest benches (at loads) → n ≡ heaviest c
unfolding heaviest
board_heaviest {c} {benches} b m l e = rw b (e ∙ loaded_greatest l benches m)

-- the i-th load of a part that begins with bench a is that of bench i + a
pub part_at : (loads : List ℕ) (a k i : ℕ) → i < k → get_or (mid_of a k loads) i 0 ≡ at loads (i + a)
part_at loads a k i l =
    let e : a + i ≡ i + a = omega arith in
    get_or-take k (drop a loads) i 0 l ∙ get_or-drop a loads i 0 ∙ ap (at loads) e
