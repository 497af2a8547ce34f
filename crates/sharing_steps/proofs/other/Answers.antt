-- The two names' sum tells either bench from the other.
use Prim.Native.Nat.{ℕ, ◌≤◌}
use native.Mathlib.Omega.{arith}
use Rattle.spec_table.specs.Board.{names_of}
use Rattle.spec_table.specs.Table.{decode}
use Rattle.table_board.specs.BoardView.{Position}
use Rattle.sharing_steps.proofs.AsSteps.{end_place, end_few, held_of, led_of}
use Rattle.sharing_steps.proofs.other.Goals as goal
use Rattle.sharing_steps.proofs.other.Goals.{Start}

-- job j names two benches
place : (c : Start) (k : ℕ) → 1 ≤ k → k ≤ 2 → Position (names_of (decode c.args.t.now) c.args.j) k
place c = end_place c.args.t.now c.args.s c.args.j c.requires.holds_board c.args.x c.requires.x_end c.requires.x_nonzero

pub name-requires : goal.name-requires
name-requires c = record { holds_board = c.requires.holds_board; position = place (goal.at.name-requires c).Start 1 (omega arith) (omega arith) }

pub name-requires-2 : goal.name-requires-2
name-requires-2 c = record { holds_board = c.requires.holds_board; position = place (goal.at.name-requires-2 c).Start 2 (omega arith) (omega arith) }

pub overflow_sub-result : goal.overflow_sub-result
overflow_sub-result c =
    end_few c.args.t.now c.args.s c.args.j c.requires.holds_board c.args.x c.requires.x_end c.requires.x_nonzero _ _ c.name.ensures c.name-2.ensures

pub returns : goal.returns
returns c =
    let a = c.args in
    record {
      other = λ e. (held_of a.t.now a.s a.j c.requires.holds_board a.x e c.requires.x_nonzero _ _ c.name.ensures c.name-2.ensures).1;
      origin = λ e. (led_of a.t.now a.s a.j c.requires.holds_board a.x e c.requires.x_nonzero _ _ c.name.ensures c.name-2.ensures).1;
    }
