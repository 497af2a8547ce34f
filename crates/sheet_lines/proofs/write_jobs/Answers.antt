use native.Mathlib.Omega.{arith}
use Rattle.sheet_lines.proofs.OneLine.{cells_start, cells_turn, cells_end}
use Rattle.sheet_lines.proofs.write_jobs.Goals as goal

pub loop-cell-init : goal.loop-cell-init
loop-cell-init c = λ js l. cells_start c.args.page.now c.args.at l

pub write_cell-j-requires : goal.write_cell-j-requires
write_cell-j-requires c =
    let cells = c.loop-cell.invariant c.requires.listed.0 c.requires.listed.1 in
    record { listed = (cells.left, cells.from); at_in_bounds = omega arith }

pub loop-cell-preserved : goal.loop-cell-preserved
loop-cell-preserved c =
    λ js l. rw c.write_cell-j.ensures.value (cells_turn (omega arith) (omega arith) (c.loop-cell.invariant js l) c.write_cell-j.ensures.page_after)

pub returns : goal.returns
returns c = cells_end (omega arith) (omega arith) (omega arith) c.loop-cell.invariant
