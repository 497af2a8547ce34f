use native.Mathlib.Omega.{arith}
use Rattle.spec_sheet.proofs.SheetLengths.{head_length}
use Rattle.sheet_lines.proofs.BenchLines.{lines_turn, left_room, lines_end}
use Rattle.sheet_lines.proofs.write_bench.Goals as goal

pub write_more-j-requires-clause-at_in_bounds : goal.write_more-j-requires-clause-at_in_bounds
write_more-j-requires-clause-at_in_bounds c =
    omega (arith, left_room c.write_first-j.ensures c.loop-j.invariant c.requires.page_room c.loop-j-test.true)

pub overflow_add-end-in-loop-j : goal.overflow_add-end-in-loop-j
overflow_add-end-in-loop-j c =
    omega (arith, left_room c.write_first-j.ensures c.loop-j.invariant c.requires.page_room c.loop-j-test.true)

pub loop-j-smaller : goal.loop-j-smaller
loop-j-smaller c =
    omega (arith, left_room c.write_first-j.ensures c.loop-j.invariant c.requires.page_room c.loop-j-test.true)

pub loop-j-preserved : goal.loop-j-preserved
loop-j-preserved c =
    let room = left_room c.write_first-j.ensures c.loop-j.invariant c.requires.page_room c.loop-j-test.true in
    λ js l. lines_turn c.loop-j-test.true (omega (arith, room)) (c.loop-j.invariant js l) c.write_more-j.ensures

pub returns : goal.returns
returns c =
    lines_end c.write_first-j.ensures c.loop-j.invariant (head_length c.args.x c.args.load c.requires.x_bound c.requires.load_bound) (omega (arith, c.requires.page_room.fits)) c.loop-j-test.false
