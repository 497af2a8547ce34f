-- The loop's invariant: for every board of these arrays the lines that are written and those of the benches that are
-- left make the sheet.
use Rattle.spec_table.specs.Board.{Board}
use Rattle.sheet_lines.specs.WrittenLines.{Sheeted}
use Rattle.sheet_lines.proofs.AllLines.{BenchesLeft}
use Rattle.sheet_lines.proofs.write.Given as goal

abbrev pub invariant-loop-x : goal.invariant-loop-x
invariant-loop-x l = (b : Board) → Sheeted b l.fn.s l.loads l.head l.next → BenchesLeft b l.initial.page l.page l.at l.x
