use Prim.Native.Nat.{◌+◌, ◌-◌}
use native.Mathlib.Omega.{arith}
use mathlib.Core.Path.{◌≡◌, ap, ◌∙◌}
use Rattle.spec_sheet.specs.Sheet.{line_count}
use Rattle.sheet_lines.proofs.AllLines.{load_at, load_few, lines_next, measured}
use Rattle.sheet_lines.proofs.sheet_length.Goals as goal

pub loop-load-preserved : goal.loop-load-preserved
loop-load-preserved c =
    let i = c.loop-load.load-index in
    let few = load_few c.requires.1 (i + 1) (omega arith) (omega arith) in
    let own = load_at c.args.loads.now (c.benches.result + 1 - 1) i (omega arith) in
    let lines = c.line_count-lines.ensures ∙ ap line_count (c.from.ensures ∙ own) in
    (lines_next c.args.loads.now i c.loop-load.lines c.line_count-lines.result c.loop-load.invariant.0 lines, omega (arith, lines, few))

pub returns : goal.returns
returns c =
    let last : c.loop-load.load-index ≡ c.benches.result = omega arith in
    measured c.loop-load.lines (rw (last, c.benches.ensures) at c.loop-load.invariant.0)
