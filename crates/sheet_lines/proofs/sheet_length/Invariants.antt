-- The loop's invariant: the lines of the benches so far are counted.
use Prim.Native.Nat.{◌*◌, ◌≤◌}
use mathlib.Core.Path.{◌≡◌}
use Rattle.sheet_lines.proofs.AllLines.{lines_to}
use Rattle.sheet_lines.proofs.sheet_length.Given as goal

abbrev pub invariant-loop-load : goal.invariant-loop-load
invariant-loop-load l = (l.lines ≡ lines_to l.loads l.load-index) × (l.lines ≤ 334 * l.load-index)
