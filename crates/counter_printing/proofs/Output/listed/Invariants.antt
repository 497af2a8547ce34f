-- Invariant: the first `i` words are written.
use Rattle.std.proofs.Common.{◌+◌, ◌*◌, ◌≤◌, take}
use Rattle.spec_table.specs.Table.{words}
use Rattle.counter_printing.specs.Wrote.{Wrote, field_most, spaced}
use Rattle.counter_printing.proofs.Output.listed.Given as goal

abbrev pub invariant-loop-i : goal.invariant-loop-i
invariant-loop-i l =
    record {
      wrote : Wrote l.fn.self l.self (spaced (take l.i (words l.list)));
      short : l.self.written ≤ l.fn.self.written + field_most * l.i;
    }
