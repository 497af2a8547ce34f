-- Invariant: the values before this one are written.
use Rattle.std.proofs.Common.{◌≡◌, ◌+◌, ◌*◌, ◌≤◌, length, take}
use Rattle.board_answers.specs.Answered.{values_of}
use Rattle.counter_printing.specs.Wrote.{Wrote, field_most, spaced}
use Rattle.counter_printing.proofs.Output.values.Given as goal

abbrev pub invariant-loop-value : goal.invariant-loop-value
invariant-loop-value l =
    record {
      wrote : Wrote l.fn.self l.self (spaced (take l.value-index l.value-items));
      short : l.self.written ≤ l.fn.self.written + field_most * l.value-index;
      items : l.value-items ≡ values_of l.fn.v;
      few : length l.value-items ≤ 3;
    }
