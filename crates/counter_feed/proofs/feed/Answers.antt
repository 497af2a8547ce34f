-- One byte more is taken; a line feed leaves room for another reply, and another byte takes none.
use Rattle.std.proofs.Common.{arith, sym, subst}
use Rattle.counter_printing.specs.Wrote.{HasRoom}
use Rattle.counter_printing.specs.declared.Output.{Output}
use Rattle.counter_answer_lines.specs.AnswerLines.{line_most}
use Rattle.counter_feed.proofs.Consuming.{feeding_turn}
use Rattle.counter_feed.proofs.feed.Goals as goal

pub loop-used-preserved : goal.loop-used-preserved
loop-used-preserved c =
    record {
      fed = feeding_turn c.loop-used.invariant.fed c.take_byte.new.reader c.take_byte.new.bytes c.take_byte.new.out c.loop-used-test.true c.take_byte.ensures.takes;
      room =
          elim c.else-byte-eq10.branch [
            | goal.else-byte-eq10-via-then-byte-eq10+else-room-lt-LINE_MOST w ↦ omega (arith, w.room.ensures, w.if-room-lt-LINE_MOST.false)
            | goal.else-byte-eq10-via-else-byte-eq10 w ↦ subst (λ (o : Output). HasRoom o line_most) (sym (c.take_byte.ensures.silent w.if-byte-eq10.false)) c.loop-used.invariant.room
          ];
    }
