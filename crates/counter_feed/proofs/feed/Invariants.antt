-- The loop's invariant: the bytes of the chunk before this one are taken, and there is room for another reply.
use Rattle.counter_printing.specs.Wrote.{HasRoom}
use Rattle.counter_answer_lines.specs.AnswerLines.{line_most}
use Rattle.counter_feed.specs.Feeding.{place_of}
use Rattle.counter_feed.proofs.Consuming.{Feeding}
use Rattle.counter_feed.proofs.feed.Given as goal

abbrev pub invariant-loop-used : goal.invariant-loop-used
invariant-loop-used l =
    record {
      fed : Feeding (place_of l.fn.reader l.fn.bytes) l.chunk l.reader l.bytes l.used l.fn.out l.out;
      room : HasRoom l.out line_most;
    }
