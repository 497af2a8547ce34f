-- A line feed: what the line is replied to. Another byte: it is kept.
use Rattle.counter_feed.proofs.Consuming.{takes_line, takes_byte}
use Rattle.counter_feed.proofs.take_byte.Goals as goal

pub returns-then-byte-eq10-clause-takes : goal.returns-then-byte-eq10-clause-takes
returns-then-byte-eq10-clause-takes c = takes_line c.args.reader.now c.args.bytes.now c.requires.stands c.args.byte c.as_slice.result.now c.to_line.new.bytes c.args.out.now c.to_line.new.out c.to_line.new.counter c.clear.new.self c.if-byte-eq10.true c.as_slice.ensures c.to_line.ensures c.clear.ensures.bytes c.clear.ensures.held

pub returns-else-byte-eq10-clause-takes : goal.returns-else-byte-eq10-clause-takes
returns-else-byte-eq10-clause-takes c = takes_byte c.args.reader.now c.args.bytes.now c.requires.stands c.args.byte c.append.new.self c.args.out.now c.if-byte-eq10.false c.append.ensures
