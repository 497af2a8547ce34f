-- A job names at most two benches, which are the first two of its record.
use Rattle.table_board.proofs.RecordsAsBoard.{name_of, name_first, name_second}
use Rattle.table_board.proofs.jobs.name.Goals as goal

pub returns-then-k-eq1 : goal.returns-then-k-eq1
returns-then-k-eq1 c = name_of c.args.t.now c.args.s c.args.j c.args.k c.read_record-r.result.first c.requires.holds_board c.requires.position (name_first c.args.t.now c.args.j c.args.k c.read_record-r.result c.read_record-r.ensures c.requires.position.least c.requires.position.most c.if-k-eq1.true)

pub returns-else-k-eq1 : goal.returns-else-k-eq1
returns-else-k-eq1 c = name_of c.args.t.now c.args.s c.args.j c.args.k c.read_record-r.result.second c.requires.holds_board c.requires.position (name_second c.args.t.now c.args.s c.args.j c.args.k c.read_record-r.result c.requires.holds_board c.read_record-r.ensures c.requires.position.least c.requires.position.most c.if-k-eq1.false)
