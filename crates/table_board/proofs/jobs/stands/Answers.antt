-- A job stands exactly if its record's first bench is not 0.
use Rattle.table_board.proofs.RecordsAsBoard.{stands_first}
use Rattle.table_board.proofs.jobs.stands.Goals as goal

pub returns : goal.returns
returns c = stands_first c.args.t.now c.args.s c.args.j c.read_record-r.result c.requires.holds_board c.read_record-r.ensures
