-- The holder that the board tells is the bench that the record's holder word tells.
use Rattle.table_board.proofs.RecordsAsBoard.{holder_read}
use Rattle.table_board.proofs.jobs.holder.Goals as goal

pub returns : goal.returns
returns c = holder_read c.args.t.now c.args.s c.args.j c.holder_at.result c.requires.holds_board c.holder_at.ensures
