-- Word 2 is read.
use Rattle.table_board.proofs.RecordsAsBoard.{standing_read}
use Rattle.table_board.proofs.jobs.standing.Goals as goal

pub returns : goal.returns
returns c = standing_read c.args.t.now c.args.s c.standing_word.result c.requires c.standing_word.ensures
