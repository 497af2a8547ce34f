-- Word 2 is the layout's number of standing jobs.
use Rattle.table_size.proofs.Written.{standing_read}
use Rattle.table_header.proofs.standing_word.Goals as goal

pub returns : goal.returns
returns c = standing_read c.args.t.now c.read.result c.read.ensures
