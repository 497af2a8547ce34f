-- Word 3 is the layout's spare word.
use Rattle.table_size.proofs.Written.{spare_read}
use Rattle.table_header.proofs.spare_word.Goals as goal

pub returns : goal.returns
returns c = spare_read c.args.t.now c.read.result c.read.ensures
