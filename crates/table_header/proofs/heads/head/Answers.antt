-- Word 3 + x is the head of bench x.
use Rattle.table_size.proofs.Written.{head_read}
use Rattle.table_header.proofs.heads.head.Goals as goal

pub returns : goal.returns
returns c = head_read c.args.t.now c.args.s c.args.x c.read.result c.requires.size_of c.requires.bench_in c.read.ensures
