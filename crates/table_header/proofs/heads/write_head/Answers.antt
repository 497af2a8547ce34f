-- Word 3 + x is the head of bench x.
use Rattle.table_size.proofs.Written.{has_layout_head}
use Rattle.table_header.proofs.heads.write_head.Goals as goal

pub returns : goal.returns
returns c = rw c.write.ensures (has_layout_head c.args.t.now c.args.s c.args.x c.args.j c.requires.size_of c.requires.bench_in c.requires.j_bound)
