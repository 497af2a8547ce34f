-- Words 2 and 3 are the layout's number of standing jobs and its spare word, by `has-layout-standing`.
use Rattle.table_size.proofs.Written.{has_layout_standing}
use Rattle.table_header.proofs.write_standing.Goals as goal

pub returns : goal.returns
returns c =
    rw (c.write-2.ensures, c.write.ensures)
    (has_layout_standing c.args.t.now c.args.s c.args.count c.requires.size_of c.requires.count_bound)
