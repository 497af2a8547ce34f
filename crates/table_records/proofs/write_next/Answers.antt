-- The word written is word 3 of job j's record, by `has-layout-word`.
use native.Mathlib.Omega.{arith}
use Rattle.table_size.proofs.Written.{has_layout_word}
use Rattle.table_records.proofs.write_next.Goals as goal

pub returns : goal.returns
returns c =
    rw (c.write.ensures, c.record_at.ensures)
    (has_layout_word c.args.t.now c.args.s c.args.j 3 c.args.next c.requires.size_of c.requires.job_in (omega arith) c.requires.next_bound)
