-- The four words written are job j's record, by `has-layout-entry`.
use Rattle.table_size.proofs.Written.{has_layout_entry}
use Rattle.table_records.proofs.write_record.Goals as goal

pub returns : goal.returns
returns c =
    rw (c.write-4.ensures, c.write-3.ensures, c.write-2.ensures, c.write.ensures, c.record_at-at.ensures)
    (has_layout_entry c.args.t.now c.args.s c.args.j c.args.r.first c.args.r.second c.args.r.holder c.args.r.next c.requires.size_of c.requires.job_in c.requires.record_fits.first c.requires.record_fits.second c.requires.record_fits.holder c.requires.record_fits.next)
