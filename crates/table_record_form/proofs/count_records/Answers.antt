use Rattle.std.proofs.Common.{◌≡◌, ◌+◌, ◌-◌, sym, ap, ◌∙◌, arith}
use Rattle.table_records.specs.Records.{entry_of}
use Rattle.table_size.specs.Written.{record_in}
use Rattle.table_record_form.specs.Kinds.{kind_of}
use Rattle.table_record_form.proofs.CountedRecords.{counted_step, counted_pass, counted_turn, counted_end}
use Rattle.table_record_form.proofs.count_records.Goals as goal
use Rattle.table_record_form.proofs.count_records.Goals.{After-read_record, in-Fitting, in-Vacant}

-- the record that was read is the first that is not counted
next : (c : After-read_record) → entry_of c.read_record.result ≡ record_in c.args.t.now (c.loop-j.j - 1 + 1)
next c = let e : c.loop-j.j - 1 + 1 ≡ c.loop-j.j = omega arith in rw e c.read_record.ensures.entry

pub returns-in-Unfit : goal.returns-in-Unfit
returns-in-Unfit c =
    rw (sym c.in-Unfit.ensures) at (counted_step c.requires.size_of c.loop-j.invariant (omega arith) (next (goal.at.returns-in-Unfit c).After-read_record))

pub loop-j-preserved : goal.loop-j-preserved
loop-j-preserved c =
    let z = c.requires.size_of in
    let e : c.loop-j.j + 1 - 1 ≡ c.loop-j.j - 1 + 1 = omega arith in
    let same = ap (kind_of c.args.s.benches) (sym (next (goal.at.loop-j-preserved c).After-read_record)) in
    rw e (elim c.match-kind_of.branch [
      | in-Fitting w ↦ rw w.count-is (counted_turn z c.loop-j.invariant (omega arith) (same ∙ sym w.in-Fitting.ensures))
      | in-Vacant w ↦ rw w.count-is (counted_pass z c.loop-j.invariant (omega arith) (same ∙ sym w.in-Vacant.ensures))
    ])

pub returns : goal.returns
returns c = sym (counted_end c.requires.size_of c.loop-j.invariant (omega arith))
