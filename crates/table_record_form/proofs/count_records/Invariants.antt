-- The records one by one. The loop's invariant: those before `j` are counted.
use Rattle.std.proofs.Common.{◌-◌}
use Rattle.table_record_form.specs.Kinds.{CountedTo}
use Rattle.table_record_form.proofs.count_records.Given as goal

abbrev pub invariant-loop-j : goal.invariant-loop-j
invariant-loop-j l = CountedTo l.t l.s (l.j - 1) l.count
