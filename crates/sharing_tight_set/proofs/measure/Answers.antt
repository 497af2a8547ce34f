use Prim.Native.Nat.{◌+◌}
use native.Mathlib.Omega.{arith}
use mathlib.Core.Path.{◌≡◌}
use Rattle.spec_lists.specs.Lists.{bit}
use Rattle.table_size.proofs.Sizes.{limits_of}
use Rattle.sharing_visits.specs.Marks.{mark}
use Rattle.sharing_tight_set.proofs.AsSet.{passing_few, marked_load, measure_turn, measure_room}
use Rattle.sharing_tight_set.proofs.measure.Goals as goal
use Rattle.sharing_tight_set.proofs.measure.Goals.{then-marks-x, else-marks-x}

pub overflow_add-count : goal.overflow_add-count
overflow_add-count c = omega (arith, c.loop-x.invariant.counted, passing_few (mark c.args.marks.now) c.loop-x.invariant.done)

-- the sum has room for one more load
pub overflow_add-jobs : goal.overflow_add-jobs
overflow_add-jobs c =
    omega (arith, measure_room c.args.s (limits_of c.args.s) c.requires c.loop-x.invariant, c.from-jobs.ensures)

pub loop-x-preserved : goal.loop-x-preserved
loop-x-preserved c =
    let e : c.if-marks-x.count ≡ c.loop-x.count + bit (mark c.args.marks.now c.loop-x.x) = elim c.if-marks-x.branch [ then-marks-x w ↦ rw w.if-marks-x.true w.count-is | else-marks-x w ↦ rw w.if-marks-x.false (omega (arith, w.count-is)) ] in
    let f : c.if-marks-x.jobs ≡ c.loop-x.jobs + marked_load c.args.loads.now c.args.marks.now c.loop-x.x = elim c.if-marks-x.branch [ then-marks-x w ↦ rw (w.if-marks-x.true, ← w.from-jobs.ensures) w.jobs-is | else-marks-x w ↦ rw w.if-marks-x.false (omega (arith, w.jobs-is)) ] in
    measure_turn c.if-marks-x.count c.if-marks-x.jobs c.loop-x.invariant e f
