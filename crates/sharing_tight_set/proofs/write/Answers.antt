use Prim.Native.Nat.{◌+◌, ◌*◌, ◌<◌}
use native.Mathlib.Omega.{arith}
use mathlib.Core.Path.{◌≡◌, ◌∙◌}
use mathlib.Core.Bool.{true, cond}
use lib.ListN.{length}
use Rattle.spec_lists.specs.Lists.{bit}
use Rattle.table_words.specs.Bytes.{set_word}
use Rattle.sharing_visits.specs.Marks.{mark}
use Rattle.sharing_tight_set.proofs.AsSet.{passing_few, write_room, write_turn}
use Rattle.sharing_tight_set.proofs.write.Goals as goal
use Rattle.sharing_tight_set.proofs.write.Goals.{In-loop-x, then-marks-x, else-marks-x}

-- there is room for a marked bench
room : (c : In-loop-x) → mark c.args.marks.now c.loop-x.x ≡ true → 2 * c.loop-x.count + 1 < length c.loop-x.list
room c e =
    write_room c.args.s c.loop-x.invariant e (omega (arith, c.loop-x-test.true, c.benches-x-end.ensures)) c.requires

pub write-requires-clause-i_in_bounds : goal.write-requires-clause-i_in_bounds
write-requires-clause-i_in_bounds c = room (goal.at.write-requires-clause-i_in_bounds c).In-loop-x c.if-marks-x.true

pub overflow_add-count : goal.overflow_add-count
overflow_add-count c = omega (arith, c.loop-x.invariant.counted, passing_few (mark c.args.marks.now) c.loop-x.invariant.done)

pub loop-x-preserved : goal.loop-x-preserved
loop-x-preserved c =
    let e : c.if-marks-x.list ≡ cond (mark c.args.marks.now c.loop-x.x) (set_word c.loop-x.list c.loop-x.count c.loop-x.x) c.loop-x.list = elim c.if-marks-x.branch [ then-marks-x w ↦ rw w.if-marks-x.true (w.list-is ∙ w.write.ensures) | else-marks-x w ↦ rw w.if-marks-x.false w.list-is ] in
    let f : c.if-marks-x.count ≡ c.loop-x.count + bit (mark c.args.marks.now c.loop-x.x) = elim c.if-marks-x.branch [ then-marks-x w ↦ rw w.if-marks-x.true w.count-is | else-marks-x w ↦ rw w.if-marks-x.false (omega (arith, w.count-is)) ] in
    write_turn c.if-marks-x.list c.if-marks-x.count c.loop-x.invariant (room (goal.at.loop-x-preserved c).In-loop-x) e f
