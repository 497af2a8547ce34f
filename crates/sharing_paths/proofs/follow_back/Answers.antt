use Prim.Native.Nat.{◌-◌, ◌≤◌}
use native.Mathlib.Omega.{arith}
use mathlib.Core.Logic.{inr}
use lib.ListN.{length-set}
use Rattle.spec_table.specs.Table.{most_benches}
use Rattle.table_board.proofs.RecordsAsBoard.{sound_holds_board}
use Rattle.sharing_paths.proofs.Following.{followed_start, followed_place, followed_room, followed_led, followed_turn, followed_end}
use Rattle.sharing_paths.proofs.follow_back.Goals as goal
use Rattle.sharing_paths.proofs.follow_back.Goals.{In-loop-left}

-- the bench come to is a place of the array
place : (c : In-loop-left) → c.loop-left.x ≤ most_benches
place c =
    let (course, found, queue, k) = c.requires.by_index in
    let h = sound_holds_board c.args.t.now c.args.s c.requires.in_order.sound in
    omega (arith, followed_place h k (c.loop-left.invariant.followed course found queue k) c.loop-left-test.true)

-- so is the place of its job
room : (c : In-loop-left) → c.loop-left.left ≤ most_benches
room c =
    let (course, found, queue, k) = c.requires.by_index in
    let h = sound_holds_board c.args.t.now c.args.s c.requires.in_order.sound in
    omega (arith, followed_room h k (c.loop-left.invariant.followed course found queue k))

pub loop-left-init : goal.loop-left-init
loop-left-init c =
    let h = sound_holds_board c.args.t.now c.args.s c.requires.in_order.sound in
    record { long = c.told-path; followed = λ course found queue k. followed_start h k c.args.path.now }

pub offset_bounds-came-x : goal.offset_bounds-came-x
offset_bounds-came-x c = omega (arith, place (goal.at.offset_bounds-came-x c).In-loop-left)

pub bounds-came-x : goal.bounds-came-x
bounds-came-x c = omega (arith, place (goal.at.bounds-came-x c).In-loop-left)

pub offset_bounds-path-left : goal.offset_bounds-path-left
offset_bounds-path-left c = omega (arith, room (goal.at.offset_bounds-path-left c).In-loop-left)

pub bounds-path-left : goal.bounds-path-left
bounds-path-left c = omega (arith, room (goal.at.bounds-path-left c).In-loop-left)

pub other-x-requires : goal.other-x-requires
other-x-requires c =
    let (course, found, queue, k) = c.requires.by_index in
    let h = sound_holds_board c.args.t.now c.args.s c.requires.in_order.sound in
    let led = followed_led h k (c.loop-left.invariant.followed course found queue k) c.loop-left-test.true c.if-left-gt0.true in
    record { holds_board = h; x_end = inr (rw c.from.ensures led.0); x_nonzero = led.1 }

pub loop-left-preserved-then-left-gt0 : goal.loop-left-preserved-then-left-gt0
loop-left-preserved-then-left-gt0 c =
    let h = sound_holds_board c.args.t.now c.args.s c.requires.in_order.sound in
    record {
      long = rw length-set c.loop-left.invariant.long;
      followed = λ course found queue k.
          let f = c.loop-left.invariant.followed course found queue k in
          let origin = λ (m : 1 ≤ c.loop-left.left - 1). c.other-x.ensures.origin (rw c.from.ensures (followed_led h k f c.loop-left-test.true m).0) in
          followed_turn h k f c.loop-left-test.true c.loop-left.invariant.long (λ m. rw (← c.from.ensures) (origin m));
    }

pub loop-left-preserved : goal.loop-left-preserved
loop-left-preserved c =
    let h = sound_holds_board c.args.t.now c.args.s c.requires.in_order.sound in
    record {
      long = rw length-set c.loop-left.invariant.long;
      followed = λ course found queue k.
          followed_turn h k (c.loop-left.invariant.followed course found queue k) c.loop-left-test.true c.loop-left.invariant.long (λ m. absurd (omega (arith, c.if-left-gt0.false)));
    }

pub returns : goal.returns
returns c = λ course found queue k.
    followed_end (sound_holds_board c.args.t.now c.args.s c.requires.in_order.sound) k (c.loop-left.invariant.followed course found queue k) c.loop-left-test.false
