use Rattle.std.proofs.Common.{◌≡◌, ◌+◌, ◌-◌, arith}
use Rattle.table_size.specs.Written.{record_in}
use Rattle.table_rising.specs.Passing.{MetAs}
use Rattle.table_rising.proofs.Meeting.{meeting_start, meeting_before, meeting_pass, meeting_turn, meeting_end}
use Rattle.table_rising.proofs.InTurn.{turn_start, turn_pass, turn_met, turn_possible, turn_end}
use Rattle.table_rising.proofs.meet_all.Goals as goal
use Rattle.table_rising.proofs.meet_all.Goals.{After-meet, in-Vacant, in-Met}

pub loop-j-init : goal.loop-j-init
loop-j-init c = (meeting_start c.requires.size_of c.requires.heads_of c.requires.loads_value (λ i. omega (arith, c.type_inv.t i)), turn_start c.requires.heads_of)

pub meet-requires-clause-before : goal.meet-requires-clause-before
meet-requires-clause-before c =
    let e : c.loop-j.j - 1 + 1 ≡ c.loop-j.j = omega arith in
    rw e at (meeting_before c.loop-j.invariant.0 c.requires.size_of)

-- the job is the first that was not met before
first : (c : After-meet) → let j = c.loop-j.j - 1 + 1 in MetAs c.args.s (record_in c.args.t.now j) j c.loop-j.due c.loop-j.loads c.meet.new.due c.meet.new.loads c.meet.result
first c = let e : c.loop-j.j - 1 + 1 ≡ c.loop-j.j = omega arith in rw e c.meet.ensures

pub returns-in-NotMet-clause-all_in_turn : goal.returns-in-NotMet-clause-all_in_turn
returns-in-NotMet-clause-all_in_turn c =
    let not_met = rw c.in-NotMet.is at (first (goal.at.returns-in-NotMet-clause-all_in_turn c).After-meet) in
    λ k. turn_possible k (c.loop-j.invariant.1 k) (omega arith) not_met.2

pub loop-j-preserved : goal.loop-j-preserved
loop-j-preserved c =
    let now = first (goal.at.loop-j-preserved c).After-meet in
    let e : c.loop-j.j + 1 - 1 ≡ c.loop-j.j - 1 + 1 = omega arith in
    rw e (elim c.match-meet.branch [
      | in-Vacant w ↦
          let passed = rw w.in-Vacant.is at now in
          rw w.count-is (meeting_pass c.requires.size_of c.loop-j.invariant.0 (omega arith) passed, λ k. turn_pass k (c.loop-j.invariant.1 k) (omega arith) passed)
      | in-Met w ↦
          let met = rw w.in-Met.is at now in
          rw w.count-is (meeting_turn c.requires.size_of c.loop-j.invariant.0 (omega arith) met, λ k. turn_met k (c.loop-j.invariant.1 k) (omega arith) c.loop-j.invariant.0.long met)
    ])

pub returns-clause-reached_as : goal.returns-clause-reached_as
returns-clause-reached_as c = meeting_end c.requires.size_of c.loop-j.invariant.0 (omega arith)

pub returns-clause-all_in_turn : goal.returns-clause-all_in_turn
returns-clause-all_in_turn c = λ k. turn_end k (c.loop-j.invariant.1 k) (omega arith)
