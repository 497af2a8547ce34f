-- An arrival and a closing add to their own count and to the jobs moved, any other answer and a refusal add nothing.
use mathlib.Core.Path.{refl}
use Rattle.std.specs.Prelude.{Ok}
use Rattle.spec_calls.specs.Answers.{refused}
use Rattle.table_refusals.specs.Refusals.{refusal_of}
use Rattle.board_answers.specs.Answered.{answer_of}
use Rattle.board_tally.proofs.Noting.{arrival_adds, closing_adds, other_adds, no_change}
use Rattle.board_tally.proofs.Added.by.Goals as goal

pub returns-in_default : goal.returns-in_default
returns-in_default c = rw c.in_default.is (other_adds (refused (refusal_of c.in_default.field-0)) c.default.result refl c.default.ensures)

pub returns-in-Arrived : goal.returns-in-Arrived
returns-in-Arrived c = arrival_adds c.in-Ok.is c.in-Arrived.is

pub returns-in-Closed : goal.returns-in-Closed
returns-in-Closed c = closing_adds c.in-Ok.is c.in-Closed.is

pub returns-in_default-accepted : goal.returns-in_default-accepted
returns-in_default-accepted c =
    let a = c.in-Ok.accepted in
    let added = c.default-in_default-accepted in
    let same = no_change (Ok a) (λ h r m e. c.in_default-accepted.not-Arrived h r m cc) (λ f m e. c.in_default-accepted.not-Closed f m cc) in
    rw c.in-Ok.is (other_adds (answer_of (Ok a)) added.result same added.ensures)
