-- The form check's refusal, or that the table is sound and the loads are its: then it is levelled.
use mathlib.Core.Bool.{true, false}
use Rattle.spec_calls.specs.Calls.{levelling}
use Rattle.board_answers.proofs.Formal.{form_refused, passed_on}
use Rattle.board_changes.proofs.ChangeOutcomes.{levelling_left}
use Rattle.board_changes.proofs.levelling.Goals as goal

pub returns-in_err-form : goal.returns-in_err-form
returns-in_err-form c = passed_on c.from_residual.ensures.1 (form_refused _ (levelling c.args.allowance) tt c.args.t.now c.in_err-form.ensures.says)

pub returns-then-levelling : goal.returns-then-levelling
returns-then-levelling c = levelling_left c.in_ok-form.ensures.says.sound c.args.allowance true c.relevel-levelling.ensures c.if-levelling.true

pub returns-else-levelling : goal.returns-else-levelling
returns-else-levelling c = levelling_left c.in_ok-form.ensures.says.sound c.args.allowance false c.relevel-levelling.ensures c.if-levelling.false
