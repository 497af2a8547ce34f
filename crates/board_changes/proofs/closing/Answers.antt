-- The form check's refusal; what a closing on a sound table is, the call that makes it tells.
use Rattle.spec_calls.specs.Calls.{closing}
use Rattle.board_answers.proofs.Formal.{form_refused, passed_on}
use Rattle.board_changes.proofs.closing.Goals as goal

pub returns-in_err-form : goal.returns-in_err-form
returns-in_err-form c = passed_on c.from_residual.ensures.1 (form_refused _ (closing (record { job = c.args.job; list = c.args.list.now })) tt c.args.t.now c.in_err-form.ensures.says)
