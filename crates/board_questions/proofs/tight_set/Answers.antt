-- The form check's refusal; what a sound table's tight set is, the call that lists it tells.
use Rattle.spec_calls.specs.Calls.{ask, tight_set_of}
use Rattle.board_answers.proofs.Formal.{form_refused, passed_on}
use Rattle.board_questions.proofs.tight_set.Goals as goal

pub returns-in_err-form : goal.returns-in_err-form
returns-in_err-form c = passed_on c.from_residual.ensures.1 (form_refused _ (ask (tight_set_of c.args.height) c.args.list.now) tt c.args.t.now c.in_err-form.ensures.says)
