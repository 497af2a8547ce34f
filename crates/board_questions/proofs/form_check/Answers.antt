-- The form check's refusal, or that the table is sound.
use mathlib.Core.List.{[]}
use Rattle.spec_calls.specs.Calls.{ask, form_check}
use Rattle.board_answers.proofs.Formal.{form_refused, passed_on}
use Rattle.board_questions.proofs.Asking.{form_sound}
use Rattle.board_questions.proofs.form_check.Goals as goal

pub returns-in_err-check : goal.returns-in_err-check
returns-in_err-check c = passed_on c.from_residual.ensures.1 (form_refused _ (ask form_check []) tt c.args.t.now c.in_err-check.ensures.says)

pub returns : goal.returns
returns c = form_sound c.in_ok-check.ensures.says.sound
