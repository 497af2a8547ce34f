-- The form check's refusal; what a sound table's sheet is, the call that writes it tells.
use Rattle.spec_calls.specs.Calls.{ask, wall_sheet}
use Rattle.board_answers.proofs.Formal.{form_refused, passed_on}
use Rattle.board_sheet.proofs.sheet.Goals as goal

pub returns-in_err-form : goal.returns-in_err-form
returns-in_err-form c = passed_on c.from_residual.ensures.1 (form_refused _ (ask wall_sheet c.args.page.now) tt c.args.t.now c.in_err-form.ensures.says)
