-- Whether a sound table is level.
use mathlib.Core.Path.{sym, ◌∙◌}
use mathlib.Core.Bool.{true, false}
use mathlib.Core.List.{[]}
use Rattle.spec_calls.specs.Calls.{ask, level_check}
use Rattle.board_answers.proofs.Formal.{form_refused, passed_on}
use Rattle.board_questions.proofs.Asking.{level_told}
use Rattle.board_questions.proofs.level_check.Goals as goal

pub returns-in_err-form : goal.returns-in_err-form
returns-in_err-form c = passed_on c.from_residual.ensures.1 (form_refused _ (ask level_check []) tt c.args.t.now c.in_err-form.ensures.says)

pub returns-then-is_level : goal.returns-then-is_level
returns-then-is_level c = level_told c.in_ok-form.ensures.says.sound true (sym c.if-is_level.true ∙ c.is_level.ensures)

pub returns-else-is_level : goal.returns-else-is_level
returns-else-is_level c = level_told c.in_ok-form.ensures.says.sound false (sym c.if-is_level.false ∙ c.is_level.ensures)
