-- The heaviest load of a sound table.
use mathlib.Core.List.{[]}
use Rattle.spec_calls.specs.Calls.{ask, heaviest_load}
use Rattle.board_answers.proofs.Formal.{form_refused, passed_on}
use Rattle.board_questions.proofs.Asking.{heaviest_told}
use Rattle.board_questions.proofs.heaviest.Goals as goal

pub returns-in_err-form : goal.returns-in_err-form
returns-in_err-form c = passed_on c.from_residual.ensures.1 (form_refused _ (ask heaviest_load []) tt c.args.t.now c.in_err-form.ensures.says)

pub returns : goal.returns
returns c = heaviest_told c.in_ok-form.ensures.says.sound c.find_heaviest.result.load c.find_heaviest.ensures.load
