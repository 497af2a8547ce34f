-- The form check's refusal; what an arrival on a sound table is, the call that makes it tells.
use mathlib.Core.List.{[], ◌∷◌}
use Rattle.spec_calls.specs.Calls.{arrival}
use Rattle.board_answers.proofs.Formal.{form_refused, passed_on}
use Rattle.board_changes.proofs.arrival.Goals as goal

pub returns-in_err-form : goal.returns-in_err-form
returns-in_err-form c =
    passed_on c.from_residual.ensures.1 (form_refused _ (arrival (record { job = c.args.job; given = c.args.first ∷ c.args.second ∷ []; list = c.args.list.now })) tt c.args.t.now c.in_err-form.ensures.says)
