-- Refusal 1 where the sizes do not fit; else sound where the pass gets through, and where it does not what `is_formed` tells.
use Rattle.std.proofs.Common.{sym, ◌∙◌}
use Rattle.std.proofs.lemmas.Result.{err_from_is_err_and}
use Rattle.spec_lists.proofs.Tests.{true→T}
use Rattle.table_size.specs.Sizes.{SizeOf}
use Rattle.table_size.proofs.Sizes.{fit_size}
use Rattle.table_form.proofs.Answer.{misfit_answered, unformed_answered, formed_answered, rising_answered}
use Rattle.table_form.proofs.check_with.Goals as goal
use Rattle.table_form.proofs.check_with.Goals.{In_ok-size}

pub returns-in_err-size : goal.returns-in_err-size
returns-in_err-size c =
    let p = err_from_is_err_and c.from_residual.result c.from_residual.ensures.1 in
    rw (p.1, p.2) (misfit_answered c.args.t.now c.args.loads.now c.in_err-size.ensures)

-- the size that was read is the table's
sized : (c : In_ok-size) → SizeOf c.args.t.now c.in_ok-size.size
sized c = fit_size c.args.t.now c.in_ok-size.size c.in_ok-size.ensures

pub pass_over-requires-clause-size_of : goal.pass_over-requires-clause-size_of
pass_over-requires-clause-size_of c = sized (goal.at.pass_over-requires-clause-size_of c).In_ok-size

pub is_formed-requires-clause-size_of : goal.is_formed-requires-clause-size_of
is_formed-requires-clause-size_of c = sized (goal.at.is_formed-requires-clause-size_of c).In_ok-size

pub returns-in-Ok : goal.returns-in-Ok
returns-in-Ok c = rising_answered c.in-Ok.ensures

pub returns-then-is_formed : goal.returns-then-is_formed
returns-then-is_formed c =
    formed_answered
    (sized (goal.at.returns-then-is_formed c).In_ok-size)
    (sym c.is_formed.ensures.value ∙ c.if-is_formed.true)
    (c.is_formed.ensures.chain_lengths (true→T _ c.if-is_formed.true))
    c.in-Err.ensures.other

pub returns-else-is_formed : goal.returns-else-is_formed
returns-else-is_formed c =
    unformed_answered (sized (goal.at.returns-else-is_formed c).In_ok-size) _ (sym c.is_formed.ensures.value ∙ c.if-is_formed.false)
