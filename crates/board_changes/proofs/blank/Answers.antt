-- The answer and the bytes of a blanking, by whether the sizes fit.
use Rattle.board_answers.proofs.Formal.{passed_on}
use Rattle.board_changes.proofs.ChangeOutcomes.{blanked, blank_refused}
use Rattle.board_changes.proofs.blank.Goals as goal

pub returns-in_err-blank : goal.returns-in_err-blank
returns-in_err-blank c =
    passed_on c.from_residual.ensures.1 (blank_refused c.args.benches c.args.jobs c.args.t.now c.in_err-blank.ensures.refusal c.in_err-blank.ensures.value c.in_err-blank.ensures.t_after)

pub returns : goal.returns
returns c = blanked c.args.benches c.args.jobs c.args.t.now c.in_ok-blank.ensures.value c.in_ok-blank.ensures.t_after
