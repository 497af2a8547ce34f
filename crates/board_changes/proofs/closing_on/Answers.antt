-- Each test is one of document 01's refusals, in its order; past them the closing is the rule's, or its list is too short.
use mathlib.Core.Path.{ap}
use mathlib.Core.Bool.{not}
use lib.Dec.{T}
use Rattle.board_answers.proofs.Formal.{passed_on}
use Rattle.spec_lists.proofs.Tests.{passed}
use Rattle.spec_table.specs.Board.{stands}
use Rattle.spec_table.specs.Table.{decode}
use Rattle.board_changes.proofs.ChangeOutcomes.{closing_number, closing_standing, closing_short, closing_made}
use Rattle.board_changes.proofs.closing_on.Goals as goal
use Rattle.board_changes.proofs.closing_on.Goals.{Else-not-stands}

pub returns-then-not-has_job : goal.returns-then-not-has_job
returns-then-not-has_job c = closing_number c.requires.found_sound.sound c.args.list.now c.args.job c.has_job.ensures (ap not c.if-not-has_job.true)

pub returns-then-not-stands : goal.returns-then-not-stands
returns-then-not-stands c = closing_standing c.requires.found_sound.sound c.args.list.now c.args.job c.has_job.ensures (ap not c.if-not-has_job.false) c.stands.ensures (ap not c.if-not-stands.true)

-- the job stands
standing : (c : Else-not-stands) → T (stands (decode c.args.t.now) c.args.job)
standing c = passed c.stands.ensures (ap not c.if-not-stands.false)

pub returns-in_err-effect : goal.returns-in_err-effect
returns-in_err-effect c =
    passed_on c.from_residual.ensures.1 (closing_short c.requires.found_sound.sound c.args.list.now c.args.job c.in_err-effect.field-0.0 (standing (goal.at.returns-in_err-effect c).Else-not-stands) c.in_err-effect.ensures)

pub returns : goal.returns
returns c = closing_made c.requires.found_sound.sound c.args.list.now c.args.job c.in_ok-effect.effect (standing (goal.at.returns c).Else-not-stands) c.in_ok-effect.ensures
