-- The marked benches are the tight set: those of the height where no bench has less, and else what was brought in, too.
use mathlib.Core.Path.{◌≡◌, subst}
use mathlib.Core.Bool.{Bool}
use Rattle.spec_table.specs.Table.{decode}
use Rattle.spec_sharing.specs.Sharing.{tight_set}
use Rattle.table_board.proofs.RecordsAsBoard.{sound_holds_board}
use Rattle.graph_lists.specs.Arrays.{Tells}
use Rattle.sharing_steps.proofs.AsSteps.{loads_in}
use Rattle.sharing_tight_set.specs.MarkedSets.{marked, Lighter}
use Rattle.sharing_tight_set.proofs.AsSet.{all_tight, measured_tight}
use Rattle.sharing_tight_set.proofs.tight_set.Goals as goal
use Rattle.sharing_tight_set.proofs.tight_set.Goals.{Joined-mark_heavy, then-mark_heavy, else-mark_heavy}

pub mark_heavy-requires-clause-loads_in : goal.mark_heavy-requires-clause-loads_in
mark_heavy-requires-clause-loads_in c = loads_in (sound_holds_board _ _ c.requires.sound_table) c.requires.loaded

pub measure-requires : goal.measure-requires
measure-requires c = loads_in (sound_holds_board _ _ c.requires.sound_table) c.requires.loaded

-- the marked benches are the tight set
tight : (c : Joined-mark_heavy) → marked c.args.s c.if-mark_heavy.marks ≡ tight_set (decode c.args.t.now) c.args.h
tight c =
    let Less = Lighter c.args.s c.args.loads.now c.args.h in
    elim c.if-mark_heavy.branch [
      | then-mark_heavy w ↦ rw w.marks-is w.mark_closure.ensures
      | else-mark_heavy w ↦ rw w.marks-is (all_tight c.args.h (sound_holds_board _ _ c.requires.sound_table) c.requires.loaded c.mark_heavy.ensures.heavy_marked (subst (λ (z : Bool). Tells Less z) w.if-mark_heavy.false c.mark_heavy.ensures.tells))
    ]

pub returns : goal.returns
returns c = measured_tight c.args.h c.if-mark_heavy.marks (sound_holds_board _ _ c.requires.sound_table) c.requires.loaded (tight (goal.at.returns c).Joined-mark_heavy) c.measure.ensures
