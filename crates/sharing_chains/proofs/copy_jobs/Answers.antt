use native.Mathlib.Omega.{arith}
use Rattle.table_board.proofs.RecordsAsBoard.{sound_holds_board}
use Rattle.sharing_chains.proofs.Copying.{jobs_turn, jobs_pass, jobs_end, found_stands, found_none}
use Rattle.sharing_chains.proofs.copy_jobs.Goals as goal
use Rattle.sharing_chains.proofs.copy_jobs.Goals.{then-holder-ne0, else-holder-ne0}

pub next-requires-clause-t : goal.next-requires-clause-t
next-requires-clause-t c = found_stands (sound_holds_board _ _ c.requires) c.holder-holder.ensures c.if-holder-ne0.true

pub loop-j-preserved : goal.loop-j-preserved
loop-j-preserved c =
    elim c.if-holder-ne0.branch [
      | then-holder-ne0 w ↦
          rw (w.next-is, w.to-is)
          (jobs_turn c.loop-j.invariant (omega arith) w.next.ensures.stored (w.other-other.ensures.other c.holder-holder.ensures.value).value)
      | else-holder-ne0 w ↦
          rw (w.next-is, w.to-is)
          (jobs_pass c.loop-j.invariant (found_none (sound_holds_board _ _ c.requires) c.holder-holder.ensures w.if-holder-ne0.false))
    ]

pub returns : goal.returns
returns c = jobs_end c.loop-j.invariant c.requires.size (omega arith)
