use Rattle.std.proofs.Common.{arith}
use Rattle.std.proofs.lemmas.Grind.{common_steps}
use Rattle.std.proofs.lemmas.Result.{err_from_is_err_and}
use Rattle.table_pair.proofs.AlongChain.{ToRead, along_start, along_end, along_broken, along_match, along_turn}
use Rattle.table_pair.proofs.walk.Goals as goal
use Rattle.table_pair.proofs.walk.Goals.{After-step_at}

pub loop-j-init : goal.loop-j-init
loop-j-init c = along_start c.args.y c.args.met c.requires.size_of c.head-j.ensures

-- job j's record is read
to_read : (c : After-step_at) → ToRead c.args.s c.args.met c.loop-j.before c.loop-j.j
to_read c =
    record {
      limit = λ m e. grind (arith, common_steps, rw e at c.is_some_and.ensures);
      after = omega arith;
      most = omega arith;
    }

pub returns-in_err-next : goal.returns-in_err-next
returns-in_err-next c =
    let p = err_from_is_err_and c.from_residual.result c.from_residual.ensures.1 in
    rw (p.1, p.2) (along_broken c.requires.size_of c.loop-j.invariant (to_read (goal.at.returns-in_err-next c).After-step_at) c.in_err-next.ensures)

pub returns-in_default : goal.returns-in_default
returns-in_default c =
    along_match c.requires.size_of c.loop-j.invariant (to_read (goal.at.returns-in_default c).After-step_at) (rw c.in_default.is at c.in_ok-next.ensures)

pub loop-j-preserved : goal.loop-j-preserved
loop-j-preserved c =
    along_turn c.requires.size_of c.loop-j.invariant (to_read (goal.at.loop-j-preserved c).After-step_at) (rw c.in-Some.is at c.in_ok-next.ensures)

pub returns : goal.returns
returns c = along_end c.requires.size_of c.loop-j.invariant (omega arith)
