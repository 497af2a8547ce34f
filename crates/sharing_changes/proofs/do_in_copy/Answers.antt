-- The copy is a table, in order, of the same board; what is left of it is copied back, if the task was done.
use Rattle.std.proofs.lemmas.Result.{err_from_is_err_and}
use Rattle.sharing_changes.proofs.Copied.{refused_copied, made_copied}
use Rattle.sharing_changes.proofs.do_in_copy.Goals as goal

pub returns-in_err-effect : goal.returns-in_err-effect
returns-in_err-effect c =
    let p = err_from_is_err_and c.from_residual.result c.from_residual.ensures.1 in
    rw (p.1, p.2) (refused_copied c.args.t.now c.copy_in_order.ensures _ _ _ c.args.task c.in_err-effect.field-0.0 (c.in_err-effect.ensures))

pub returns : goal.returns
returns c =
    rw c.copy_back.ensures (made_copied c.args.t.now c.copy_in_order.ensures _ _ _ c.args.task c.in_ok-effect.effect (c.in_ok-effect.ensures))
