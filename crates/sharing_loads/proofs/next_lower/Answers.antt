use native.Mathlib.Omega.{arith}
use Rattle.std.proofs.Common.{◌≡◌, ◌+◌, inl, inr, ◌∙◌, ap, max}
use borrow.Author.Rules.{rules}
use Rattle.graph_lists.specs.Arrays.{at}
use Rattle.sharing_loads.proofs.Greatest.{part_at}
use Rattle.sharing_loads.proofs.Lower.{lower_turn}
use Rattle.sharing_loads.proofs.next_lower.Goals as goal
use Rattle.sharing_loads.proofs.next_lower.Goals.{then-n-load, else-n-load}

pub loop-n-preserved : goal.loop-n-preserved
loop-n-preserved c =
    let read : c.from-n.result ≡ at c.args.loads.now (c.loop-n.n-index + 1) = c.from-n.ensures ∙ part_at _ 1 _ c.loop-n.n-index (omega arith) in
    lower_turn c.loop-n.invariant (omega arith)
    (elim c.if-n-load.branch [
      | then-n-load w ↦ inl (omega (arith, w.if-n-load.true, read), w.lower-is ∙ (search rules) ∙ ap (max c.loop-n.lower) read)
      | else-n-load w ↦ inr (omega (arith, w.if-n-load.false, read), w.lower-is)
    ])
