-- A job without a holder is left as it is. Another next job in the record of a held one, and another head of its holder, put it at the
-- front of its holder's chain.
use mathlib.Core.Path.{sym, ◌∙◌}
use Rattle.table_chains.proofs.Rebuilding.{push_vacant, push_held}
use Rattle.table_chains.proofs.push.Goals as goal

pub returns-then-x-eq0 : goal.returns-then-x-eq0
returns-then-x-eq0 c = push_vacant c.requires.holds_board (sym c.holder-x.ensures.value ∙ c.if-x-eq0.true)

pub returns : goal.returns
returns c = push_held c.requires.holds_board c.requires.job_in c.holder-x.ensures.value c.if-x-eq0.false c.head-behind.ensures c.write_next.ensures c.write_head.ensures
