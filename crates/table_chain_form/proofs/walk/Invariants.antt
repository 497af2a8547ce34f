-- One chain from its head. Invariant: what is left of the walk from job j on is the whole walk. The measure is the number of
-- jobs that may still be on the chain.
use mathlib.Core.Path.{◌≡◌}
use Rattle.spec_lists.specs.Lists.{nth}
use Rattle.table_words.specs.Bytes.{layout_in}
use Rattle.table_chain_form.specs.ChainWalks.{walked}
use Rattle.table_chain_form.proofs.walk.Given as goal

abbrev pub invariant-loop-j : goal.invariant-loop-j
invariant-loop-j l =
    walked (layout_in l.t).entries l.x l.left l.j ≡ walked (layout_in l.t).entries l.x l.fn.left (nth (layout_in l.t).heads l.x 0)

abbrev pub decreases-loop-j : goal.decreases-loop-j
decreases-loop-j l = l.left
