-- A visit and a walk call each other. The measure is `falling`: the unmarked benches count first, and then the length of the chain that
-- is left, of which a visit has none.
use mathlib.Core.List.{[]}
use Rattle.sharing_visits.specs.ArrayChains.{chain_on}
use Rattle.sharing_visits.proofs.Visiting.{falling}
use Rattle.sharing_visits.proofs.+visit_walk.Given as goal

abbrev pub decreases-visit : goal.decreases-visit
decreases-visit l = falling l.marks.now []

abbrev pub decreases-walk : goal.decreases-walk
decreases-walk l = falling l.marks.now (chain_on l.next.now l.j)
