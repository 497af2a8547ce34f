-- What the chains of the benches with load h or more bring in is marked. The loop's invariant: what those before bench x bring in is.
use Rattle.sharing_visits.specs.ArrayChains.{Leads}
use Rattle.sharing_visits.specs.Marks.{ClosedOver}
use Rattle.sharing_visits.proofs.Visiting.{FromPassed}
use Rattle.sharing_visits.proofs.walk_heavy.Given as goal

abbrev pub invariant-loop-x : goal.invariant-loop-x
invariant-loop-x l =
    let leads = Leads l.head l.next l.to in
    ClosedOver leads (FromPassed leads l.loads l.h l.x) l.initial.marks l.marks
