-- The bench that gets the job is the rule's, and so is the path that is found. What is left of it from the new job's place on are the
-- jobs that move: a list that is too short for them is refused, any other gets them.
use mathlib.Core.Path.{refl}
use mathlib.Core.List.{[], ◌∷◌}
use Rattle.spec_sharing.specs.Sharing.{arrive}
use Rattle.spec_table.specs.Table.{decode}
use Rattle.table_copies.proofs.Ordering.{rising_table_lem}
use Rattle.sharing_arrival.proofs.TakingIn.{Entered, taking_jobs, taking_entered, entered_short, entered_made}
use Rattle.sharing_arrival.proofs.arrive_in_order.Goals as goal
use Rattle.sharing_arrival.proofs.arrive_in_order.Goals.{After-enter-intake}

pub enter-intake-requires-clause-by_index : goal.enter-intake-requires-clause-by_index
enter-intake-requires-clause-by_index c = taking_jobs c.requires.in_order.sound c.requires.may_arrive c.find_arrival-found.ensures

-- the job goes where the code says
entered : (c : After-enter-intake) → Entered (decode c.args.t.now) c.args.j (c.args.first ∷ c.args.second ∷ []) c.find_arrival-found.new.path (arrive (decode c.args.t.now) c.args.j (c.args.first ∷ c.args.second ∷ [])) c.find_arrival-found.result c.enter-intake.result.holder c.enter-intake.result.place
entered c =
    let o = c.requires.in_order in
    taking_entered o.sound c.requires.may_arrive c.find_arrival-found.ensures (rising_table_lem o.sound o.bytes) c.enter-intake.ensures

pub returns-then-list-moved : goal.returns-then-list-moved
returns-then-list-moved c =
    entered_short (entered (goal.at.returns-then-list-moved c).After-enter-intake) refl c.if-list-moved.true refl

pub returns : goal.returns
returns c =
    entered_made (entered (goal.at.returns c).After-enter-intake) refl c.if-list-moved.false c.apply_arrival.ensures c.write_list.ensures
