-- The job is put on a table in order, and what is left of the path handed along.
use mathlib.Core.List.{[], ◌∷◌}
use Rattle.spec_sharing.specs.Sharing.{arrive}
use Rattle.spec_table.specs.Table.{decode}
use Rattle.table_copies.proofs.Ordering.{rising_table_lem}
use Rattle.sharing_arrival.proofs.TakingIn.{Entered, taking_entered, taking_fills, taking_route, taking_done}
use Rattle.sharing_arrival.proofs.apply_arrival.Goals as goal
use Rattle.sharing_arrival.proofs.apply_arrival.Goals.{Start}

-- the job goes where the code says
entered : (c : Start) → Entered (decode c.args.t.now) c.args.j (c.args.first ∷ c.args.second ∷ []) c.args.path.now (arrive (decode c.args.t.now) c.args.j (c.args.first ∷ c.args.second ∷ [])) c.args.found c.args.intake.holder c.args.intake.place
entered c =
    let (x, f, e) = c.requires.by_index in
    let k = c.requires.in_order in
    taking_entered k.sound c.requires.may_arrive f (rising_table_lem k.sound k.bytes) e

pub add_job-requires-clause-fillable : goal.add_job-requires-clause-fillable
add_job-requires-clause-fillable c =
    let (x, f, e) = c.requires.by_index in
    let k = c.requires.in_order in
    taking_fills k.sound c.requires.may_arrive f (rising_table_lem k.sound k.bytes) (entered (goal.at.add_job-requires-clause-fillable c).Start)

pub hand_along-requires-clause-by_index : goal.hand_along-requires-clause-by_index
hand_along-requires-clause-by_index c =
    let (x, f, e) = c.requires.by_index in
    let k = c.requires.in_order in
    let n = entered (goal.at.hand_along-requires-clause-by_index c).Start in
    (n.start, n.left, taking_route k.sound c.requires.may_arrive f (rising_table_lem k.sound k.bytes) n c.add_job.ensures)

pub returns : goal.returns
returns c =
    let (x, f, e) = c.requires.by_index in
    let k = c.requires.in_order in
    taking_done k.sound c.requires.may_arrive f (rising_table_lem k.sound k.bytes) (entered (goal.at.returns c).Start) c.add_job.ensures c.hand_along.ensures
