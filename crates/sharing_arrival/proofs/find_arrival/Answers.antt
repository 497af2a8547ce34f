-- The loads get the job, and the path is looked for on the board with it.
use native.Mathlib.Omega.{arith}
use mathlib.Core.List.{[], ◌∷◌}
use Rattle.spec_lists.specs.Lists.{In}
use Rattle.spec_table.specs.Board.{put}
use Rattle.spec_table.specs.Table.{decode}
use Rattle.sharing_search.proofs.OnBoard.{order_holds}
use Rattle.sharing_steps.proofs.AsSteps.{loads_in}
use Rattle.sharing_arrival.proofs.Arriving.{getting_in, arriving_bench, arriving_with, arriving_loads, arriving_loads_in, arriving_found}
use Rattle.sharing_arrival.proofs.find_arrival.Goals as goal
use Rattle.sharing_arrival.proofs.find_arrival.Goals.{Start}

-- x is one of the two
one : (c : Start) → In c.args.x (c.args.first ∷ c.args.second ∷ [])
one c = getting_in (decode c.args.t.now).holders c.args.first c.args.second c.requires.x_value

pub overflow_add-loads : goal.overflow_add-loads
overflow_add-loads c =
    let bench = arriving_bench c.requires.in_order.sound c.requires.may_arrive (one (goal.at.overflow_add-loads c).Start) in
    omega (arith, (loads_in (order_holds c.requires.in_order) c.requires.loaded).most c.args.x bench.least)

pub find_from-requires-clause-loads_in : goal.find_from-requires-clause-loads_in
find_from-requires-clause-loads_in c =
    arriving_loads_in c.requires.in_order.sound c.requires.may_arrive (one (goal.at.find_from-requires-clause-loads_in c).Start) c.requires.loaded

pub find_from-requires-clause-with_job : goal.find_from-requires-clause-with_job
find_from-requires-clause-with_job c =
    let z = c.requires.in_order.sound in
    let m = c.requires.may_arrive in
    let g = one (goal.at.find_from-requires-clause-with_job c).Start in
    (put (decode c.args.t.now) c.args.j (c.args.first ∷ c.args.second ∷ []) c.args.x, arriving_with z m g, arriving_loads z m g c.requires.loaded)

pub returns : goal.returns
returns c =
    arriving_found c.requires.in_order.sound c.requires.may_arrive (one (goal.at.returns c).Start) c.requires.loaded c.requires.x_value c.find_from.ensures
