use native.Mathlib.Omega.{arith}
use Prim.Native.Nat.{ℕ}
use mathlib.Core.Path.{◌≡◌, refl, subst}
use Rattle.spec_table.specs.Table.{decode}
use Rattle.table_copies.proofs.Ordering.{table_loaded}
use Rattle.sharing_levelling.specs.LevellingResult.{LevellingOf}
use Rattle.sharing_levelling.proofs.Flipping.{order_loads, Shifts, flipping_start, flipping_route, flipping_order, flipping_shifts, flipping_turn, flipping_end}
use Rattle.sharing_levelling.proofs.relevel.Goals as goal
use Rattle.sharing_levelling.proofs.relevel.Goals.{After-hand_along}

pub first_start-start-requires-clause-loads_in : goal.first_start-start-requires-clause-loads_in
first_start-start-requires-clause-loads_in c =
    order_loads c.put_in_order.ensures.in_order (table_loaded c.put_in_order.ensures c.requires.loaded)

pub loop-paths-init : goal.loop-paths-init
loop-paths-init c =
    flipping_start c.put_in_order.ensures.in_order (table_loaded c.put_in_order.ensures c.requires.loaded) c.first_start-start.array_long c.first_start-start.ensures

-- no path is left
pub returns-in_default : goal.returns-in_default
returns-in_default c =
    flipping_end c.loop-paths.invariant c.args.t.now c.put_in_order.ensures.board (λ h. c.in_default.is) (rw c.in_default.is refl)

pub find_from-found-requires-clause-loads_in : goal.find_from-found-requires-clause-loads_in
find_from-found-requires-clause-loads_in c = order_loads c.loop-paths.invariant.in_order c.loop-paths.invariant.loaded

pub hand_along-requires-clause-by_index : goal.hand_along-requires-clause-by_index
hand_along-requires-clause-by_index c = flipping_route c.loop-paths.invariant c.in-Some.is c.find_from-found.ensures

-- the loads can follow the path
shifts : (c : After-hand_along) → Shifts (decode c.hand_along.new.t) c.loop-paths.loads c.in-Some.x c.find_from-found.result.bench
shifts c = flipping_shifts c.loop-paths.invariant c.in-Some.is c.find_from-found.ensures c.hand_along.ensures

pub offset_bounds-loads-y : goal.offset_bounds-loads-y
offset_bounds-loads-y c = omega (arith, (shifts (goal.at.offset_bounds-loads-y c).After-hand_along).end)

pub bounds-loads-y : goal.bounds-loads-y
bounds-loads-y c = (shifts (goal.at.bounds-loads-y c).After-hand_along).end

pub overflow_add-loads : goal.overflow_add-loads
overflow_add-loads c = omega (arith, (shifts (goal.at.overflow_add-loads c).After-hand_along).room)

pub bounds-loads-y-in-loop-paths : goal.bounds-loads-y-in-loop-paths
bounds-loads-y-in-loop-paths c = (shifts (goal.at.bounds-loads-y-in-loop-paths c).After-hand_along).end

pub first_start-start-requires-in-loop-paths : goal.first_start-start-requires-in-loop-paths
first_start-start-requires-in-loop-paths c =
    let o = flipping_order c.loop-paths.invariant c.in-Some.is c.find_from-found.ensures c.hand_along.ensures in
    let l = (shifts (goal.at.first_start-start-requires-in-loop-paths c).After-hand_along).loaded in
    record { in_order = o; loads_in = order_loads o l; loaded = l }

pub loop-paths-preserved : goal.loop-paths-preserved
loop-paths-preserved c =
    flipping_turn c.loop-paths.invariant c.in-Some.is c.find_from-found.ensures c.hand_along.ensures c.loop-paths-test.true (shifts (goal.at.loop-paths-preserved c).After-hand_along).loaded c.first_start-start-in-loop-paths.array_long c.first_start-start-in-loop-paths.ensures

-- the allowance is used up
pub returns : goal.returns
returns c =
    let i = c.loop-paths.invariant in
    let all : c.loop-paths.paths ≡ c.args.allowance = omega arith in
    let t = c.args.t.now in
    subst (λ (n : ℕ). LevellingOf t c.loop-paths.t c.args.allowance (record { paths = n; level = c.is_none.result })) all
    (flipping_end i t c.put_in_order.ensures.board (λ h. absurd (omega (arith, h, c.loop-paths-test.false))) c.is_none.ensures)
