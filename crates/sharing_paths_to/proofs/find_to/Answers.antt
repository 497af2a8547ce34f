use Prim.Native.Nat.{ℕ, ◌+◌, ◌≤◌}
use native.Mathlib.Omega.{arith}
use mathlib.Core.Path.{◌≡◌, refl}
use mathlib.Core.List.{List}
use lib.ListN.{replicate}
use Rattle.spec_table.specs.Board.{Board}
use Rattle.spec_table.specs.Table.{most_benches, decode}
use Rattle.table_board.specs.BoardView.{Loaded}
use Rattle.sharing_loads.proofs.Greatest.{board_heaviest}
use Rattle.sharing_paths_to.specs.ClosingSearch.{WithoutJob, Rounds}
use Rattle.sharing_paths_to.proofs.Rounds.{rounds_begin, rounds_lower, rounds_none, path_none}
use Rattle.sharing_paths_to.proofs.find_to.Goals as goal
use Rattle.sharing_paths_to.proofs.find_to.Goals.{In-loop-load, Start}

-- a round's load is not 0
some-load : (c : In-loop-load) → 1 ≤ c.loop-load.load
some-load c = omega (arith, c.loop-load-test.true)

-- on every board that the contract speaks of, nothing was searched yet
begun : (c : Start) (board : Board) {came : List ℕ} → WithoutJob (decode c.args.t.now) board c.args.s c.args.x → Loaded board c.args.loads.now → came ≡ replicate (most_benches + 1) 0 → Rounds (decode c.args.t.now) board c.args.s c.args.loads.now c.args.x c.args.top 0 c.args.path.now came
begun c board without loaded e =
    let heaviest = board_heaviest without.benches c.args.s.benches_most loaded refl in
    rounds_begin without loaded c.requires.bench_in c.args.s.benches_most (omega (arith, heaviest, c.requires.loads_bound)) c.told-path e

pub returns-then-top-least : goal.returns-then-top-least
returns-then-top-least c =
    λ board without loaded.
    path_none board (rounds_none (begun (goal.at.returns-then-top-least c).Start board without loaded refl) (rw c.from-least.ensures at c.if-top-least.true)) c.told-path

pub loop-load-init : goal.loop-load-init
loop-load-init c = λ board without loaded. begun (goal.at.loop-load-init c).Start board without loaded refl

pub search_round-round-requires-clause-rounds : goal.search_round-round-requires-clause-rounds
search_round-round-requires-clause-rounds c =
    let (board, without, loaded) = c.requires.without_job in
    (board, c.loop-load.invariant board without loaded)

pub path_to-requires-clause-n_nonzero : goal.path_to-requires-clause-n_nonzero
path_to-requires-clause-n_nonzero c =
    let (board, without, loaded) = c.requires.without_job in
    ((c.search_round-round.ensures board (c.loop-load.invariant board without loaded)).some c.in-Some.jobs c.in-Some.is).0

pub path_to-requires-clause-by_index : goal.path_to-requires-clause-by_index
path_to-requires-clause-by_index c =
    let (board, without, loaded) = c.requires.without_job in
    (board, c.search_round-round.result.found, _, without, ((c.search_round-round.ensures board (c.loop-load.invariant board without loaded)).some c.in-Some.jobs c.in-Some.is).1)

pub returns-in-Some : goal.returns-in-Some
returns-in-Some c =
    λ board without loaded.
    c.path_to.ensures board c.search_round-round.result.found _ without ((c.search_round-round.ensures board (c.loop-load.invariant board without loaded)).some c.in-Some.jobs c.in-Some.is).1

pub loop-load-preserved : goal.loop-load-preserved
loop-load-preserved c =
    λ board without loaded.
    rounds_lower ((c.search_round-round.ensures board (c.loop-load.invariant board without loaded)).none c.in_default.is) (some-load (goal.at.loop-load-preserved c).In-loop-load) c.next_lower-load.ensures

pub returns : goal.returns
returns c =
    λ board without loaded.
    let over = c.loop-load.invariant board without loaded in
    path_none board (rounds_none over (rw c.from-least.ensures at c.loop-load-test.false)) over.searching.queue_long
