use Prim.Native.Nat.{ℕ, ◌+◌}
use native.Mathlib.Omega.{arith}
use mathlib.Core.Path.{◌≡◌, refl, sym, ◌∙◌}
use mathlib.Core.List.{List}
use lib.ListN.{replicate}
use Rattle.spec_table.specs.Table.{most_benches, decode}
use Rattle.sharing_search.proofs.OnBoard.{order_holds}
use Rattle.sharing_start.specs.PathStart.{Searched}
use Rattle.sharing_start.proofs.Starting.{is_told, is_untold, start_some, falling_start, falling_turn, falling_end}
use Rattle.sharing_start.proofs.first_start.Goals as goal
use Rattle.sharing_start.proofs.first_start.Goals.{After-from-load}

-- nothing was searched from yet
begun : (c : After-from-load) {came : List ℕ} → came ≡ replicate (most_benches + 1) 0 → Searched (decode c.args.t.now) c.args.s c.from-load.result 1 0 c.args.queue.now came
begun c e =
    falling_start (order_holds c.requires.in_order) c.requires.loaded (c.from-load.ensures ∙ c.greatest.ensures) c.told-queue e

pub returns-then-load-low : goal.returns-then-load-low
returns-then-load-low c =
    falling_end (order_holds c.requires.in_order) c.requires.loaded c.lightest-goal.ensures (begun (goal.at.returns-then-load-low c).After-from-load refl) (rw c.from-low.ensures at c.if-load-low.true)

pub loop-load-init : goal.loop-load-init
loop-load-init c = begun (goal.at.loop-load-init c).After-from-load refl

pub returns-then-is_some : goal.returns-then-is_some
returns-then-is_some c = start_some c.start_among-first.ensures (is_told c.start_among-first.result.start (sym c.is_some.ensures ∙ c.if-is_some.true))

pub loop-load-preserved : goal.loop-load-preserved
loop-load-preserved c =
    falling_turn c.requires.loaded c.start_among-first.ensures (is_untold c.start_among-first.result.start (sym c.is_some.ensures ∙ c.if-is_some.false)) (omega (arith, c.loop-load-test.true)) c.next_lower-load.ensures

pub returns : goal.returns
returns c =
    falling_end (order_holds c.requires.in_order) c.requires.loaded c.lightest-goal.ensures c.loop-load.invariant (rw c.from-low.ensures at c.loop-load-test.false)
