use Prim.Native.Nat.{ℕ}
use native.Mathlib.Omega.{arith}
use mathlib.Core.Path.{◌≡◌, sym}
use mathlib.Core.Logic.{inl, inr}
use Rattle.spec_table.specs.Board.{holder_of}
use Rattle.spec_table.specs.Table.{decode}
use Rattle.table_size.specs.Sizes.{JobIn}
use Rattle.sharing_steps.specs.Others.{OtherOf}
use Rattle.sharing_search.proofs.OnBoard.{order_holds, expand_few, expand_job, expand_stands, expand_less, expand_turn, expand_end}
use Rattle.sharing_search.proofs.expand.Goals as goal
use Rattle.sharing_search.proofs.expand.Goals.{In-loop-j}

-- the job is one of the board, and x holds it
held : (c : In-loop-j) → JobIn c.args.s c.loop-j.j × (holder_of (decode c.args.t.now) c.loop-j.j ≡ c.args.x)
held c =
    expand_job c.requires.in_order c.requires.bench_in c.requires.by_index c.loop-j.invariant c.loop-j-test.true

-- it leads to the bench that is told
led : (c : In-loop-j) → {y : ℕ} → (c.args.x ≡ holder_of (decode c.args.t.now) c.loop-j.j → OtherOf (decode c.args.t.now) c.args.s c.loop-j.j y) → OtherOf (decode c.args.t.now) c.args.s c.loop-j.j y
led c o = o (sym (held c).1)

pub other-y-requires : goal.other-y-requires
other-y-requires c =
    let h = held (goal.at.other-y-requires c).In-loop-j in
    record { holds_board = order_holds c.requires.in_order; x_end = inl (sym h.1); x_nonzero = λ z. omega (arith, c.requires.bench_in.least) }

pub discover-found-requires : goal.discover-found-requires
discover-found-requires c = record { y_le_most_benches = omega (arith, (led (goal.at.discover-found-requires c).In-loop-j c.other-y.ensures.other).most, c.requires.in_order.sound.size.limits.benches_most); found_le_most_benches = expand_few c.requires.in_order c.requires.bench_in c.requires.by_index c.loop-j.invariant }

pub next_job-j-requires : goal.next_job-j-requires
next_job-j-requires c = record { in_order = c.requires.in_order; t = expand_stands c.requires.in_order c.requires.bench_in c.requires.by_index c.loop-j.invariant c.loop-j-test.true }

pub loop-j-smaller : goal.loop-j-smaller
loop-j-smaller c = expand_less c.requires.in_order c.requires.bench_in c.requires.by_index c.loop-j.invariant c.loop-j-test.true c.next_job-j.ensures

pub loop-j-preserved : goal.loop-j-preserved
loop-j-preserved c = expand_turn c.requires.in_order c.requires.bench_in c.requires.by_index c.loop-j.invariant c.loop-j-test.true c.if-j-limit.true (led (goal.at.loop-j-preserved c).In-loop-j c.other-y.ensures.other) c.discover-found.ensures c.next_job-j.ensures

pub returns-else-j-limit : goal.returns-else-j-limit
returns-else-j-limit c = let both = expand_end c.requires.in_order c.requires.bench_in c.requires.by_index c.loop-j.invariant (inr c.if-j-limit.false) in record { first_from = both.0; grown = both.1.0; searching = both.1.1 }

pub returns-after-loop-j : goal.returns-after-loop-j
returns-after-loop-j c = let both = expand_end c.requires.in_order c.requires.bench_in c.requires.by_index c.loop-j.invariant (inl c.loop-j-test.false) in record { first_from = both.0; grown = both.1.0; searching = both.1.1 }
