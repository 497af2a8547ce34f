use Prim.Native.Nat.{ℕ, ◌+◌, ◌≤◌, ◌<◌}
use native.Mathlib.Omega.{arith}
use mathlib.Core.Path.{◌≡◌, sym, ◌∙◌}
use Rattle.sharing_paths_to.proofs.Seeding.{seeding_start, seeding_few, seeding_other, seeding_turn, seeding_end}
use Rattle.sharing_paths_to.proofs.seed.Goals as goal
use Rattle.sharing_paths_to.proofs.seed.Goals.{then-from-load, else-from-load}

-- a bench is one of the size's ..
in_size : {n m x : ℕ} → m ≡ n → x < m + 1 → x ≤ n
in_size e l = omega arith

-- .. until all were
past : {n m x : ℕ} → m ≡ n → m + 1 ≤ x → n < x
past e l = omega arith

pub loop-x-init : goal.loop-x-init
loop-x-init c = λ b board y l r. seeding_start l r

pub discover-end-requires-clause-found_le_most_benches : goal.discover-end-requires-clause-found_le_most_benches
discover-end-requires-clause-found_le_most_benches c =
    let (b, board, y, improves, r) = c.requires.by_index in
    seeding_few (c.loop-x.invariant b board y improves r)

pub loop-x-preserved : goal.loop-x-preserved
loop-x-preserved c =
    λ b board y l r.
    let k = c.loop-x.invariant b board y l r in
    let m = in_size c.benches-x-end.ensures c.loop-x-test.true in
    elim c.if-from-load.branch [
      | then-from-load w ↦ rw (w.end-is, w.queue-is, w.came-is) (seeding_turn k m (sym c.from.ensures ∙ w.if-from-load.true) w.discover-end.ensures)
      | else-from-load w ↦ rw (w.end-is, w.queue-is, w.came-is) (seeding_other k m (λ e. w.if-from-load.false (c.from.ensures ∙ e)))
    ]

pub returns : goal.returns
returns c = λ b board y l r. seeding_end (c.loop-x.invariant b board y l r) (past c.benches-x-end.ensures c.loop-x-test.false)
