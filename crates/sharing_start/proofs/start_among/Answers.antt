use native.Mathlib.Omega.{arith}
use Prim.Native.Nat.{ℕ, ◌+◌, ◌≤◌, ◌<◌}
use mathlib.Core.Path.{◌≡◌, sym, ◌∙◌}
use Rattle.sharing_start.proofs.Starting.{is_told, is_untold, searched_past, searched_turn, searched_stop, searched_all, searched_none}
use Rattle.sharing_start.proofs.start_among.Goals as goal
use Rattle.sharing_start.proofs.start_among.Goals.{then-from-load+else-is_some, else-from-load}

-- a bench is one of the size's ..
in_size : {n m x : ℕ} → m ≡ n → x < m + 1 → x ≤ n
in_size e l = omega arith

-- .. until all were
past : {n m x : ℕ} → m ≡ n → m + 1 ≤ x → n < x
past e l = omega arith

pub loop-x-init : goal.loop-x-init
loop-x-init c = c.requires.searched

pub returns-then-is_some : goal.returns-then-is_some
returns-then-is_some c = searched_stop c.search_from-searched.ensures (is_told c.search_from-searched.result.start (sym c.is_some.ensures ∙ c.if-is_some.true))

pub loop-x-preserved : goal.loop-x-preserved
loop-x-preserved c =
    elim c.if-from-load.branch [
      | then-from-load+else-is_some w ↦
          rw (w.found-is, w.queue-is, w.came-is) (searched_turn w.search_from-searched.ensures (sym c.from.ensures ∙ w.if-from-load.true) (is_untold w.search_from-searched.result.start (sym w.is_some.ensures ∙ w.if-is_some.false)))
      | else-from-load w ↦
          rw (w.found-is, w.queue-is, w.came-is) (searched_past c.loop-x.invariant c.requires.loaded (in_size c.benches-x-end.ensures c.loop-x-test.true) (λ e. w.if-from-load.false (c.from.ensures ∙ e)))
    ]

pub returns : goal.returns
returns c = searched_none (searched_all c.loop-x.invariant (past c.benches-x-end.ensures c.loop-x-test.false))
