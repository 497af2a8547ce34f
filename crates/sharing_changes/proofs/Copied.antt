-- A copy that is put in order has the table's board: what may be done there is the same, and so is what comes of it, once the copy is
-- copied back, or left alone where the task was refused.
use Prim.Native.Nat.{ℕ}
use mathlib.Core.Path.{◌≡◌, ap, subst, sym}
use mathlib.Core.List.{List, [], ◌∷◌}
use Rattle.spec_table.specs.Board.{Board}
use Rattle.spec_table.specs.Table.{decode}
use Rattle.spec_sharing.specs.Sharing.{Change, arrive, close}
use Rattle.table_refusals.specs.declared.Refusal.{Refusal}
use Rattle.table_size.specs.declared.Size.{Size}
use Rattle.table_order.specs.InOrder.{TableOf}
use Rattle.sharing_effects.specs.Effects.{lent, TooShort, MadeAs}
use Rattle.sharing_effects.specs.declared.Effect.{Effect}
use Rattle.std.specs.Prelude.{Ok, Err}
use Rattle.sharing_changes.specs.TaskResult.{MayDo, TaskOf}
use Rattle.sharing_changes.specs.declared.Task.{Task}
use Rattle.sharing_changes.specs.declared.Task.TheVariants.{Arrive, Close}

module _ {t u v list list' : List ℕ} {c d : Change} (e : c ≡ d) where
  -- a change that is refused in the copy leaves the table too ..
  short_copied : {r : Refusal} → TooShort c (lent u list) (lent v list') r → TooShort d (lent t list) (lent t list') r
  short_copied {r} h =
      subst (λ (c : Change). TooShort c (lent t list) (lent t list') r) e
      (record { why = h.why; short = h.short; left = ap (lent t) (ap (λ l. l.list) h.left) })

  -- .. and one that is made there is made, if the copy is copied back
  done_copied : {j : ℕ} {f : Effect} → MadeAs j c (lent u list) (lent v list') f → MadeAs j d (lent t list) (lent v list') f
  done_copied {j} {f} h =
      subst (λ (c : Change). MadeAs j c (lent t list) (lent v list') f) e
      (record { room = h.room; table = h.table; list = h.list; holder = h.holder; bench = h.bench; moved = h.moved })

module _ (t : List ℕ) {u : List ℕ} {s : Size} (k : TableOf u s (decode t)) where
  -- what may be done on the table may be done on the copy
  pub may_copied : (task : Task) → MayDo (decode t) task → MayDo (decode u) task
  may_copied task m = subst (λ (c : Board). MayDo c task) (sym k.board) m

  module _ (v list list' : List ℕ) where
    pub refused_copied : (task : Task) (r : Refusal) → TaskOf task (lent u list) (lent v list') (Err r) → TaskOf task (lent t list) (lent t list') (Err r)
    refused_copied (Arrive j x y) r h = short_copied (ap (λ (b : Board). arrive b j (x ∷ y ∷ [])) k.board) h
    refused_copied (Close j) r h = short_copied (ap (λ (b : Board). close b j) k.board) h

    pub made_copied : (task : Task) (f : Effect) → TaskOf task (lent u list) (lent v list') (Ok f) → TaskOf task (lent t list) (lent v list') (Ok f)
    made_copied (Arrive j x y) f h = done_copied (ap (λ (b : Board). arrive b j (x ∷ y ∷ [])) k.board) h
    made_copied (Close j) f h = done_copied (ap (λ (b : Board). close b j) k.board) h
