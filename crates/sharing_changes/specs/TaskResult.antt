-- An arrival or a closing, as one: when it may be done, and what comes of it.
use Rattle.std.specs.Prelude.{[], ◌∷◌, T, Result}
use Rattle.spec_table.specs.Board.{Board, stands}
use Rattle.spec_calls.specs.Calls.{MayArrive}
use Rattle.sharing_effects.specs.Effects.{Lent}
use Rattle.table_refusals.specs.declared.Refusal.{Refusal}
use Rattle.sharing_effects.specs.declared.Effect.{Effect}
use Rattle.sharing_arrival.specs.ArrivalResult.{ArrivalOf}
use Rattle.sharing_closing.specs.ClosingResult.{ClosingOf}
use Rattle.sharing_changes.specs.declared.Task.{Task}
use Rattle.sharing_changes.specs.declared.Task.TheVariants.{Arrive, Close}

-- the job may arrive on the board b, or stands there
abbrev pub MayDo : Board → Task → Type 0
MayDo b (Arrive j x y) = MayArrive b j (x ∷ y ∷ [])
MayDo b (Close j) = T (stands b j)

-- what comes of the arrival, or of the closing
abbrev pub TaskOf : Task → Lent → Lent → Result Effect Refusal → Type 0
TaskOf (Arrive j x y) before after r = ArrivalOf j x y before after r
TaskOf (Close j) before after r = ClosingOf j before after r
