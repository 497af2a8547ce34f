-- A call's answer as a C program gets it: its number, and its values in the lent numbers.
use Prim.Native.Nat.{ℕ}
use mathlib.Core.Path.{◌≡◌, refl, sym, subst}
use mathlib.Core.List.{List, []}
use Rattle.spec_calls.specs.Answers.{Outcome}
use Rattle.spec_calls.specs.Calls.{Call, outcome}
use Rattle.board_answers.specs.Answered.{answer_of, returned, Leaves}
use Rattle.std.specs.Prelude.{Result}
use Rattle.table_refusals.specs.declared.Refusal.{Refusal}
use Rattle.board_answers.specs.declared.Answer.{Answer}
use Rattle.jobboard_report.specs.Report.{Written, Fitting, Delivered}
use Rattle.jobboard_report.proofs.InPlace.{delivered}
use Rattle.jobboard.specs.Desk.{Reported}
use Rattle.jobboard.proofs.Fits.{Bounded, values_fit}

-- the values of a call's answer fit 32 bits
answer_fits : (c : Call) (t : List ℕ) {a : Result Answer Refusal} {table list : List ℕ} → Leaves (outcome c t) a table list → Bounded c → Fitting (answer_of a)
answer_fits c t l b = subst Fitting (sym l.answer) (values_fit c t b)

-- a call whose answer is delivered reports its outcome
reported : {o : Outcome} {a : Result Answer Refusal} {r : ℕ} {table list before after : List ℕ} → Leaves o a table list → Delivered (answer_of a) r before after → Reported o r table list before after
reported {r} {before} {after} l d =
    record { bytes = l.bytes; lent = l.lent; delivered = subst (λ b. Delivered b r before after) l.answer d }

-- so does one whose answer's values are written as far as they fit, since they all do
pub reported_values : (c : Call) (t : List ℕ) {a : Result Answer Refusal} {r : ℕ} {table list before after : List ℕ} → Leaves (outcome c t) a table list → Bounded c → Written (answer_of a) r before after → Reported (outcome c t) r table list before after
reported_values c t l b w = reported l (delivered (answer_fits c t l b) w)

-- .. and one that lends no number, by its number alone
pub reported_number : {o : Outcome} {a : Result Answer Refusal} {r : ℕ} {table list : List ℕ} → Leaves o a table list → r ≡ returned (answer_of a) → Reported o r table list [] []
reported_number l e = reported l (record { number = e; values = refl })
