-- A table whose form is refused: every call that tests the form first answers so, and leaves what it was lent. And what a
-- call left is its outcome.
use mathlib.Core.Path.{◌≡◌, refl, sym, subst}
use mathlib.Core.List.{List}
use mathlib.Core.Option.{some}
use Prim.Native.Nat.{ℕ}
use lib.Dec.{T}
use Rattle.spec_calls.specs.Answers.{Outcome, refused, first_holding}
use Rattle.spec_calls.specs.Calls.{Call, form_conditions, lent_to, outcome}
use Rattle.spec_calls.proofs.Refusals.{on_sound, form_stops, refused_by_lem}
use Rattle.table_refusals.specs.Refusals.{refusal_of}
use Rattle.board_answers.specs.Answered.{left_by, Leaves}
use Rattle.table_refusals.specs.declared.Refusal.{Refusal}
use Rattle.std.specs.Prelude.{Result, Err}
use Rattle.std.specs.Result.{IsErrAnd}
use Rattle.std.proofs.lemmas.Result.{err_from_is_err_and}
use Rattle.board_answers.specs.declared.Answer.{Answer}

-- an outcome that has just this answer and these bytes
pub answered_leaves : {o : Outcome} {r : Result Answer Refusal} {t beside : List ℕ} → o ≡ left_by r t beside → Leaves o r t beside
answered_leaves {r} {t} {beside} e = subst (λ q. Leaves q r t beside) (sym e) (record { answer = refl; bytes = refl; lent = refl })

-- a refused call leaves every lent byte
pub refused_leaves : (r : Refusal) (c : Call) (t : List ℕ) → (outcome c t).answer ≡ refused (refusal_of r) → Leaves (outcome c t) (Err r) t (lent_to c)
refused_leaves r c t e =
    let b = refused_by_lem c t (refusal_of r) e in
    record { answer = sym e; bytes = sym b.table; lent = sym b.lent }

-- what `?` passes on is the refusal itself
pub passed_on : {o : Outcome} {r : Result Answer Refusal} {d : Refusal} {t beside : List ℕ} → IsErrAnd r (λ e. e ≡ d) → Leaves o (Err d) t beside → Leaves o r t beside
passed_on {r} p l = let e = err_from_is_err_and r p in rw (e.1, e.2) l

-- 1 and 2
pub form_refused : (r : Refusal) (c : Call) → T (on_sound c) → (t : List ℕ) → first_holding (form_conditions t) ≡ some (refusal_of r) → Leaves (outcome c t) (Err r) t (lent_to c)
form_refused r c f t e = refused_leaves r c t (form_stops c f t (refusal_of r) e)

-- what a call left, where its contract holds, is the outcome that the contract names
pub leaves_outcome : {o : Outcome} {r : Result Answer Refusal} {table beside : List ℕ} → Leaves o r table beside → left_by r table beside ≡ o
leaves_outcome l = λ i. record { answer = l.answer i; table = l.bytes i; lent = l.lent i }
