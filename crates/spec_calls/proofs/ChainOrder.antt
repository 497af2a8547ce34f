-- 01: "no answer depends on it", the order of jobs on a chain: a sound table and the same in another order are answered alike, get
-- the same bytes beside them, and are changed into the same bytes. All calls but the question for a job between two benches.
use mathlib.Core.Path.{◌≡◌, refl, sym, ap, subst, ◌∙◌}
use mathlib.Core.Bool.{false, not}
use mathlib.Core.List.{List, ◌++◌}
use mathlib.Core.Option.{Option, none, some}
use Prim.Native.Nat.{ℕ}
use lib.Dec.{T}
use Rattle.spec_table.specs.Board.{Board}
use Rattle.spec_table.specs.Table.{fits, sound, decode, Reordered}
use Rattle.spec_calls.specs.Answers.{Refusal, Outcome, Condition, first_holding, is_refused, refused_or}
use Rattle.spec_calls.specs.Calls.{Call, arrival, closing, levelling, ask, between, form_conditions, is_question, lent_to, accepted, outcome}
use Rattle.spec_lists.proofs.Tests.{T→true}
use Rattle.spec_table.proofs.Clauses.{sound_fits}
use Rattle.spec_table.proofs.Encode.{same_board}
use Rattle.spec_table.proofs.AnyOrder.{reordered_sound}
use Rattle.spec_calls.proofs.Refusals.{accepted_by, on_sound, changes_on_sound, conditions, formed_first}

-- on a sound table refusals 1 and 2 do not apply
pub form_passes : (t : List ℕ) → T (sound t) → (cs : List Condition) → first_holding (form_conditions t ++ cs) ≡ first_holding cs
form_passes t s cs = rw (T→true (fits t) (sound_fits t s), T→true (sound t) s)

-- what is left of a call's outcome on a sound table
pub sound_outcome : (c : Call) → T (on_sound c) → (t : List ℕ) → T (sound t) →
    outcome c t ≡ refused_or (first_holding (conditions c (decode t))) t (lent_to c) (accepted c t (decode t))
unfolding outcome
sound_outcome c f t s =
    ap (λ o. refused_or o t (lent_to c) (accepted c t (decode t))) (ap first_holding (formed_first c f t) ∙ form_passes t s (conditions c (decode t)))

-- what an outcome leaves besides the table
pub record Alike (o p : Outcome) : Type 0 where
  pub answer : o.answer ≡ p.answer
  pub lent : o.lent ≡ p.lent

-- an accepted call's answer, and what it leaves in the lent bytes, are the board's
accepted_alike : (c : Call) → T (on_sound c) → (t u : List ℕ) (b : Board) → Alike (accepted c t b) (accepted c u b)
unfolding accepted
accepted_alike (arrival a) f t u b = record { answer = refl; lent = refl }
accepted_alike (closing c) f t u b = record { answer = refl; lent = refl }
accepted_alike (levelling allowance) f t u b = record { answer = refl; lent = refl }
accepted_alike (ask q lent) f t u b = record { answer = refl; lent = refl }
accepted_alike (between x y) f t u b = absurd f

-- no answer depends on the order of the chains, and no byte lent beside the table
pub answer_order_free : (c : Call) → T (on_sound c) → (t u : List ℕ) → T (sound t) → Reordered t u → Alike (outcome c t) (outcome c u)
answer_order_free c f t u s r =
    let before = sound_outcome c f t s ∙ ap on (sym (same_board u t r.sharing)) in
    let after = sound_outcome c f u (reordered_sound t u s r) in
    subst (λ o. Alike o (outcome c u)) (sym before) (subst (Alike (on (decode u))) (sym after) (other (first_holding (conditions c (decode u)))))
  where
    on : Board → Outcome
    on b = refused_or (first_holding (conditions c b)) t (lent_to c) (accepted c t b)

    other : (o : Option Refusal) → Alike (refused_or o t (lent_to c) (accepted c t (decode u))) (refused_or o u (lent_to c) (accepted c u (decode u)))
    other none = accepted_alike c f t u (decode u)
    other (some k) = record { answer = refl; lent = refl }

-- what an accepted arrival, closing or levelling writes is the board's
accepted_table : (c : Call) (t u : List ℕ) (b : Board) → T (not (is_question c)) → (accepted c t b).table ≡ (accepted c u b).table
unfolding accepted
accepted_table (arrival a) t u b q = refl
accepted_table (closing c) t u b q = refl
accepted_table (levelling allowance) t u b q = refl
accepted_table (ask k lent) t u b q = absurd q
accepted_table (between x y) t u b q = absurd q

-- and no byte that such a call leaves does
pub change_order_free : (c : Call) (t u : List ℕ) → T (sound t) → Reordered t u → T (not (is_question c)) →
    is_refused (outcome c t).answer ≡ false → (outcome c t).table ≡ (outcome c u).table
change_order_free c t u s r q n =
    let alike = answer_order_free c (changes_on_sound c q) t u s r in
    let m : is_refused (outcome c u).answer ≡ false = ap is_refused (sym alike.answer) ∙ n in
    ap (λ o. o.table) (accepted_by c t n).1
    ∙ ap (λ b. (accepted c t b).table) (sym (same_board u t r.sharing))
    ∙ accepted_table c t u (decode u) q
    ∙ ap (λ o. o.table) (sym (accepted_by c u m).1)
