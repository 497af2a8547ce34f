-- Demand 1 of the definitions: a call is refused exactly if a condition of it holds, with the first of its order whose
-- condition holds; a refused call and a question leave the table as it was.
use Prim.Native.Nat.{ℕ, ◌≤◌}
use native.Mathlib.Omega.{arith}
use mathlib.Core.Path.{◌≡◌, refl, sym, ap, subst, ◌∙◌}
use mathlib.Core.Logic.{◌⊎◌, inl, inr}
use mathlib.Core.Bool.{Bool, true, false, cond, not, false≢true}
use mathlib.Core.List.{List, [], ◌∷◌, ◌++◌, map}
use mathlib.Core.Option.{Option, none, some, some-injective, none-ne-some, some-ne-none}
use lib.Dec.{T}
use Rattle.spec_lists.specs.Lists.{range, rises, Each}
use Rattle.spec_table.specs.Table.{sound, decode}
use Rattle.spec_table.specs.Board.{Board}
use Rattle.spec_lists.proofs.Tests.{not_false}
use Rattle.spec_calls.specs.Answers.{Refusal, Condition, refusal_number, in_numbers, first_holding, is_refused, refused_or, refused, said, level_yes, level_no, levelled, stopped, sizes, unsound, job_number, bench_number, already_standing, not_standing, height, list_too_short, count_full, unreadable, page_too_short}
use Rattle.spec_calls.specs.Calls.{Question, load_of, heaviest_load, tight_set_of, form_check, level_check, wall_sheet, Call, arrival, closing, levelling, ask, between, is_question, form_conditions, arrival_conditions, closing_conditions, question_conditions, between_conditions, refusals, question_order, order, lent_to, accepted, outcome, arrival_outcome, closing_outcome, levelling_outcome}

-- "returned": 1 to 11, in the table's order; 02: "11, after 10"
pub refusals_told : map refusal_number (sizes ∷ unsound ∷ job_number ∷ bench_number ∷ already_standing ∷ not_standing ∷ height ∷ list_too_short ∷ count_full ∷ unreadable ∷ page_too_short ∷ []) ≡ range 1 11
refusals_told = refl

-- a level check's and a levelling's answers in numbers: yes and level are 1, no and stopped 0
pub level_told : (n : ℕ) → map (λ f. in_numbers (said f)) (level_yes ∷ level_no ∷ levelled n ∷ stopped n ∷ []) ≡ (0 ∷ 1 ∷ []) ∷ (0 ∷ 0 ∷ []) ∷ (0 ∷ n ∷ 1 ∷ []) ∷ (0 ∷ n ∷ 0 ∷ []) ∷ []
level_told n = refl

-- the numbers of conditions, in their order
abbrev condition_numbers : List Condition → List ℕ
condition_numbers = map (λ k. refusal_number k.refusal)

-- a call's conditions stand in the call's own order
pub conditions_ordered : (c : Call) (t : List ℕ) → condition_numbers (refusals c t) ≡ order c
unfolding refusals arrival_conditions closing_conditions question_conditions between_conditions
conditions_ordered (arrival a) t = refl
conditions_ordered (closing c) t = refl
conditions_ordered (levelling allowance) t = refl
conditions_ordered (between x y) t = refl
conditions_ordered (ask q lent) t = asked q
  where
    asked : (q : Question) → condition_numbers (form_conditions t ++ question_conditions q lent (decode t)) ≡ question_order q
    asked (load_of x) = refl
    asked heaviest_load = refl
    asked (tight_set_of h) = refl
    asked form_check = refl
    asked level_check = refl
    asked wall_sheet = refl

-- r is the refusal of a condition that holds, and no condition before it does
abbrev pub FirstIs : Refusal → List Condition → Type 0
FirstIs r [] = ⊥
FirstIs r (c ∷ cs) = ((c.holds ≡ true) × (c.refusal ≡ r)) ⊎ ((c.holds ≡ false) × FirstIs r cs)

-- the refusal of a list of conditions is the first that holds
pub first_is : (cs : List Condition) (r : Refusal) → first_holding cs ≡ some r → FirstIs r cs
first_is [] r e = absurd (none-ne-some r e)
first_is (c ∷ cs) r e = go c.holds refl e (λ d. first_is cs r d)
  where
    go : (z : Bool) → c.holds ≡ z → cond z (some c.refusal) (first_holding cs) ≡ some r → (first_holding cs ≡ some r → FirstIs r cs) → FirstIs r (c ∷ cs)
    go true h d ih = inl (h, some-injective c.refusal r d)
    go false h d ih = inr (h, ih d)

-- and there is none exactly if no condition holds
pub none_holds : (cs : List Condition) → first_holding cs ≡ none → Each (λ c. c.holds ≡ false) cs
none_holds [] e = tt
none_holds (c ∷ cs) e = go c.holds refl e (λ d. none_holds cs d)
  where
    go : (z : Bool) → c.holds ≡ z → cond z (some c.refusal) (first_holding cs) ≡ none → (first_holding cs ≡ none → Each (λ d. d.holds ≡ false) cs) → Each (λ d. d.holds ≡ false) (c ∷ cs)
    go true h d ih = absurd (some-ne-none c.refusal d)
    go false h d ih = (h, ih d)

-- conditions that come after one that holds do not count
pub first_stays : (cs ds : List Condition) (r : Refusal) → first_holding cs ≡ some r → first_holding (cs ++ ds) ≡ some r
first_stays [] ds r e = absurd (none-ne-some r e)
first_stays (c ∷ cs) ds r e = go c.holds e (λ d. first_stays cs ds r d)
  where
    go : (z : Bool) → cond z (some c.refusal) (first_holding cs) ≡ some r → (first_holding cs ≡ some r → first_holding (cs ++ ds) ≡ some r) → cond z (some c.refusal) (first_holding (cs ++ ds)) ≡ some r
    go true d ih = d
    go false d ih = ih d

-- an accepted call's answer is no refusal
pub accepted_answers : (c : Call) (t : List ℕ) (b : Board) → is_refused (accepted c t b).answer ≡ false
unfolding accepted arrival_outcome closing_outcome levelling_outcome
accepted_answers (arrival a) t b = refl
accepted_answers (closing c) t b = refl
accepted_answers (levelling allowance) t b = refl
accepted_answers (ask q lent) t b = refl
accepted_answers (between x y) t b = refl

-- the calls that test the form of their table first: all but the question for a job between two benches ..
abbrev pub on_sound : Call → Bool
on_sound (arrival a) = true
on_sound (closing c) = true
on_sound (levelling allowance) = true
on_sound (ask q lent) = true
on_sound (between x y) = false

-- .. so every call that changes a table does ..
pub changes_on_sound : (c : Call) → T (not (is_question c)) → T (on_sound c)
changes_on_sound (arrival a) n = tt
changes_on_sound (closing c) n = tt
changes_on_sound (levelling allowance) n = tt
changes_on_sound (ask q lent) n = tt
changes_on_sound (between x y) n = n

-- .. and what such a call tests of the board then
abbrev pub conditions : Call → Board → List Condition
conditions (arrival a) b = arrival_conditions a b
conditions (closing c) b = closing_conditions c b
conditions (levelling allowance) b = []
conditions (ask q lent) b = question_conditions q lent b
conditions (between x y) b = []

pub formed_first : (c : Call) → T (on_sound c) → (t : List ℕ) → refusals c t ≡ form_conditions t ++ conditions c (decode t)
unfolding refusals
formed_first (arrival a) f t = refl
formed_first (closing c) f t = refl
formed_first (levelling allowance) f t = refl
formed_first (ask q lent) f t = refl
formed_first (between x y) f t = absurd f

-- 01: "Where several apply, the lowest number is returned": in the order of such a call the numbers rise
pub order_rises : (c : Call) → T (on_sound c) → T (rises (order c))
order_rises (arrival a) f = tt
order_rises (closing c) f = tt
order_rises (levelling allowance) f = tt
order_rises (ask q lent) f = asked q
  where
    asked : (q : Question) → T (rises (question_order q))
    asked (load_of x) = tt
    asked heaviest_load = tt
    asked (tight_set_of h) = tt
    asked form_check = tt
    asked level_check = tt
    asked wall_sheet = tt
order_rises (between x y) f = absurd f

-- a table that 1 or 2 refuses is refused so by each of these calls
pub form_stops : (c : Call) → T (on_sound c) → (t : List ℕ) (r : Refusal) → first_holding (form_conditions t) ≡ some r → (outcome c t).answer ≡ refused r
unfolding outcome
form_stops c f t r e = rw (formed_first c f t, first_stays (form_conditions t) (conditions c (decode t)) r e)

-- a refused call names the first condition that holds, and leaves every lent byte
pub record RefusedBy (r : Refusal) (c : Call) (t : List ℕ) : Type 0 where
  pub condition : FirstIs r (refusals c t)
  pub table : (outcome c t).table ≡ t
  pub lent : (outcome c t).lent ≡ lent_to c

pub refused_by_lem : (c : Call) (t : List ℕ) (r : Refusal) → (outcome c t).answer ≡ refused r → RefusedBy r c t
unfolding outcome
refused_by_lem c t r e = go (first_holding cs) refl e
  where
    cs : List Condition
    cs = refusals c t

    go : (o : Option Refusal) → first_holding cs ≡ o → (refused_or o t (lent_to c) (accepted c t (decode t))).answer ≡ refused r → RefusedBy r c t
    go none f d = absurd (false≢true (sym (accepted_answers c t (decode t)) ∙ ap is_refused d))
    go (some s) f d =
        let same : s ≡ r = cc in
        record { condition = first_is cs r (f ∙ ap {B = Option Refusal} some same); table = ap (λ o. (refused_or o t (lent_to c) (accepted c t (decode t))).table) f; lent = ap (λ o. (refused_or o t (lent_to c) (accepted c t (decode t))).lent) f }

-- a call that is not refused does what it says: no condition holds, and the outcome is the accepted one
pub accepted_by : (c : Call) (t : List ℕ) → is_refused (outcome c t).answer ≡ false → Each (λ k. k.holds ≡ false) (refusals c t) × (outcome c t ≡ accepted c t (decode t))
unfolding outcome
accepted_by c t e = go (first_holding cs) refl e
  where
    cs : List Condition
    cs = refusals c t

    go : (o : Option Refusal) → first_holding cs ≡ o → is_refused (refused_or o t (lent_to c) (accepted c t (decode t))).answer ≡ false → Each (λ k. k.holds ≡ false) cs × (outcome c t ≡ accepted c t (decode t))
    go none f d = (none_holds cs f, ap (λ o. refused_or o t (lent_to c) (accepted c t (decode t))) f)
    go (some s) f d = absurd (false≢true (sym d))

-- where such a call is not refused, its table is sound
pub accepted_sound : (c : Call) → T (on_sound c) → (t : List ℕ) → is_refused (outcome c t).answer ≡ false → T (sound t)
accepted_sound c f t n =
    not_false (sound t) (subst (Each (λ k. k.holds ≡ false)) (formed_first c f t) (accepted_by c t n).0).1.0

-- refusals are numbered from 1 on ..
pub refusal_positive : (r : Refusal) → 1 ≤ refusal_number r
refusal_positive sizes = omega arith
refusal_positive unsound = omega arith
refusal_positive job_number = omega arith
refusal_positive bench_number = omega arith
refusal_positive already_standing = omega arith
refusal_positive not_standing = omega arith
refusal_positive height = omega arith
refusal_positive list_too_short = omega arith
refusal_positive count_full = omega arith
refusal_positive unreadable = omega arith
refusal_positive page_too_short = omega arith

-- "the questions, which change no table byte"
pub question_leaves : (c : Call) → T (is_question c) → (t : List ℕ) → (outcome c t).table ≡ t
unfolding outcome accepted
question_leaves c q t = go c q (first_holding (refusals c t))
  where
    go : (c : Call) → T (is_question c) → (o : Option Refusal) → (refused_or o t (lent_to c) (accepted c t (decode t))).table ≡ t
    go (arrival a) n o = absurd n
    go (closing k) n o = absurd n
    go (levelling allowance) n o = absurd n
    go (ask q lent) n none = refl
    go (ask q lent) n (some s) = refl
    go (between x y) n none = refl
    go (between x y) n (some s) = refl
