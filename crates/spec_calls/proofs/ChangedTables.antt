-- 02, request 02: an accepted arrival, closing or levelling, of whatever bytes, leaves all chains rising and no order free; every
-- other call leaves the order as it was.
use Prim.Native.Nat.{ℕ}
use native.Mathlib.Omega.{arith}
use mathlib.Core.Path.{◌≡◌, refl, sym, ap, subst, ◌∙◌}
use mathlib.Core.Logic.{◌⊎◌, inl, inr}
use mathlib.Core.Bool.{Bool, true, false, not, ◌||◌, false≢true}
use mathlib.Core.List.{List, [], ◌∷◌}
use lib.Dec.{T}
use Rattle.spec_lists.specs.Lists.{within}
use Rattle.spec_table.specs.Board.{Board}
use Rattle.spec_table.specs.Table.{most_benches, most_jobs, sound, decode, encode, blank_table, all_rise, SameSharing, Reordered}
use Rattle.spec_sharing.specs.Sharing.{close, level, Levelled, relevel}
use Rattle.spec_sharing.specs.Demand2.{Flips, no_flip, flipThen}
use Rattle.spec_calls.specs.Answers.{Answer, Outcome, refused, arrived, closed, said, is_refused}
use Rattle.spec_calls.specs.Calls.{Arriving, Closing, Call, arrival, closing, levelling, ask, between, is_question, outcome, arrival_outcome, closing_outcome, levelling_outcome}
use Rattle.spec_calls.specs.JobBook.{puts_in_order, once_in_order, InOrder, refused_each, table_after, Runs, AsDefined}
use Rattle.spec_lists.proofs.Tests.{true→T, T→true, not→false, left, right, either}
use Rattle.spec_table.proofs.Sound.{sound_storable}
use Rattle.spec_table.proofs.Encode.{same_bytes}
use Rattle.spec_table.proofs.AnyOrder.{encoded_reordered}
use Rattle.spec_table.proofs.RisingChains.{encode_rises}
use Rattle.spec_sharing.proofs.Levelling.{level_rests}
use Rattle.spec_calls.proofs.Blanking.{blank_is_encoded, blank_sound, blank_decodes}
use Rattle.spec_calls.proofs.Refusals.{changes_on_sound, accepted_sound, refused_by_lem, question_leaves}
use Rattle.spec_calls.proofs.Outcomes.{WritesBoard, arrive_on, AcceptedArrival, AcceptedClosing, Relevelled, levelling_accepted, Left, by_call}

-- a table that was put in order: sound, and the table of the board that it holds
pub record Ordered (u : List ℕ) : Type 0 where
  pub sound : T (sound u)
  pub encoded : u ≡ encode (decode u)

-- its chains rise
pub in_order_rises : (u : List ℕ) → Ordered u → T (all_rise u)
in_order_rises u o = subst (λ u. T (all_rise u)) (sym o.encoded) (encode_rises (decode u) (sound_storable u o.sound))

-- a blank table is in order from the start
pub blank_in_order : (benches jobs : ℕ) → T (within 1 most_benches benches) → T (within 1 most_jobs jobs) → Ordered (blank_table benches jobs)
blank_in_order benches jobs b j =
    record { sound = blank_sound benches jobs b j; encoded = blank_is_encoded benches jobs ∙ ap encode (sym (blank_decodes benches jobs b j)) }

-- a table that a change writes is in order
in_order : {u : List ℕ} (b : Board) → WritesBoard u b → u ≡ encode b → Ordered u
in_order b w e = record { sound = w.sound; encoded = e ∙ ap encode (sym w.board) }

-- a call on a sound table, if it is an accepted arrival, closing or levelling, puts it in order
module _ (t : List ℕ) (s : T (sound t)) where
  abbrev Orders : Call → Type 0
  Orders c = T (puts_in_order c (is_refused (outcome c t).answer)) → Ordered (outcome c t).table

  arrival_orders : (a : Arriving) → AcceptedArrival t a (arrive_on t a) → Orders (arrival a)
  unfolding arrival_outcome
  arrival_orders a k p = in_order (arrive_on t a).board k.writes (ap (λ o. o.table) k.is)

  closing_orders : (c : Closing) → AcceptedClosing t c (close (decode t) c.job) → Orders (closing c)
  unfolding closing_outcome
  closing_orders c k p = in_order (close (decode t) c.job).board k.writes (ap (λ o. o.table) k.is)

  levelling_orders : (allowance : ℕ) → Relevelled t allowance (relevel allowance (decode t)) → Orders (levelling allowance)
  unfolding levelling_outcome
  levelling_orders allowance k p = in_order (relevel allowance (decode t)).board k.writes (ap (λ o. o.table) k.is)

  none_orders : (c : Call) → Left t c (outcome c t) → Orders c
  none_orders c k p = absurd (idle k.idle)
    where
      refused : Bool
      refused = is_refused (outcome c t).answer

      idle : (refused ≡ true) ⊎ T (is_question c) → ⊥
      idle (inl r) = subst T (ap not r) (right (not (is_question c)) (not refused) p)
      idle (inr q) = subst T (ap not (T→true (is_question c) q)) (left (not (is_question c)) (not refused) p)

  orders : (c : Call) → Orders c
  orders = by_call t s Orders arrival_orders closing_orders levelling_orders none_orders

-- any call on any bytes
module _ (c : Call) (t : List ℕ) where
  -- an accepted arrival, closing or levelling leaves a sound table, the table of the board it holds ..
  pub changed_in_order : T (puts_in_order c (is_refused (outcome c t).answer)) → Ordered (outcome c t).table
  changed_in_order p =
      let refused = is_refused (outcome c t).answer in
      let tests = changes_on_sound c (left (not (is_question c)) (not refused) p) in
      orders t (accepted_sound c tests t (not→false refused (right (not (is_question c)) (not refused) p))) c p

  -- .. so "every changed table, levelling included, has all its chains rising"
  pub changed_rises : T (puts_in_order c (is_refused (outcome c t).answer)) → T (all_rise (outcome c t).table)
  changed_rises p = in_order_rises (outcome c t).table (changed_in_order p)

-- a refused call leaves every byte ..
refused_keeps : (c : Call) (t : List ℕ) (a : Answer) → (outcome c t).answer ≡ a → not (is_refused a) ≡ false → (outcome c t).table ≡ t
refused_keeps c t (refused r) e n = (refused_by_lem c t r e).table
refused_keeps c t (arrived holder rose moved) e n = absurd (false≢true (sym n))
refused_keeps c t (closed fell moved) e n = absurd (false≢true (sym n))
refused_keeps c t (said f) e n = absurd (false≢true (sym n))

-- .. and so every call that puts nothing in order, a refused one or a question, leaves the order
pub order_left : (c : Call) (t : List ℕ) → puts_in_order c (is_refused (outcome c t).answer) ≡ false → (outcome c t).table ≡ t
order_left (arrival a) t n = refused_keeps (arrival a) t (outcome (arrival a) t).answer refl n
order_left (closing k) t n = refused_keeps (closing k) t (outcome (closing k) t).answer refl n
order_left (levelling allowance) t n = refused_keeps (levelling allowance) t (outcome (levelling allowance) t).answer refl n
order_left (ask q lent) t n = question_leaves (ask q lent) tt t
order_left (between x y) t n = question_leaves (between x y) tt t

-- "No order is left free: benches, jobs and holders fix every byte": two tables left by such calls that hold the same sharing are
-- the same bytes
pub changed_fixed : (c d : Call) (t u : List ℕ) → T (puts_in_order c (is_refused (outcome c t).answer)) →
    T (puts_in_order d (is_refused (outcome d u).answer)) → SameSharing (outcome c t).table (outcome d u).table →
    (outcome c t).table ≡ (outcome d u).table
changed_fixed c d t u p q e =
    (changed_in_order c t p).encoded ∙ same_bytes (outcome c t).table (outcome d u).table e ∙ sym (changed_in_order d u q).encoded

-- without a path nothing moves
flips_none : (n : ℕ) (b d : Board) → Flips n b d → n ≡ 0 → d ≡ b
flips_none n b d (no_flip _) e = refl
flips_none n b d (flipThen _ _ _ p c f) e = absurd (omega arith)

-- so a levelling that turns none is accepted, and puts the table in order as it is: no bench, job or holder changes
pub record OnlyReorders (t : List ℕ) (c : Call) : Type 0 where
  pub accepted : is_refused (outcome c t).answer ≡ false
  pub table : (outcome c t).table ≡ encode (decode t)
  pub reordered : Reordered t (outcome c t).table

pub levelling_reorders : (t : List ℕ) → T (sound t) → (allowance : ℕ) → (relevel allowance (decode t)).paths ≡ 0 →
    OnlyReorders t (levelling allowance)
unfolding levelling_outcome
levelling_reorders t s allowance e =
    let k = levelling_accepted t s allowance in
    let r = relevel allowance (decode t) in
    let same = flips_none r.paths (decode t) r.board k.does.report.flipped e in
    let table : (outcome (levelling allowance) t).table ≡ encode (decode t) = ap (λ o. o.table) k.is ∙ ap encode same in
    record { accepted = ap (λ o. is_refused o.answer) k.is; table = table; reordered = subst (Reordered t) (sym table) (encoded_reordered t s) }

-- with allowance 0 ..
pub allowance_0_reorders : (t : List ℕ) → T (sound t) → OnlyReorders t (levelling 0)
allowance_0_reorders t s = levelling_reorders t s 0 refl

-- .. and on a level board
pub level_reorders : (t : List ℕ) → T (sound t) → T (level (decode t)) → (allowance : ℕ) → OnlyReorders t (levelling allowance)
level_reorders t s l allowance = levelling_reorders t s allowance (ap (λ (r : Levelled). r.paths) (level_rests allowance (decode t) l))

-- lists of calls, from whatever bytes

-- what is true of every table in order is true after a list of calls, if it was before or the table was put in order
module _ (P : List ℕ → Type 0) (holds : (u : List ℕ) → Ordered u → P u) where
  call_keeps : (c : Call) (t : List ℕ) → P t ⊎ T (puts_in_order c (is_refused (outcome c t).answer)) → P (outcome c t).table
  call_keeps c t (inr q) = holds (outcome c t).table (changed_in_order c t q)
  call_keeps c t (inl p) = go (puts_in_order c (is_refused (outcome c t).answer)) refl
    where
      go : (z : Bool) → puts_in_order c (is_refused (outcome c t).answer) ≡ z → P (outcome c t).table
      go true e = holds (outcome c t).table (changed_in_order c t (true→T (puts_in_order c (is_refused (outcome c t).answer)) e))
      go false e = subst P (sym (order_left c t e)) p

  first_keeps : (c : Call) (t : List ℕ) (o : Outcome) (later : Bool) → o ≡ outcome c t → P t ⊎ T (puts_in_order c (is_refused o.answer) || later) →
      P o.table ⊎ T later
  first_keeps c t o later e (inl p) = inl (subst (λ o. P o.table) (sym e) (call_keeps c t (inl p)))
  first_keeps c t o later e (inr q) = go (either (puts_in_order c (is_refused o.answer)) later q)
    where
      go : T (puts_in_order c (is_refused o.answer)) ⊎ T later → P o.table ⊎ T later
      go (inl d) = inl (subst (λ o. P o.table) (sym e) (call_keeps c t (inr (subst (λ o. T (puts_in_order c (is_refused o.answer))) e d))))
      go (inr l) = inr l

  run_keeps : (t : List ℕ) (cs : List Call) (os : List Outcome) → Runs AsDefined t cs os → P t ⊎ T (once_in_order cs (refused_each os)) →
      P (table_after t os)
  run_keeps t [] [] r (inl p) = p
  run_keeps t [] [] r (inr q) = absurd q
  run_keeps t [] (o ∷ os) r p = absurd r
  run_keeps t (c ∷ cs) [] r p = absurd r
  run_keeps t (c ∷ cs) (o ∷ os) r p = run_keeps o.table cs os r.1 (first_keeps c t o (once_in_order cs (refused_each os)) r.0 p)

-- so all chains rise, if they did before or were put in order ..
pub run_rises : (t : List ℕ) (cs : List Call) (os : List Outcome) → Runs AsDefined t cs os → T (all_rise t || once_in_order cs (refused_each os)) →
    T (all_rise (table_after t os))
run_rises t cs os r p = run_keeps (λ u. T (all_rise u)) in_order_rises t cs os r (either (all_rise t) (once_in_order cs (refused_each os)) p)

-- .. the table is that of the board it holds, if it was before or was put in order ..
pub run_fixed : (t : List ℕ) (cs : List Call) (os : List Outcome) → Runs AsDefined t cs os → InOrder t cs (refused_each os) →
    table_after t os ≡ encode (decode (table_after t os))
run_fixed = run_keeps (λ u. u ≡ encode (decode u)) (λ u o. o.encoded)

-- .. and two counters that hold the same sharing, each with a table that was in order or was put in order, have the same bytes:
-- "stored copies" can be matched
pub runs_match : (t u : List ℕ) (cs ds : List Call) (os ps : List Outcome) → Runs AsDefined t cs os → Runs AsDefined u ds ps →
    InOrder t cs (refused_each os) → InOrder u ds (refused_each ps) → SameSharing (table_after t os) (table_after u ps) →
    table_after t os ≡ table_after u ps
runs_match t u cs ds os ps r s p q e =
    run_fixed t cs os r p ∙ same_bytes (table_after t os) (table_after u ps) e ∙ sym (run_fixed u ds ps s q)
