-- "If a blank table and a zero tally start together, each answer is noted once without a 9, and the table is not blanked again,
-- arrivals less closings are the jobs standing."
use Prim.Native.Nat.{ℕ, ◌+◌}
use native.Mathlib.Omega.{arith}
use mathlib.Core.Path.{◌≡◌, refl, sym, ap, subst, ◌∙◌}
use mathlib.Core.Bool.{true, false, not}
use mathlib.Core.List.{List, [], ◌∷◌}
use mathlib.Core.Option.{none}
use lib.Dec.{T}
use lib.ListN.{length}
use Rattle.spec_lists.specs.Lists.{bit, within, filter, empty, update}
use Rattle.spec_table.specs.Board.{Board, stands, standing}
use Rattle.spec_table.specs.Table.{sizes_fit, length_for, sound, decode, blank_table}
use Rattle.spec_sharing.specs.Sharing.{close, relevel}
use Rattle.spec_calls.specs.Answers.{Answer, Outcome}
use Rattle.spec_calls.specs.Calls.{Arriving, Closing, Call, arrival, closing, levelling, outcome, arrival_outcome, closing_outcome, levelling_outcome}
use Rattle.spec_calls.specs.JobBook.{table_after, Runs, AsDefined}
use Rattle.spec_calls.specs.Tally.{Tally, Noted, zero_tally, noted, tally_after, NoNine}
use Rattle.spec_lists.proofs.Tests.{true→T, T→true, not→false, within_low, within_high}
use Rattle.spec_lists.proofs.Counting.{filter_update}
use Rattle.spec_table.proofs.Places.{sized}
use Rattle.spec_calls.proofs.Blanking.{standing_empty, blank_sound, blank_decodes}
use Rattle.spec_table.proofs.Named.{stands_within}
use Rattle.spec_calls.proofs.Outcomes.{WritesBoard, namable_some, arrive_on, AcceptedArrival, AcceptedClosing, levelling_quiet, by_call}
use Rattle.spec_calls.proofs.Tally.{is_change, raised_new, other_noted}

-- arrivals are closings and the jobs standing together
abbrev pub Balanced : Tally → Board → Type 0
Balanced y b = y.arrivals ≡ y.closings + standing b

-- a job that comes or goes, as the number of standing jobs sees it
standing_written : (b : Board) (j : ℕ) (names : List ℕ) (d : Board) → T (within 1 (length b.named) j) → d.named ≡ update b.named j names → standing d + bit (stands b j) ≡ standing b + bit (not (empty names))
standing_written b j names d w e =
    ap (λ (named : List (List ℕ)). length (filter (λ n. not (empty n)) named) + bit (stands b j)) e
    ∙ filter_update (λ (n : List ℕ). not (empty n)) b.named j names [] (within_low 1 (length b.named) j w) (within_high 1 (length b.named) j w)

-- what noting a call's answer keeps: the table is sound again, and the balance holds
pub record Keeps (t : List ℕ) (o : Outcome) : Type 0 where
  pub form : T (sound o.table)
  pub balance : (y : Tally) → Balanced y (decode t) → (noted y o.answer).refusal ≡ none → Balanced (noted y o.answer).tally (decode o.table)

-- it is enough to know the answer and the board that is written
keeps_as : (t : List ℕ) (o : Outcome) (a : Answer) (d : Board) → o.answer ≡ a → WritesBoard o.table d → ((y : Tally) → Balanced y (decode t) → (noted y a).refusal ≡ none → Balanced (noted y a).tally d) → Keeps t o
keeps_as t o a d e w f =
    record {
      form = w.sound;
      balance = subst (λ (d : Board). (y : Tally) → Balanced y (decode t) → (noted y o.answer).refusal ≡ none → Balanced (noted y o.answer).tally d) (sym w.board) (subst (λ (a : Answer). (y : Tally) → Balanced y (decode t) → (noted y a).refusal ≡ none → Balanced (noted y a).tally d) (sym e) f);
    }

module _ (t : List ℕ) (s : T (sound t)) where
  keeps_arrival : (k : Arriving) → AcceptedArrival t k (arrive_on t k) → Keeps t (outcome (arrival k) t)
  unfolding arrival_outcome noted
  keeps_arrival k a =
      let c = arrive_on t k in
      keeps_as t (outcome (arrival k) t) (arrival_outcome k c).answer c.board (ap (λ o. o.answer) a.is) a.writes
      (λ z b n.
      let new : Tally = record { arrivals = z.arrivals + 1; closings = z.closings; moved = z.moved + length c.moved } in
      let r = raised_new z new n in
      let q = standing_written (decode t) k.job k.given c.board a.may.number a.does.named in
      let some : bit (not (empty k.given)) ≡ 1 = ap bit (T→true (not (empty k.given)) (namable_some (decode t) k.given a.may.fit)) in
      omega (arith, q, some, ap (λ (u : Tally). u.arrivals) r, ap (λ (u : Tally). u.closings) r, ap bit (not→false (stands (decode t) k.job) a.may.free)))

  keeps_closing : (k : Closing) → AcceptedClosing t k (close (decode t) k.job) → Keeps t (outcome (closing k) t)
  unfolding closing_outcome noted
  keeps_closing k a =
      let c = close (decode t) k.job in
      keeps_as t (outcome (closing k) t) (closing_outcome k c).answer c.board (ap (λ o. o.answer) a.is) a.writes
      (λ z b n.
      let new : Tally = record { arrivals = z.arrivals; closings = z.closings + 1; moved = z.moved + length c.moved } in
      let r = raised_new z new n in
      let q = standing_written (decode t) k.job [] c.board (stands_within (decode t) k.job a.stood) a.does.named in
      omega (arith, ap (λ (u : Tally). u.arrivals) r, ap (λ (u : Tally). u.closings) r, ap bit (T→true (stands (decode t) k.job) a.stood)))

  -- where nothing is counted, the same jobs stand
  keeps_quiet : (o : Outcome) (a : Answer) (d : Board) → o.answer ≡ a → WritesBoard o.table d → is_change a ≡ false → d.named ≡ (decode t).named → Keeps t o
  keeps_quiet o a d e w q n =
      keeps_as t o a d e w
      (λ y b m. subst (λ (u : Tally). Balanced u d) (sym (ap (λ (n : Noted). n.tally) (other_noted y a q))) (b ∙ ap (λ (named : List (List ℕ)). y.closings + length (filter (λ l. not (empty l)) named)) (sym n)))

  -- every call keeps it
  pub keeps : (c : Call) → Keeps t (outcome c t)
  keeps =
      by_call t s (λ c. Keeps t (outcome c t)) keeps_arrival keeps_closing
      (λ n a. let r = relevel n (decode t) in keeps_quiet (outcome (levelling n) t) (levelling_outcome r).answer r.board (ap (λ o. o.answer) a.is) a.writes (levelling_quiet r) a.does.report.jobs)
      (λ c a. keeps_quiet (outcome c t) (outcome c t).answer (decode t) refl (subst (λ (u : List ℕ). WritesBoard u (decode t)) (sym a.table) (record { sound = s; board = refl })) a.quiet refl)

-- along a whole run
balanced : (t : List ℕ) (y : Tally) → T (sound t) → Balanced y (decode t) → (cs : List Call) (os : List Outcome) → Runs AsDefined t cs os → NoNine y os → Balanced (tally_after y os) (decode (table_after t os))
balanced t y s b [] [] r n = b
balanced t y s b [] (o ∷ os) r n = absurd r
balanced t y s b (c ∷ cs) [] r n = absurd r
balanced t y s b (c ∷ cs) (o ∷ os) r n =
    let k = subst (Keeps t) (sym r.0) (keeps t s c) in
    balanced o.table (noted y o.answer).tally k.form (k.balance y b n.0) cs os r.1 n.1

-- the sum says that nothing is cut off below 0
pub arrivals_less_closings : (benches jobs : ℕ) → sizes_fit (length_for benches jobs) benches jobs ≡ true → (cs : List Call) (os : List Outcome) → Runs AsDefined (blank_table benches jobs) cs os → NoNine zero_tally os → let y = tally_after zero_tally os in y.arrivals ≡ y.closings + standing (decode (table_after (blank_table benches jobs) os))
arrivals_less_closings benches jobs e cs os r n =
    let z = sized (length_for benches jobs) benches jobs (true→T (sizes_fit (length_for benches jobs) benches jobs) e) in
    let d = blank_decodes benches jobs z.benches_within z.jobs_within in
    let b : Balanced zero_tally (decode (blank_table benches jobs)) = omega (arith, ap standing d, standing_empty jobs) in
    balanced (blank_table benches jobs) zero_tally (blank_sound benches jobs z.benches_within z.jobs_within) b cs os r n
