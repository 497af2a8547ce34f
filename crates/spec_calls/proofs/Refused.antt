-- Arrival and closing on a sound table: when they are refused, with which number, and that nothing else refuses them.
use Prim.Native.Nat.{ℕ, ◌*◌, ◌≤◌, ◌<◌}
use mathlib.Core.Path.{◌≡◌, ap, ◌∙◌}
use mathlib.Core.Logic.{◌⊎◌, ◌↔◌}
use mathlib.Core.Bool.{true, false}
use mathlib.Core.List.{List, [], ◌∷◌}
use lib.Dec.{T}
use lib.ListN.{length}
use borrow.Author.Tests.{lt-ltb, le-ltb}
use Rattle.spec_lists.specs.Lists.{within}
use Rattle.spec_table.specs.Board.{stands}
use Rattle.spec_table.specs.Table.{sound, decode}
use Rattle.spec_sharing.specs.Sharing.{close}
use Rattle.spec_calls.specs.Answers.{is_refused, refuse, unless, refused, job_number, bench_number, already_standing, not_standing, list_too_short}
use Rattle.spec_calls.specs.Calls.{Arriving, Closing, namable, MayArrive, too_short, arrival, closing, arrival_conditions, closing_conditions, accepted, outcome, arrival_outcome, closing_outcome}
use Rattle.spec_lists.proofs.Tests.{T→true, not→false}
use Rattle.spec_table.proofs.Named.{pair_misfits, stands_within}
use Rattle.spec_calls.proofs.ChainOrder.{sound_outcome}
use Rattle.spec_calls.proofs.Outcomes.{arrive_on, arrival_accepted, closing_accepted}

module _ (t : List ℕ) (s : T (sound t)) where
  -- 3: "job number not 1 to J"
  pub arrival_number_refused : (a : Arriving) → within 1 (length (decode t).named) a.job ≡ false → (outcome (arrival a) t).answer ≡ refused job_number
  unfolding arrival_conditions closing_conditions accepted
  arrival_number_refused a w = ap (λ o. o.answer) (sound_outcome (arrival a) tt t s) ∙ rw w

  pub closing_number_refused : (c : Closing) → within 1 (length (decode t).named) c.job ≡ false → (outcome (closing c) t).answer ≡ refused job_number
  unfolding arrival_conditions closing_conditions accepted
  closing_number_refused c w = ap (λ o. o.answer) (sound_outcome (closing c) tt t s) ∙ rw w

  -- 4: "bench not 1 to B, or both benches the same"
  pub arrival_bench_refused : (j x y : ℕ) (list : List ℕ) → within 1 (length (decode t).named) j ≡ true → (within 1 (decode t).benches x ≡ false) ⊎ (within 1 (decode t).benches y ≡ false) ⊎ (x ≡ y) → (outcome (arrival (record { job = j; given = x ∷ y ∷ []; list = list })) t).answer ≡ refused bench_number
  unfolding arrival_conditions closing_conditions accepted
  arrival_bench_refused j x y list w c =
      let a : Arriving = record { job = j; given = x ∷ y ∷ []; list = list } in
      ap (λ o. o.answer) (sound_outcome (arrival a) tt t s) ∙ rw (w, pair_misfits (decode t).benches x y c)

  -- 5: "arrival of a standing job"
  pub arrival_standing_refused : (a : Arriving) → T (namable (decode t) a.given) → T (stands (decode t) a.job) → (outcome (arrival a) t).answer ≡ refused already_standing
  unfolding arrival_conditions closing_conditions accepted
  arrival_standing_refused a f n =
      let b = decode t in
      ap (λ o. o.answer) (sound_outcome (arrival a) tt t s) ∙ rw (T→true (within 1 (length b.named) a.job) (stands_within b a.job n), T→true (namable b a.given) f, T→true (stands b a.job) n)

  -- 6: "closing of a job not standing"
  pub closing_standing_refused : (c : Closing) → within 1 (length (decode t).named) c.job ≡ true → stands (decode t) c.job ≡ false → (outcome (closing c) t).answer ≡ refused not_standing
  unfolding arrival_conditions closing_conditions accepted
  closing_standing_refused c w n = ap (λ o. o.answer) (sound_outcome (closing c) tt t s) ∙ rw (w, n)

  -- past 3, 4 and 5, and past 3 and 6, the list alone decides
  arrival_tested : (a : Arriving) → MayArrive (decode t) a.job a.given → outcome (arrival a) t ≡ unless (refuse list_too_short (too_short a.list (arrive_on t a).moved) ∷ []) t a.list (arrival_outcome a (arrive_on t a))
  unfolding arrival_conditions accepted
  arrival_tested a m =
      let b = decode t in
      sound_outcome (arrival a) tt t s ∙ rw (T→true (within 1 (length b.named) a.job) m.number, T→true (namable b a.given) m.fit, not→false (stands b a.job) m.free)

  closing_tested : (c : Closing) → T (stands (decode t) c.job) → outcome (closing c) t ≡ unless (refuse list_too_short (too_short c.list (close (decode t) c.job).moved) ∷ []) t c.list (closing_outcome c (close (decode t) c.job))
  unfolding closing_conditions accepted
  closing_tested c n =
      let b = decode t in
      sound_outcome (closing c) tt t s ∙ rw (T→true (within 1 (length b.named) c.job) (stands_within b c.job n), T→true (stands b c.job) n)

  -- 8, 02: "a list too short for the moves"
  pub arrival_list_refused : (a : Arriving) → MayArrive (decode t) a.job a.given → length a.list < 2 * length (arrive_on t a).moved → (outcome (arrival a) t).answer ≡ refused list_too_short
  arrival_list_refused a m l =
      ap (λ o. o.answer) (arrival_tested a m) ∙ rw (lt-ltb (length a.list) (2 * length (arrive_on t a).moved) l)

  pub closing_list_refused : (c : Closing) → T (stands (decode t) c.job) → length c.list < 2 * length (close (decode t) c.job).moved → (outcome (closing c) t).answer ≡ refused list_too_short
  closing_list_refused c n l =
      ap (λ o. o.answer) (closing_tested c n) ∙ rw (lt-ltb (length c.list) (2 * length (close (decode t) c.job).moved) l)

  -- an arrival is accepted exactly if its number is one of 1 to J, no such job stands, its benches are two different ones of
  -- 1 to B, and its list is long enough for the moves
  pub arrival_exact : (a : Arriving) → (is_refused (outcome (arrival a) t).answer ≡ false) ↔ (MayArrive (decode t) a.job a.given × (2 * length (arrive_on t a).moved ≤ length a.list))
  unfolding arrival_outcome
  arrival_exact a =
      (λ e. let r = arrival_accepted t s a e in (r.may, r.room), λ p. ap (λ o. is_refused o.answer) (arrival_tested a p.0) ∙ rw (le-ltb (length a.list) (2 * length (arrive_on t a).moved) p.1))

  -- a closing is accepted exactly if its job stands and its list is long enough
  pub closing_exact : (c : Closing) → (is_refused (outcome (closing c) t).answer ≡ false) ↔ (T (stands (decode t) c.job) × (2 * length (close (decode t) c.job).moved ≤ length c.list))
  unfolding closing_outcome
  closing_exact c =
      (λ e. let r = closing_accepted t s c e in (r.stood, r.room), λ p. ap (λ o. is_refused o.answer) (closing_tested c p.0) ∙ rw (le-ltb (length c.list) (2 * length (close (decode t) c.job).moved) p.1))
