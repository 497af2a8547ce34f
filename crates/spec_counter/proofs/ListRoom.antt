-- 02, request 04: no arrival or closing moves more than B − 1 jobs, and no tight set has more than B benches: the program's list of 1,000
-- bytes is long enough for all of them, and it never prints 8.
use Prim.Native.Nat.{ℕ, ◌*◌, ◌≤◌}
use native.Mathlib.Omega.{arith}
use mathlib.Core.Path.{◌≡◌, refl, ap, subst}
use mathlib.Core.Logic.{inl, inr, ◌≢◌}
use mathlib.Core.Bool.{Bool, true, false, not}
use mathlib.Core.List.{List, [], ◌∷◌, ◌++◌}
use lib.Dec.{T}
use lib.ListN.{length, get_or}
use borrow.Author.Tests.{ltb-true}
use Rattle.spec_lists.specs.Lists.{within}
use Rattle.spec_table.specs.Board.{stands}
use Rattle.spec_table.specs.Table.{most_benches, sizes_fit, sound, decode, blank_table}
use Rattle.spec_sharing.specs.Sharing.{arrive, close, tight_set}
use Rattle.spec_calls.specs.Answers.{Refusal, refusal_number, in_numbers, first_holding, refused_or, refuse, refused, sizes, list_too_short, blanked}
use Rattle.spec_calls.specs.Calls.{Call, Arriving, Closing, namable, too_short, arrival, closing, ask, heaviest_load, tight_set_of, form_conditions, arrival_conditions, closing_conditions, question_conditions, telling, answering, outcome, blanking}
use Rattle.spec_counter.specs.Counter.{Command, set_table, take_in, close_job, ask_tight_set, ask_heaviest, counter_list, room, done}
use Rattle.spec_lists.proofs.Tests.{not_false, false→not, within_high}
use Rattle.spec_table.proofs.Sound.{sound_storable}
use Rattle.spec_sharing.proofs.Changes.{arrival_does, closing_does}
use Rattle.spec_sharing.proofs.TightSet.{tight_most}
use Rattle.spec_calls.proofs.Refusals.{FirstIs, on_sound, conditions, formed_first, refused_by_lem}
use Rattle.spec_calls.proofs.Outcomes.{namable_some, namable_fit}
use Rattle.spec_counter.proofs.Counter.{list_holds_all}

-- a refusal with another number is not 8
not_eight : (r : Refusal) → refusal_number r ≢ 8 → r ≡ list_too_short → ⊥
not_eight r n e = n (ap refusal_number e)

-- no list of words, one for each bench at most, is too long for the program's list
enough : (t : List ℕ) → T (sound t) → (ws : List ℕ) → length ws ≤ (decode t).benches → too_short counter_list ws ≡ true → ⊥
enough t s ws l h =
    omega (arith, ltb-true (length counter_list) (2 * length ws) h, list_holds_all, within_high 1 most_benches (decode t).benches (sound_storable t s).benches)

-- a call that tests the form first gives 8 only on a sound table, by what it tests of the board
eight_of : (c : Call) → T (on_sound c) → (t : List ℕ) → (outcome c t).answer ≡ refused list_too_short → T (sound t) × FirstIs list_too_short (conditions c (decode t))
eight_of c f t e = go (subst (FirstIs list_too_short) (formed_first c f t) (refused_by_lem c t list_too_short e).condition)
  where
    go : FirstIs list_too_short (form_conditions t ++ conditions c (decode t)) → T (sound t) × FirstIs list_too_short (conditions c (decode t))
    go (inl (h, d)) = absurd (not_eight _ (λ q. omega arith) d)
    go (inr (f, inl (h, d))) = absurd (not_eight _ (λ q. omega arith) d)
    go (inr (f, inr (s, r))) = (not_false (sound t) s, r)

module _ (t : List ℕ) (s : T (sound t)) where
  arrival_never : (a : Arriving) → a.list ≡ counter_list → FirstIs list_too_short (arrival_conditions a (decode t)) → ⊥
  unfolding arrival_conditions
  arrival_never a l (inl (h, d)) = not_eight _ (λ q. omega arith) d
  arrival_never a l (inr (n, inl (h, d))) = not_eight _ (λ q. omega arith) d
  arrival_never a l (inr (n, inr (f, inl (h, d)))) = not_eight _ (λ q. omega arith) d
  arrival_never a l (inr (n, inr (f, inr (u, inl (h, d))))) =
      let b = decode t in
      let m = not_false (namable b a.given) f in
      let number = not_false (within 1 (length b.named) a.job) n in
      let d = (arrival_does b (sound_storable t s).valid a.job a.given number (false→not (stands b a.job) u) (namable_some b a.given m) (namable_fit b a.given m)).0 in
      enough t s (arrive b a.job a.given).moved (omega (arith, d.few)) (rw l at h)
  arrival_never a l (inr (n, inr (f, inr (u, inr (r, k))))) = k

  closing_never : (c : Closing) → c.list ≡ counter_list → FirstIs list_too_short (closing_conditions c (decode t)) → ⊥
  unfolding closing_conditions
  closing_never c l (inl (h, d)) = not_eight _ (λ q. omega arith) d
  closing_never c l (inr (n, inl (h, d))) = not_eight _ (λ q. omega arith) d
  closing_never c l (inr (n, inr (u, inl (h, d)))) =
      let b = decode t in
      let d = (closing_does b (sound_storable t s).valid c.job (not_false (stands b c.job) u)).0 in
      enough t s (close b c.job).moved (omega (arith, d.few)) (rw l at h)
  closing_never c l (inr (n, inr (u, inr (r, k)))) = k

  tight_never : (h : ℕ) → FirstIs list_too_short (question_conditions (tight_set_of h) counter_list (decode t)) → ⊥
  unfolding question_conditions
  tight_never h (inl (z, d)) = not_eight _ (λ q. omega arith) d
  tight_never h (inr (n, inl (z, d))) = enough t s (tight_set (decode t) h) (tight_most (decode t) h) z
  tight_never h (inr (n, inr (r, k))) = k

-- blanking gives 1, or none
blank_never : (benches jobs : ℕ) (t : List ℕ) → (blanking benches jobs t).answer ≡ refused list_too_short → ⊥
unfolding blanking
blank_never benches jobs t e = go (sizes_fit (length t) benches jobs) e
  where
    go : (z : Bool) → (refused_or (first_holding (refuse sizes (not z) ∷ [])) t [] (answering (blank_table benches jobs) (telling blanked []))).answer ≡ refused list_too_short → ⊥
    go true d = let n = ap (λ a. get_or (in_numbers a) 0 0) d in omega arith
    go false d = let n = ap (λ a. get_or (in_numbers a) 0 0) d in omega arith

-- so no command is refused with 8
pub never_eight : (c : Command) (t : List ℕ) → (done c t).answer ≡ refused list_too_short → ⊥
unfolding done question_conditions
never_eight (set_table benches jobs) t e = blank_never benches jobs (room benches jobs) e
never_eight (take_in j x y) t e =
    let a : Arriving = record { job = j; given = x ∷ y ∷ []; list = counter_list } in
    let r = eight_of (arrival a) tt t e in
    arrival_never t r.0 a refl r.1
never_eight (close_job j) t e =
    let k : Closing = record { job = j; list = counter_list } in
    let r = eight_of (closing k) tt t e in
    closing_never t r.0 k refl r.1
never_eight (ask_tight_set h) t e = let r = eight_of (ask (tight_set_of h) counter_list) tt t e in tight_never t r.0 h r.1
never_eight ask_heaviest t e = (eight_of (ask heaviest_load []) tt t e).1
