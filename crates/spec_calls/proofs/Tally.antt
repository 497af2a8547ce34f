-- The tally: what noting an answer adds, when it is 9, and that 9 leaves all three counts.
use Prim.Native.Nat.{ℕ, ◌+◌, ◌^◌, ◌<◌}
use native.Mathlib.Omega.{arith}
use mathlib.Core.Path.{◌≡◌, refl, sym, subst}
use mathlib.Core.Logic.{◌↔◌}
use mathlib.Core.Bool.{Bool, true, false, cond, ◌&&◌, false≢true}
use mathlib.Core.Option.{none, some, some-injective, none-ne-some, some-ne-none}
use lib.Dec.{T, leb}
use Rattle.spec_calls.specs.Answers.{Refusal, Answer, count_full, refused, arrived, closed, said}
use Rattle.spec_calls.specs.Tally.{Tally, Noted, most_count, counts_fit, raised, unchanged, noted}
use Rattle.spec_lists.proofs.Tests.{true→T, both, left, right, T-leb, leb_T}

-- "Three 32-bit counts"
pub record Fits32 (t : Tally) : Type 0 where
  pub arrivals : t.arrivals < 2 ^ 32
  pub closings : t.closings < 2 ^ 32
  pub moved : t.moved < 2 ^ 32

-- the test says so
pub counts_fit_lem : (t : Tally) → T (counts_fit t) ↔ Fits32 t
counts_fit_lem t = (there, back)
  where
    a : Bool
    a = leb t.arrivals most_count

    b : Bool
    b = leb t.closings most_count

    c : Bool
    c = leb t.moved most_count

    there : T (counts_fit t) → Fits32 t
    there f =
        record {
          arrivals = omega (arith, T-leb t.arrivals most_count (left a b (left (a && b) c f)));
          closings = omega (arith, T-leb t.closings most_count (right a b (left (a && b) c f)));
          moved = omega (arith, T-leb t.moved most_count (right (a && b) c f));
        }

    back : Fits32 t → T (counts_fit t)
    back f =
        both (a && b) c (both a b (leb_T t.arrivals most_count (omega (arith, f.arrivals))) (leb_T t.closings most_count (omega (arith, f.closings)))) (leb_T t.moved most_count (omega (arith, f.moved)))

-- the two ways of raising a tally
pub data Raised (old new : Tally) : Noted → Type 0 where
  up : Fits32 new → Raised old new (record { tally = new; refusal = none })
  full : (Fits32 new → ⊥) → Raised old new (record { tally = old; refusal = some count_full })

pub raised_is : (old new : Tally) → Raised old new (raised old new)
raised_is old new = go (counts_fit new) refl
  where
    go : (z : Bool) → counts_fit new ≡ z → Raised old new (cond z (record { tally = new; refusal = none }) (record { tally = old; refusal = some count_full }))
    go true e = up ((counts_fit_lem new).0 (true→T (counts_fit new) e))
    go false e = full (λ f. subst T e ((counts_fit_lem new).1 f))

-- no 9 exactly if every count fits ..
pub nine_exact : (old new : Tally) → ((raised old new).refusal ≡ none) ↔ Fits32 new
nine_exact old new = go (raised_is old new)
  where
    go : {n : Noted} → Raised old new n → (n.refusal ≡ none) ↔ Fits32 new
    go (up f) = (λ e. f, λ f. refl)
    go (full d) = (λ e. absurd (some-ne-none count_full e), λ f. absurd (d f))

-- .. and without a 9 the tally is the raised one
pub raised_new : (old new : Tally) → (raised old new).refusal ≡ none → (raised old new).tally ≡ new
raised_new old new = go (raised_is old new)
  where
    go : {n : Noted} → Raised old new n → n.refusal ≡ none → n.tally ≡ new
    go (up f) e = refl
    go (full d) e = absurd (some-ne-none count_full e)

-- "An arrival's [..] answer adds one to its own count and its moved jobs to the third" ..
pub arrival_noted : (t : Tally) (holder rose moved : ℕ) → noted t (arrived holder rose moved) ≡ raised t (record { arrivals = t.arrivals + 1; closings = t.closings; moved = t.moved + moved })
unfolding noted
arrival_noted t holder rose moved = refl

-- .. so does a closing's ..
pub closing_noted : (t : Tally) (fell moved : ℕ) → noted t (closed fell moved) ≡ raised t (record { arrivals = t.arrivals; closings = t.closings + 1; moved = t.moved + moved })
unfolding noted
closing_noted t fell moved = refl

-- an answer of an accepted arrival or closing
abbrev pub is_change : Answer → Bool
is_change (arrived holder rose moved) = true
is_change (closed fell moved) = true
is_change (refused r) = false
is_change (said f) = false

-- the three ways of noting an answer
pub data Noting (t : Tally) : Answer → Noted → Type 0 where
  of_arrival : (holder rose moved : ℕ) → Noting t (arrived holder rose moved) (raised t (record { arrivals = t.arrivals + 1; closings = t.closings; moved = t.moved + moved }))
  of_closing : (fell moved : ℕ) → Noting t (closed fell moved) (raised t (record { arrivals = t.arrivals; closings = t.closings + 1; moved = t.moved + moved }))
  of_other : (a : Answer) → is_change a ≡ false → Noting t a (unchanged t)

pub noted_is : (t : Tally) (a : Answer) → Noting t a (noted t a)
unfolding noted
noted_is t (arrived holder rose moved) = of_arrival holder rose moved
noted_is t (closed fell moved) = of_closing fell moved
noted_is t (refused r) = of_other (refused r) refl
noted_is t (said f) = of_other (said f) refl

-- .. and "noting a refusal or another call's answer changes none"
pub other_noted : (t : Tally) (a : Answer) → is_change a ≡ false → noted t a ≡ unchanged t
other_noted t a q = go (noted_is t a) q
  where
    go : {a : Answer} {n : Noted} → Noting t a n → is_change a ≡ false → n ≡ unchanged t
    go (of_arrival holder rose moved) e = absurd (false≢true (sym e))
    go (of_closing fell moved) e = absurd (false≢true (sym e))
    go (of_other a e) f = refl

-- noting any answer, where a property holds of the raised tally and of the unchanged one
noted_by : (P : Tally → Noted → Type 0) → ((old new : Tally) (n : Noted) → Raised old new n → P old n) → ((t : Tally) → P t (unchanged t)) → (t : Tally) (a : Answer) → P t (noted t a)
noted_by P r u t a = go (noted_is t a)
  where
    go : {a : Answer} {n : Noted} → Noting t a n → P t n
    go (of_arrival holder rose moved) = let new : Tally = record { arrivals = t.arrivals + 1; closings = t.closings; moved = t.moved + moved } in r t new (raised t new) (raised_is t new)
    go (of_closing fell moved) = let new : Tally = record { arrivals = t.arrivals; closings = t.closings + 1; moved = t.moved + moved } in r t new (raised t new) (raised_is t new)
    go (of_other a e) = u t

-- "9: a tally count would pass 4,294,967,295", and then "the tally" is left
pub nine_leaves : (t : Tally) (a : Answer) (r : Refusal) → (noted t a).refusal ≡ some r → (r ≡ count_full) × ((noted t a).tally ≡ t)
nine_leaves = noted_by (λ t n. (r : Refusal) → n.refusal ≡ some r → (r ≡ count_full) × (n.tally ≡ t)) left_by_lem (λ t r e. absurd (none-ne-some r e))
  where
    left_by_lem : (old new : Tally) (n : Noted) → Raised old new n → (r : Refusal) → n.refusal ≡ some r → (r ≡ count_full) × (n.tally ≡ old)
    left_by_lem old new n (up f) r e = absurd (none-ne-some r e)
    left_by_lem old new n (full d) r e = (sym (some-injective count_full r e), refl)

-- counts of 32 bits stay so
pub counts_stay : (t : Tally) (a : Answer) → Fits32 t → Fits32 (noted t a).tally
counts_stay = noted_by (λ t n. Fits32 t → Fits32 n.tally) stay_by (λ t f. f)
  where
    stay_by : (old new : Tally) (n : Noted) → Raised old new n → Fits32 old → Fits32 n.tally
    stay_by old new n (up f) g = f
    stay_by old new n (full d) g = g
