-- Values that fit are in place of the lent numbers.
use Prim.Native.Nat.{ℕ, suc, ◌<◌, ◌≤◌}
use mathlib.Core.Path.{◌≡◌, refl, ap, ◌∙◌}
use mathlib.Core.List.{List, [], ◌∷◌, ◌++◌}
use lib.ListN.{length, drop}
use borrow.Author.Tests.{lt-ltb, le-ltb}
use Rattle.spec_lists.specs.Lists.{nth, Each}
use Rattle.spec_calls.specs.Answers.{Answer, in_numbers}
use Rattle.board_answers.specs.Answered.{returned}
use Rattle.jobboard_report.specs.Report.{in_place, written_over, written_in, Written, Fitting, Delivered}

-- a value that fits is in place
fits_written : (v n : ℕ) → v < 4294967296 → v ≡ written_over v n
fits_written v n h = rw (lt-ltb v 4294967296 h)

stays_written : (v n : ℕ) → 4294967296 ≤ v → n ≡ written_over v n
stays_written v n h = rw (le-ltb v 4294967296 h)

-- so of value k as it was got, with a number that does not fit for "none"
module _ {vs values : List ℕ} (told : vs ≡ values) (lent k : ℕ) {r : ℕ} (got : r ≡ nth vs k 4294967296) where
  value_k : r ≡ nth values k 4294967296
  value_k = got ∙ ap (λ l. nth l k 4294967296) told

  pub value_got : r < 4294967296 → r ≡ written_over (nth values k 4294967296) lent
  value_got h = fits_written r lent h ∙ ap (λ v. written_over v lent) value_k

  pub value_none : 4294967296 ≤ r → lent ≡ written_over (nth values k 4294967296) lent
  value_none h = stays_written r lent h ∙ ap (λ v. written_over v lent) value_k

-- one lent number more gets the next value
written_more : (values lent : List ℕ) (n : ℕ) → written_in values (lent ++ (n ∷ [])) ≡ written_in values lent ++ (written_over (nth values (suc (length lent)) 4294967296) n ∷ [])
written_more [] [] n = refl
written_more (v ∷ values) [] n = refl
written_more [] (m ∷ lent) n = refl
written_more (v ∷ values) (m ∷ lent) n = ap (λ l. written_over v m ∷ l) (written_more values lent n)

-- an answer's number tells all where no number is lent ..
pub written_none : {a : Answer} {r : ℕ} → r ≡ returned a → Written a r [] []
written_none e = record { number = e; values = refl }

-- .. and with one lent number more its next value is written
pub written_next : {a : Answer} {r : ℕ} {lent left : List ℕ} (n : ℕ) {m : ℕ} → Written a r lent left → m ≡ written_over (nth (drop 1 (in_numbers a)) (suc (length lent)) 4294967296) n → Written a r (lent ++ (n ∷ [])) (left ++ (m ∷ []))
written_next {a} {lent} {left} n d e =
    let here = d.values in
    let next = written_more (drop 1 (in_numbers a)) lent n in
    record { number = d.number; values = cc }

-- values that all fit are all in place
fit_in_place : (values lent : List ℕ) → Each (λ v. v < 4294967296) values → written_in values lent ≡ in_place values lent
fit_in_place [] [] f = refl
fit_in_place (v ∷ values) [] f = refl
fit_in_place [] (n ∷ lent) f = refl
fit_in_place (v ∷ values) (n ∷ lent) f =
    let first = fits_written v n f.0 in
    let rest = fit_in_place values lent f.1 in
    cc

-- so an answer whose values fit is delivered
pub delivered : {a : Answer} {r : ℕ} {lent left : List ℕ} → Fitting a → Written a r lent left → Delivered a r lent left
delivered {a} {lent} f w =
    record { number = w.number; values = w.values ∙ fit_in_place (drop 1 (in_numbers a)) lent f }
