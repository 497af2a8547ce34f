-- Text written piece by piece, and the room that it takes.
use Prim.Native.Nat.{ℕ, ◌+◌, ◌*◌, ◌/◌, ◌%◌, ◌^◌, ◌≤◌, ◌<◌}
use Prim.Native.Char.{code}
use native.Mathlib.Omega.{arith}
use native.Mathlib.Numerals.{add-one}
use mathlib.Core.Path.{◌≡◌, refl, sym, ap, subst, ◌∙◌}
use mathlib.Core.List.{List, [], ◌∷◌, ◌++◌, flat_map, append-nil, append_assoc}
use lib.ListN.{length, take, get_or, length-append}
use lib.Seq.{take-suc}
use Rattle.spec_text.specs.Numbers.{line_feed, space, digits}
use Rattle.spec_counter.specs.Counter.{printed}
use Rattle.spec_text.proofs.Numbers.{digits_one, digits_last, digits_short}
use Rattle.spec_table.specs.Table.{words}
use Rattle.spec_table.proofs.Places.{length_words}
use Rattle.table_words.specs.Bytes.{IsWord}
use Rattle.counter_printing.specs.Wrote.{Wrote, field_most, spaced}
use Rattle.counter_printing.specs.declared.Output.{Output}

-- nothing
pub wrote_none : (a : Output) → Wrote a a []
wrote_none a = record { same = refl; long = refl; next_is = omega arith; written = sym (append-nil (take a.written a.bytes.now)) }

-- one text, and another behind it
pub wrote_then : {a b c : Output} {s t : List ℕ} → Wrote a b s → Wrote b c t → Wrote a c (s ++ t)
wrote_then {a} {b} {c} {s} {t} v w =
    record {
      same = w.same ∙ v.same;
      long = w.long ∙ v.long;
      next_is = omega (arith, length-append s t);
      written = w.written ∙ ap (λ (l : List ℕ). l ++ t) v.written ∙ append_assoc (take a.written a.bytes.now) s t;
    }

-- the same text, named otherwise
pub wrote_as : {a b : Output} {s t : List ℕ} → s ≡ t → Wrote a b s → Wrote a b t
wrote_as {a} {b} e w = subst (Wrote a b) e w

-- a number's digits are one more than those before the last
pub digits_room : (n : ℕ) → 10 ≤ n → length (digits n n) ≡ length (digits (n / 10) (n / 10)) + 1
digits_room n h = ap length (digits_last n h) ∙ length-append (digits (n / 10) (n / 10)) ((code "0" + n % 10) ∷ [])

-- a number of one digit
pub one_digit : (n : ℕ) → n < 10 → (code "0" + n % 10) ∷ [] ≡ digits n n
one_digit n h = let e : n % 10 ≡ n = omega arith in ap (λ (m : ℕ). (code "0" + m) ∷ []) e ∙ sym (digits_one n n h)

-- a number's last digit, behind the others
pub wrote_last : {a b c : Output} (n : ℕ) → 10 ≤ n → Wrote a b (digits (n / 10) (n / 10)) → Wrote b c ((code "0" + n % 10) ∷ []) → Wrote a c (digits n n)
wrote_last n h v w = wrote_as (sym (digits_last n h)) (wrote_then v w)

-- a space and the digits of a number of 64 bits
pub field_short : (n : ℕ) → n < 2 ^ 64 → length (space ∷ digits n n) ≤ field_most
field_short n h = omega (arith, digits_short 19 n n (omega arith))

-- a printed line is its letter, its numbers with a space before each, and the line feed
pub printed_is : (letter : ℕ) (ns : List ℕ) → printed letter ns ≡ letter ∷ spaced ns ++ (line_feed ∷ [])
unfolding printed
printed_is letter ns = refl

-- numbers, and more behind them
pub spaced_append : (a b : List ℕ) → spaced (a ++ b) ≡ spaced a ++ spaced b
unfolding flat_map
spaced_append [] b = refl
spaced_append (n ∷ a) b =
    ap (λ (l : List ℕ). (space ∷ digits n n) ++ l) (spaced_append a b) ∙ sym (append_assoc (space ∷ digits n n) (spaced a) (spaced b))

-- no number
pub wrote_start : (a : Output) → Wrote a a (spaced [])
unfolding flat_map
wrote_start a = wrote_none a

-- a number behind the others
pub wrote_more : {a b c : Output} (ns : List ℕ) (n : ℕ) → Wrote a b (spaced ns) → Wrote b c (space ∷ digits n n) → Wrote a c (spaced (ns ++ (n ∷ [])))
unfolding flat_map
wrote_more ns n v w =
    let e : spaced ns ++ (space ∷ digits n n) ≡ spaced (ns ++ (n ∷ [])) = sym (spaced_append ns (n ∷ []) ∙ ap (λ (l : List ℕ). spaced ns ++ l) (append-nil (space ∷ digits n n))) in
    wrote_as e (wrote_then v w)

-- the same numbers, named otherwise
pub wrote_same : {a b : Output} {ns ms : List ℕ} → ns ≡ ms → Wrote a b (spaced ns) → Wrote a b (spaced ms)
wrote_same e w = wrote_as (ap spaced e) w

-- one number more of a list
pub wrote_next : {a b c : Output} (ns : List ℕ) (i : ℕ) → i < length ns → Wrote a b (spaced (take i ns)) → Wrote b c (space ∷ digits (get_or ns i 0) (get_or ns i 0)) → Wrote a c (spaced (take (i + 1) ns))
wrote_next ns i h v w =
    let e : take i ns ++ (get_or ns i 0 ∷ []) ≡ take (i + 1) ns = rw add-one (sym (take-suc ns i 0 h)) in
    wrote_same e (wrote_more (take i ns) (get_or ns i 0) v w)

-- one word more of a list
pub wrote_word : {a b c : Output} {l : List ℕ} {i r : ℕ} → 2 * i + 1 < length l → IsWord l i r → Wrote a b (spaced (take i (words l))) → Wrote b c (space ∷ digits r r) → Wrote a c (spaced (take (i + 1) (words l)))
wrote_word {a} {b} {c} {l} {i} {r} h is v w =
    wrote_next (words l) i (omega (arith, length_words l)) v (subst (λ (n : ℕ). Wrote b c (space ∷ digits n n)) is.value w)
