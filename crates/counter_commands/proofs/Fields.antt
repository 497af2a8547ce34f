-- A line read field by field, and a field byte by byte, is the command of its pieces.
use Prim.Native.Nat.{ℕ, ◌+◌, ◌-◌, ◌*◌, ◌≤◌, ◌<◌}
use Prim.Native.Char.{code}
use native.Mathlib.Omega.{arith}
use mathlib.Core.Path.{◌≡◌, refl, sym, ap, ◌∙◌}
use mathlib.Core.Logic.{◌≢◌}
use mathlib.Core.Bool.{Bool, true, false, cond, not, ◌&&◌, ◌||◌, and-false, or-true}
use mathlib.Core.List.{List, [], ◌∷◌}
use mathlib.Core.Option.{Option, none, some}
use lib.Dec.{eqb, leb}
use lib.ListN.{length, take, drop, get_or, length-drop}
use lib.Seq.{take_all}
use borrow.Author.Tests.{le-leb, lt-leb, ne_eqb, leb-false}
use Rattle.spec_lists.specs.Lists.{all, empty}
use Rattle.spec_text.specs.Numbers.{space, digit, value, number}
use Rattle.spec_counter.specs.Counter.{onto, pieces, numbers, joined, command_for, fields_command, command}
use Rattle.spec_lists.proofs.Tests.{Compared, same, other, compared, true→T, within_low, within_high, right, T-leb}
use Rattle.std.specs.Prelude as std
use Rattle.std.specs.Prelude.{Some, None}
use Rattle.counter_commands.specs.Read.{reading_of, reading_numbers, numbers_due, ReadingOf, digit_value, behind, few, taken, given}
use Rattle.counter_commands.specs.declared.Command.{Command}
use Rattle.counter_commands.specs.declared.Numbers.{Numbers}
use Rattle.counter_commands.specs.declared.Numbers.TheVariants as read

-- a list that is cut has a first piece
data Cut : List (List ℕ) → Type 0 where
  cut : (f : List ℕ) (fs : List (List ℕ)) → Cut (f ∷ fs)

cut_line : (l : List ℕ) → Cut (pieces space l)
cut_line [] = cut [] []
cut_line (c ∷ l) = go (eqb c space) (cut_line l)
  where
    go : (z : Bool) {r : List (List ℕ)} → Cut r → Cut (cond z ([] ∷ r) (onto c r))
    go true (cut f fs) = cut [] (f ∷ fs)
    go false (cut f fs) = cut (c ∷ f) fs

-- digits

-- the value of a byte that is a digit
abbrev pub figure : ℕ → ℕ
figure c = c - code "0"

figure_small : (c : ℕ) → digit c ≡ true → figure c ≤ 9
figure_small c e =
    let high = within_high (code "0") (code "9") c (true→T (digit c) e) in
    omega arith

-- a byte whose value was read is a digit, ..
pub is_figure : (c d : ℕ) → Some d ≡ digit_value c → (digit c ≡ true) × (d ≡ figure c)
is_figure c d e = go (digit c) e
  where
    go : (z : Bool) → Some d ≡ cond z (Some (figure c)) None → (z ≡ true) × (d ≡ figure c)
    go true e = (refl, cc)
    go false e = cc

-- .. and another is none
pub no_figure : (c : ℕ) → None ≡ digit_value c → digit c ≡ false
no_figure c e = go (digit c) e
  where
    go : (z : Bool) → None ≡ cond z (Some (figure c)) None → z ≡ false
    go true e = cc
    go false e = refl

value_grows : (n : ℕ) (l : List ℕ) → n ≤ value n l
value_grows n [] = omega arith
value_grows n (c ∷ l) = omega (arith, value_grows (10 * n + figure c) l)

-- a number whose value is n before the bytes f
abbrev continued : ℕ → List ℕ → Option ℕ
continued n f = cond (all digit f && (empty f || not (eqb n 0)) && leb (value n f) 65535) (some (value n f)) none

-- a digit that a number may have behind its value n
abbrev pub fitting : ℕ → ℕ → Bool
fitting n d = not (eqb n 0) && leb (10 * n + d) 65535

-- a field whose value is n up to here, and the fields after it
abbrev pub goes_on : ℕ → List ℕ → Option (List ℕ)
goes_on n [] = some (n ∷ [])
goes_on n (c ∷ l) =
    let r = goes_on (10 * n + figure c) l in
    cond (eqb c space) (joined (some n) (numbers (pieces space l))) (cond (digit c && fitting n (figure c)) r none)

-- a digit more
one_more : (n c : ℕ) (f : List ℕ) → continued n (c ∷ f) ≡ cond (digit c && fitting n (figure c)) (continued (10 * n + figure c) f) none
one_more n c f = go (digit c)
  where
    v : ℕ
    v = 10 * n + figure c

    long : {y : Bool} → Compared n 0 y → (z : Bool) → leb v 65535 ≡ z → cond (all digit f && not y && leb (value v f) 65535) (some (value v f)) none ≡ cond (not y && z) (continued v f) none
    long (same e) z p = rw and-false
    long (other d) true p = rw (ne_eqb v 0 (λ e. d (omega arith)), or-true)
    long (other d) false p = let big = leb-false v 65535 p in rw (lt-leb (value v f) 65535 (omega (arith, value_grows v f)), and-false)

    go : (z : Bool) → cond ((z && all digit f) && not (eqb n 0) && leb (value v f) 65535) (some (value v f)) none ≡ cond (z && fitting n (figure c)) (continued v f) none
    go true = long (compared n 0) (leb v 65535) refl
    go false = refl

-- the numbers of pieces whose first is read by g
abbrev first_by : (List ℕ → Option ℕ) → List (List ℕ) → Option (List ℕ)
first_by g [] = none
first_by g (f ∷ fs) = joined (g f) (numbers fs)

fitting_small : (n c : ℕ) → (digit c && fitting n (figure c)) ≡ true → 10 * n + figure c ≤ 65535
fitting_small n c e =
    let m = 10 * n + figure c in
    T-leb m 65535 (right (not (eqb n 0)) (leb m 65535) (right (digit c) (fitting n (figure c)) (true→T (digit c && fitting n (figure c)) e)))

-- a field that goes on is the first piece
goes_on_lem : (n : ℕ) (l : List ℕ) → n ≤ 65535 → goes_on n l ≡ first_by (continued n) (pieces space l)
goes_on_lem n [] h = rw (le-leb n 65535 h)
goes_on_lem n (c ∷ l) h = go (compared c space) (λ k. goes_on_lem m l k)
  where
    m : ℕ
    m = 10 * n + figure c

    more : {r : List (List ℕ)} (z : Bool) → (digit c && fitting n (figure c)) ≡ z → Cut r → (m ≤ 65535 → goes_on m l ≡ first_by (continued m) r) → cond z (goes_on m l) none ≡ first_by (continued n) (onto c r)
    more true e (cut f fs) ih = rw (one_more n c f, e) (ih (fitting_small n c e))
    more false e (cut f fs) ih = rw (one_more n c f, e)

    go : {z : Bool} → Compared c space z → (m ≤ 65535 → goes_on m l ≡ first_by (continued m) (pieces space l)) → cond z (joined (some n) (numbers (pieces space l))) (cond (digit c && fitting n (figure c)) (goes_on m l) none) ≡ first_by (continued n) (cond z ([] ∷ pieces space l) (onto c (pieces space l)))
    go (same e) ih = rw (le-leb n 65535 h)
    go (other d) ih = more (digit c && fitting n (figure c)) refl (cut_line l) ih

-- a number begins with a digit, and goes on from its value
number_starts : (c : ℕ) (f : List ℕ) → number (c ∷ f) ≡ cond (digit c) (continued (figure c) f) none
unfolding number
number_starts c f = go (digit c) refl
  where
    v : ℕ
    v = value 0 (c ∷ [])

    zero_digit : {y : Bool} → Compared c (code "0") y → code "0" ≤ c → y ≡ eqb (figure c) 0
    zero_digit (same e) low = rw e
    zero_digit (other d) low = sym (ne_eqb (figure c) 0 (λ e. d (omega arith)))

    go : (z : Bool) → digit c ≡ z → cond ((z && all digit f) && (empty f || not (eqb c (code "0"))) && leb (value v f) 65535) (some (value v f)) none ≡ cond z (continued (figure c) f) none
    go true p =
        let e : v ≡ figure c = omega arith in
        let low = within_low (code "0") (code "9") c (true→T (digit c) p) in
        rw (e, zero_digit (compared c (code "0")) low)
    go false p = refl

-- a field begins with a digit, and goes on from its value
field_starts : (c : ℕ) (l : List ℕ) → numbers (pieces space (c ∷ l)) ≡ cond (digit c) (goes_on (figure c) l) none
unfolding number
field_starts c l = go (compared c space)
  where
    first : {r : List (List ℕ)} (z : Bool) → digit c ≡ z → Cut r → (figure c ≤ 65535 → goes_on (figure c) l ≡ first_by (continued (figure c)) r) → numbers (onto c r) ≡ cond z (goes_on (figure c) l) none
    first true e (cut f fs) h = let small = figure_small c e in rw (number_starts c f, e) (sym (h (omega arith)))
    first false e (cut f fs) h = rw (number_starts c f, e)

    go : {z : Bool} → Compared c space z → numbers (cond z ([] ∷ pieces space l) (onto c (pieces space l))) ≡ cond (digit c) (goes_on (figure c) l) none
    go (same e) = rw e
    go (other n) = first (digit c) refl (cut_line l) (λ h. goes_on_lem (figure c) l h)

-- fields whose first is no number: a single byte, ..
pub no_byte : (l : List ℕ) → 0 < length l → length l < 2 → behind l ≡ none
unfolding number
no_byte [] h k = absurd (omega arith)
no_byte (c ∷ []) h k = go (eqb c space)
  where
    go : (z : Bool) → cond z (numbers ([] ∷ [])) none ≡ none
    go true = refl
    go false = refl
no_byte (c ∷ b ∷ l) h k = absurd (omega arith)

-- .. another byte than a space before it, ..
pub no_space : (l : List ℕ) → 0 < length l → get_or l 0 0 ≢ space → behind l ≡ none
no_space [] h d = absurd (omega arith)
no_space (c ∷ l) h d = rw (ne_eqb c space d)

-- .. and a space and a byte that is no digit; a digit begins a number
module _ (l : List ℕ) (h : 2 ≤ length l) (e : get_or l 0 0 ≡ space) where
  begins_by : behind l ≡ cond (digit (get_or l 1 0)) (goes_on (figure (get_or l 1 0)) (drop 2 l)) none
  begins_by = go l h e
    where
      go : (l : List ℕ) → 2 ≤ length l → get_or l 0 0 ≡ space → behind l ≡ cond (digit (get_or l 1 0)) (goes_on (figure (get_or l 1 0)) (drop 2 l)) none
      go [] h e = absurd (omega arith)
      go (c ∷ []) h e = absurd (omega arith)
      go (c ∷ b ∷ l) h e = rw e (field_starts b l)

  pub no_digit : None ≡ digit_value (get_or l 1 0) → behind l ≡ none
  no_digit f = begins_by ∙ rw (no_figure (get_or l 1 0) f)

  pub begins : (d : ℕ) → Some d ≡ digit_value (get_or l 1 0) → (d ≤ 65535) × (behind l ≡ goes_on d (take (length l - 2) (drop 2 l)))
  begins d f =
      let g = is_figure (get_or l 1 0) d f in
      let rest : take (length l - 2) (drop 2 l) ≡ drop 2 l = take_all (length l - 2) (drop 2 l) (omega (arith, length-drop 2 l)) in
      (omega (arith, g.1, figure_small (get_or l 1 0) g.0), rw (rest, g.1) (begins_by ∙ rw g.0))

-- commands

mismatch : (letter b : ℕ) (ns : List ℕ) (n : ℕ) → (letter ≡ b → length ns ≢ n) → (eqb letter b && eqb (length ns) n) ≡ false
mismatch letter b ns n h = go (compared letter b) (compared (length ns) n)
  where
    go : {y z : Bool} → Compared letter b y → Compared (length ns) n z → (y && z) ≡ false
    go (same e) (same f) = absurd (h e f)
    go (same e) (other f) = refl
    go (other e) (same f) = refl
    go (other e) (other f) = refl

-- a letter with a wrong number of numbers
no_command : (letter : ℕ) (ns : List ℕ) → (letter ≡ code "B" → length ns ≢ 2) → (letter ≡ code "A" → length ns ≢ 3) → (letter ≡ code "D" → length ns ≢ 1) → (letter ≡ code "S" → length ns ≢ 1) → (letter ≡ code "H" → length ns ≢ 0) → command_for letter ns ≡ none
unfolding command_for
no_command letter ns b a d s h =
    rw (
      mismatch letter (code "B") ns 2 b,
      mismatch letter (code "A") ns 3 a,
      mismatch letter (code "D") ns 1 d,
      mismatch letter (code "S") ns 1 s,
      mismatch letter (code "H") ns 0 h,
    )

-- letters with other numbers than they take ..
pub no_B : (n : Numbers) → ((x y : ℕ) → n ≢ read.Two x y) → none ≡ given (code "B") (taken (Some n))
unfolding command_for
no_B read.None h = refl
no_B (read.One x) h = refl
no_B (read.Two x y) h = absurd (h x y refl)
no_B (read.Three x y z) h = refl

pub no_A : (n : Numbers) → ((x y z : ℕ) → n ≢ read.Three x y z) → none ≡ given (code "A") (taken (Some n))
unfolding command_for
no_A read.None h = refl
no_A (read.One x) h = refl
no_A (read.Two x y) h = refl
no_A (read.Three x y z) h = absurd (h x y z refl)

pub no_D : (n : Numbers) → ((x : ℕ) → n ≢ read.One x) → none ≡ given (code "D") (taken (Some n))
unfolding command_for
no_D read.None h = refl
no_D (read.One x) h = absurd (h x refl)
no_D (read.Two x y) h = refl
no_D (read.Three x y z) h = refl

pub no_S : (n : Numbers) → ((x : ℕ) → n ≢ read.One x) → none ≡ given (code "S") (taken (Some n))
unfolding command_for
no_S read.None h = refl
no_S (read.One x) h = absurd (h x refl)
no_S (read.Two x y) h = refl
no_S (read.Three x y z) h = refl

pub no_H : (n : Numbers) → n ≢ read.None → none ≡ given (code "H") (taken (Some n))
unfolding command_for
no_H read.None h = absurd (h refl)
no_H (read.One x) h = refl
no_H (read.Two x y) h = refl
no_H (read.Three x y z) h = refl

-- .. and another letter
pub no_letter : (letter : ℕ) (r : Option (List ℕ)) → letter ≢ code "B" → letter ≢ code "A" → letter ≢ code "D" → letter ≢ code "S" → letter ≢ code "H" → none ≡ given letter r
no_letter letter none b a d s h = refl
no_letter letter (some ns) b a d s h = sym (no_command letter ns (λ p q. b p) (λ p q. a p) (λ p q. d p) (λ p q. s p) (λ p q. h p))

-- no command takes more than three numbers
given_few : (letter : ℕ) (r : Option (List ℕ)) → given letter (few r) ≡ given letter r
given_few letter none = refl
given_few letter (some ns) = go (leb (length ns) 3) refl
  where
    go : (z : Bool) → leb (length ns) 3 ≡ z → given letter (cond z (some ns) none) ≡ command_for letter ns
    go true e = refl
    go false e =
        let long = leb-false (length ns) 3 e in
        sym (no_command letter ns (λ p q. omega arith) (λ p q. omega arith) (λ p q. omega arith) (λ p q. omega arith) (λ p q. omega arith))

-- a space is no letter
given_space : (r : Option (List ℕ)) → given space r ≡ none
given_space none = refl
given_space (some ns) = no_command space ns (λ p q. omega arith) (λ p q. omega arith) (λ p q. omega arith) (λ p q. omega arith) (λ p q. omega arith)

-- the first byte and the fields behind it
line_fields : (letter : ℕ) (l : List ℕ) → fields_command (pieces space (letter ∷ l)) ≡ given letter (behind l)
line_fields letter l = go (compared letter space)
  where
    more : {r : List (List ℕ)} (c : ℕ) → Cut r → fields_command (onto letter (onto c r)) ≡ none
    more c (cut f fs) = refl

    fields : (r : Option (List ℕ)) → elim r [ none ↦ none | some ns ↦ command_for letter ns ] ≡ given letter r
    fields none = refl
    fields (some ns) = refl

    rest : (l : List ℕ) → fields_command (onto letter (pieces space l)) ≡ given letter (behind l)
    rest [] = refl
    rest (c ∷ l) = at (eqb c space)
      where
        at : (z : Bool) → fields_command (onto letter (cond z ([] ∷ pieces space l) (onto c (pieces space l)))) ≡ given letter (cond z (numbers (pieces space l)) none)
        at true = fields (numbers (pieces space l))
        at false = more c (cut_line l)

    go : {z : Bool} → Compared letter space z → fields_command (cond z ([] ∷ pieces space l) (onto letter (pieces space l))) ≡ given letter (behind l)
    go (same e) = rw e (sym (given_space (behind l)))
    go (other d) = rest l

-- a line of at most 40 bytes by its first byte and the fields behind it
pub line_command : (line : List ℕ) (letter : ℕ) (l : List ℕ) → line ≡ letter ∷ l → length line ≤ 40 → given letter (few (behind l)) ≡ command line
unfolding command
line_command line letter l e k = rw (le-leb (length line) 40 k, e) (given_few letter (behind l) ∙ sym (line_fields letter l))

-- a line without a byte has no letter
pub empty_line : (line : List ℕ) → length line ≡ 0 → command line ≡ none
unfolding command
empty_line [] e = refl
empty_line (c ∷ l) e = absurd (omega arith)

-- a line's command is in document 01's numbers those that are due
pub reading_of_lem : {line : List ℕ} {r : std.Option Command} → reading_of r ≡ command line → ReadingOf line r
reading_of_lem {line} {r} e = record { command = e; numbers = go r ∙ ap numbers_due e }
  where
    go : (r : std.Option Command) → reading_numbers r ≡ numbers_due (reading_of r)
    go (Some c) = refl
    go None = refl
