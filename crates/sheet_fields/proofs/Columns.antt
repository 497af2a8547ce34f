-- A number's columns, one by one.
use Prim.Native.Nat.{ℕ, zero, suc, ◌+◌, ◌-◌, ◌/◌, ◌%◌, ◌^◌, ◌≤◌, ◌<◌}
use Prim.Native.Char.{code}
use native.Mathlib.Omega.{arith}
use native.Mathlib.Decide.{dec_lt}
use native.Mathlib.Nat.{pow-succ'}
use native.Mathlib.Numerals.{add-one}
use mathlib.Core.Path.{◌≡◌, refl, sym, ap, ◌∙◌}
use mathlib.Core.List.{List, [], ◌∷◌, ◌++◌, append_assoc}
use lib.ListN.{length, replicate, length-append, replicate-append-replicate}
use borrow.Author.Tests.{eq-eqb, ne_eqb}
use Rattle.spec_text.specs.Numbers.{space, digits}
use Rattle.spec_sheet.specs.Sheet.{field}
use Rattle.spec_text.proofs.Numbers.{digits_one, digits_last, digits_short}
use Rattle.sheet_fields.specs.Page.{digit_of}

-- 0 has a blank for its digit ..
pub digit_blank : (n : ℕ) → n ≡ 0 → digit_of n ≡ space
digit_blank n e = rw (eq-eqb n 0 e)

-- .. any other number its last digit
pub digit_last : (n : ℕ) → (n ≡ 0 → ⊥) → digit_of n ≡ code "0" + n % 10
digit_last n d = rw (ne_eqb n 0 d)

-- a column more than a number's digits is a blank in front
field_blank : (w n : ℕ) → n < 10 ^ suc w → field (suc (suc w)) n ≡ space ∷ field (suc w) n
field_blank w n h =
    let e : suc (suc w) - length (digits n n) ≡ suc (suc w - length (digits n n)) = omega (arith, digits_short w n n h) in
    ap (λ (k : ℕ). replicate k space ++ digits n n) e

-- one digit stands in the last column ..
field_one : (w n : ℕ) → n < 10 → field (suc w) n ≡ replicate w space ++ ((code "0" + n % 10) ∷ [])
field_one w n h =
    let e : n % 10 ≡ n = omega arith in
    let before : suc w - 1 ≡ w = omega arith in
    ap (λ (l : List ℕ). replicate (suc w - length l) space ++ l) (digits_one n n h)
    ∙ ap (λ (k : ℕ). replicate k space ++ ((code "0" + n) ∷ [])) before
    ∙ ap (λ (k : ℕ). replicate w space ++ ((code "0" + k) ∷ [])) (sym e)

-- .. and of more digits the last one, the others in the columns before it
field_last : (w n : ℕ) → 10 ≤ n → field (suc w) n ≡ field w (n / 10) ++ ((code "0" + n % 10) ∷ [])
field_last w n h =
    let last : List ℕ = (code "0" + n % 10) ∷ [] in
    let front : List ℕ = digits (n / 10) (n / 10) in
    let e : suc w - length (front ++ last) ≡ w - length front = omega (arith, length-append front last) in
    ap (λ (l : List ℕ). replicate (suc w - length l) space ++ l) (digits_last n h)
    ∙ ap (λ (k : ℕ). replicate k space ++ (front ++ last)) e
    ∙ sym (append_assoc (replicate (w - length front) space) front last)

-- w columns of a number, blank where it has no digit
abbrev columns : ℕ → ℕ → List ℕ
columns zero n = []
columns (suc w) n = columns w (n / 10) ++ (digit_of n ∷ [])

-- of 0 all are blank ..
columns_blank : (w n : ℕ) → n ≡ 0 → columns w n ≡ replicate w space
columns_blank zero n e = refl
columns_blank (suc w) n e =
    ap (λ (l : List ℕ). l ++ (digit_of n ∷ [])) (columns_blank w (n / 10) (omega arith))
    ∙ ap (λ (c : ℕ). replicate w space ++ (c ∷ [])) (digit_blank n e) ∙ (rw (add-one w) at (replicate-append-replicate w 1 space))

-- a field is the columns of the number without its last digit, and that digit, if those columns are a field where there are more
field_split : (w n : ℕ) → (10 ≤ n → columns w (n / 10) ≡ field w (n / 10)) → field (suc w) n ≡ columns w (n / 10) ++ ((code "0" + n % 10) ∷ [])
field_split w n f =
    let last : List ℕ = (code "0" + n % 10) ∷ [] in
    elim (dec_lt n 10) [
      | yes d ↦ field_one w n d ∙ sym (ap (λ (k : List ℕ). k ++ last) (columns_blank w (n / 10) (omega arith)))
      | no d ↦ let h : 10 ≤ n = omega arith in field_last w n h ∙ sym (ap (λ (k : List ℕ). k ++ last) (f h))
    ]

-- .. of any other number that fits they are its field ..
columns_field : (w n : ℕ) → 1 ≤ n → n < 10 ^ w → columns w n ≡ field w n
columns_field zero n l h = absurd (omega arith)
columns_field (suc w) n l h =
    ap (λ (c : ℕ). columns w (n / 10) ++ (c ∷ [])) (digit_last n (λ e. omega arith))
    ∙ sym (field_split w n (λ d. columns_field w (n / 10) (omega arith) (omega (arith, pow-succ' 10 w))))

-- .. so that every field that its number fits is split so
field_columns : (w n : ℕ) → n < 10 ^ suc w → field (suc w) n ≡ columns w (n / 10) ++ ((code "0" + n % 10) ∷ [])
field_columns w n h = field_split w n (λ d. columns_field w (n / 10) (omega arith) (omega (arith, pow-succ' 10 w)))

-- a number below 1,000 in 3 columns ..
pub field_3 : (x : ℕ) → x < 1000 → field 3 x ≡ digit_of (x / 10 / 10) ∷ digit_of (x / 10) ∷ (code "0" + x % 10) ∷ []
field_3 x h = field_columns 2 x h

-- .. one below 10,000 in 5, the first of them a blank ..
pub field_5 : (n : ℕ) → n < 10000 → field 5 n ≡ space ∷ digit_of (n / 10 / 10 / 10) ∷ digit_of (n / 10 / 10) ∷ digit_of (n / 10) ∷ (code "0" + n % 10) ∷ []
field_5 n h = field_blank 3 n h ∙ ap (λ (l : List ℕ). space ∷ l) (field_columns 3 n h)

-- .. so that a blank and 4 columns are 5
pub blank_and_4 : (n : ℕ) → n < 10000 → space ∷ field 4 n ≡ field 5 n
blank_and_4 n h = sym (field_blank 3 n h)
