-- Numbers and their digits.
use Prim.Native.Nat.{ℕ, zero, suc, ◌+◌, ◌-◌, ◌*◌, ◌/◌, ◌%◌, ◌^◌, ◌≤◌, ◌<◌}
use Prim.Native.Char.{code}
use native.Mathlib.Omega.{arith}
use native.Mathlib.Decide.{dec_lt}
use native.Mathlib.Nat.{pow-suc}
use mathlib.Core.Path.{◌≡◌, refl, sym, ap, subst, ◌∙◌}
use mathlib.Core.Logic.{◌≢◌, ◌↔◌}
use mathlib.Core.Bool.{Bool, true, false, cond, not, ◌&&◌, ◌||◌}
use mathlib.Core.List.{List, [], ◌∷◌, ◌++◌, append-nil, append_assoc}
use mathlib.Core.Option.{Option, none, some, some-injective, none-ne-some}
use lib.Dec.{T, eqb, leb}
use lib.ListN.{length, length-append}
use borrow.Author.Tests.{lt-ltb, le-ltb, le-leb}
use Rattle.spec_lists.specs.Lists.{all, empty}
use Rattle.spec_text.specs.Numbers.{digit, digits, value, number}
use Rattle.spec_lists.proofs.Tests.{true→T, T→true, both, left, right, or_right, T-leb, within_low, within_high, within_both, differ}

-- what has no value is none
pub is_none : {A : Type 0} (o : Option A) → ((a : A) → o ≡ some a → ⊥) → o ≡ none
is_none none f = refl
is_none (some a) f = absurd (f a refl)

-- numbers

-- the first byte is no 0
abbrev leads : List ℕ → Bool
leads [] = false
leads (c ∷ l) = not (eqb c (code "0"))

-- "without leading zeros": a 0 stands alone
abbrev plain : List ℕ → Bool
plain [] = false
plain (c ∷ l) = empty l || not (eqb c (code "0"))

-- a number below ten is one digit
pub digits_one : (k n : ℕ) → n < 10 → digits k n ≡ (code "0" + n) ∷ []
digits_one zero n h = refl
digits_one (suc k) n h = rw (digits, lt-ltb n 10 h)

digits_more : (k n : ℕ) → 10 ≤ n → digits (suc k) n ≡ digits k (n / 10) ++ ((code "0" + n % 10) ∷ [])
digits_more k n h = rw (digits, le-ltb n 10 h)

-- fuel that is enough does not show
digits_fuel : (k m n : ℕ) → n ≤ k → n ≤ m → digits k n ≡ digits m n
digits_fuel zero m n h g = sym (digits_one m n (omega arith))
digits_fuel (suc k) zero n h g = digits_one (suc k) n (omega arith)
digits_fuel (suc k) (suc m) n h g =
    elim (dec_lt n 10) [
      | yes d ↦ digits_one (suc k) n d ∙ sym (digits_one (suc m) n d)
      | no d ↦ let ih = digits_fuel k m (n / 10) (omega arith) (omega arith) in digits_more k n (omega arith) ∙ ap (λ (l : List ℕ). l ++ ((code "0" + n % 10) ∷ [])) ih ∙ sym (digits_more m n (omega arith))
    ]

-- a digit more is written behind
pub digits_next : (n d : ℕ) → 1 ≤ n → d < 10 → digits (10 * n + d) (10 * n + d) ≡ digits n n ++ ((code "0" + d) ∷ [])
digits_next n d h g =
    let m : ℕ = 10 * n + d in
    let k : ℕ = m - 1 in
    let e : suc k ≡ m = omega arith in
    let front : m / 10 ≡ n = omega arith in
    let back : m % 10 ≡ d = omega arith in
    ap (λ (j : ℕ). digits j m) (sym e) ∙ digits_more k m (omega arith)
    ∙ ap (λ (i : ℕ). digits k i ++ ((code "0" + m % 10) ∷ [])) front
    ∙ ap (λ (i : ℕ). digits k n ++ ((code "0" + i) ∷ [])) back
    ∙ ap (λ (l : List ℕ). l ++ ((code "0" + d) ∷ [])) (digits_fuel k n n (omega arith) (omega arith))

-- the last digit stands behind the others
pub digits_last : (n : ℕ) → 10 ≤ n → digits n n ≡ digits (n / 10) (n / 10) ++ ((code "0" + n % 10) ∷ [])
digits_last n h =
    let e : 10 * (n / 10) + n % 10 ≡ n = omega arith in
    ap (λ (m : ℕ). digits m m) (sym e) ∙ digits_next (n / 10) (n % 10) (omega arith) (omega arith)

-- what is read after a number is written behind it
digits_value : (n : ℕ) (l : List ℕ) → 1 ≤ n → T (all digit l) → digits (value n l) (value n l) ≡ digits n n ++ l
digits_value n [] h t = sym (append-nil (digits n n))
digits_value n (c ∷ l) h t =
    let low = within_low (code "0") (code "9") c (left (digit c) (all digit l) t) in
    let high = within_high (code "0") (code "9") c (left (digit c) (all digit l) t) in
    let d : ℕ = c - code "0" in
    let e : code "0" + d ≡ c = omega arith in
    digits_value (10 * n + d) l (omega arith) (right (digit c) (all digit l) t)
    ∙ ap (λ (k : List ℕ). k ++ l) (digits_next n d h (omega arith))
    ∙ append_assoc (digits n n) ((code "0" + d) ∷ []) l
    ∙ ap (λ (i : ℕ). digits n n ++ (i ∷ l)) e

-- what a number's digits are
pub record Spelled (n : ℕ) (l : List ℕ) : Type 0 where
  pub is : value 0 l ≡ n
  pub only : T (all digit l)
  pub lead : 1 ≤ n → T (leads l)

value_behind : (n c : ℕ) (l : List ℕ) → value n (l ++ (c ∷ [])) ≡ 10 * value n l + (c - code "0")
value_behind n c [] = refl
value_behind n c (b ∷ l) = value_behind (10 * n + (b - code "0")) c l

digits_behind : (c : ℕ) (l : List ℕ) → T (all digit l) → T (digit c) → T (all digit (l ++ (c ∷ [])))
digits_behind c [] t u = both (digit c) true u tt
digits_behind c (b ∷ l) t u = both (digit b) (all digit (l ++ (c ∷ []))) (left (digit b) (all digit l) t) (digits_behind c l (right (digit b) (all digit l) t) u)

leads_before : (l k : List ℕ) → T (leads l) → T (leads (l ++ k))
leads_before [] k t = absurd t
leads_before (c ∷ l) k t = t

digit_of_lem : (d : ℕ) → d < 10 → T (digit (code "0" + d))
digit_of_lem d h = within_both (code "0") (code "9") (code "0" + d) (omega arith) (omega arith)

written_one : (n : ℕ) → n < 10 → Spelled n ((code "0" + n) ∷ [])
written_one n h =
    record {
      is = omega arith;
      only = both (digit (code "0" + n)) true (digit_of_lem n h) tt;
      lead = λ p. (differ (code "0" + n) (code "0")).0 (λ e. omega arith);
    }

pub written : (k n : ℕ) → n ≤ k → Spelled n (digits k n)
written zero n h = written_one n (omega arith)
written (suc k) n h =
    elim (dec_lt n 10) [
      | yes d ↦ subst (Spelled n) (sym (digits_one (suc k) n d)) (written_one n d)
      | no d ↦ subst (Spelled n) (sym (digits_more k n (omega arith))) (more (omega arith) (written k (n / 10) (omega arith)))
    ]
  where
    more : 10 ≤ n → Spelled (n / 10) (digits k (n / 10)) → Spelled n (digits k (n / 10) ++ ((code "0" + n % 10) ∷ []))
    more d w =
        record {
          is = value_behind 0 (code "0" + n % 10) (digits k (n / 10)) ∙ omega (arith, w.is);
          only = digits_behind (code "0" + n % 10) (digits k (n / 10)) w.only (digit_of_lem (n % 10) (omega arith));
          lead = λ p. leads_before (digits k (n / 10)) ((code "0" + n % 10) ∷ []) (w.lead (omega arith));
        }

digits_plain : (n : ℕ) → T (plain (digits n n))
digits_plain zero = tt
digits_plain (suc n) = go (digits (suc n) (suc n)) ((written (suc n) (suc n) (omega arith)).lead (omega arith))
  where
    go : (l : List ℕ) → T (leads l) → T (plain l)
    go [] t = t
    go (c ∷ l) t = or_right (empty l) (not (eqb c (code "0"))) t

-- digits that 01 allows are those of their value
read_back : (f : List ℕ) → T (all digit f) → T (plain f) → f ≡ digits (value 0 f) (value 0 f)
read_back [] t p = absurd p
read_back (c ∷ l) t p = go l (right (digit c) (all digit l) t) p
  where
    v : ℕ
    v = value 0 (c ∷ [])

    low : code "0" ≤ c
    low = within_low (code "0") (code "9") c (left (digit c) (all digit l) t)

    high : c ≤ code "9"
    high = within_high (code "0") (code "9") c (left (digit c) (all digit l) t)

    alone : c ∷ [] ≡ digits v v
    alone = let e : code "0" + v ≡ c = omega (arith, low) in sym (digits_one v v (omega (arith, low, high)) ∙ ap (λ (i : ℕ). i ∷ []) e)

    above : c ≢ code "0" → 1 ≤ v
    above d = omega (arith, low)

    go : (l : List ℕ) → T (all digit l) → T (plain (c ∷ l)) → c ∷ l ≡ digits (value 0 (c ∷ l)) (value 0 (c ∷ l))
    go [] t p = alone
    go (b ∷ l) t p = ap (λ (k : List ℕ). k ++ (b ∷ l)) alone ∙ sym (digits_value v (b ∷ l) (above ((differ c (code "0")).1 p)) t)

-- what a readable number is, and that it is readable
number_is : (f : List ℕ) (n : ℕ) → number f ≡ some n → T (all digit f) × T (plain f) × (value 0 f ≡ n) × (n < 2 ^ 16)
unfolding number
number_is [] n e = absurd (none-ne-some n e)
number_is (c ∷ l) n e = go (all digit f && plain f && leb v 65535) refl e
  where
    f : List ℕ
    f = c ∷ l

    v : ℕ
    v = value 0 f

    go : (z : Bool) → (all digit f && plain f && leb v 65535) ≡ z → cond z (some v) none ≡ some n → T (all digit f) × T (plain f) × (v ≡ n) × (n < 2 ^ 16)
    go true q d =
        let t = true→T (all digit f && plain f && leb v 65535) q in
        let s = left (all digit f && plain f) (leb v 65535) t in
        let most = T-leb v 65535 (right (all digit f && plain f) (leb v 65535) t) in
        let same = some-injective v n d in
        (left (all digit f) (plain f) s, right (all digit f) (plain f) s, same, omega arith)
    go false q d = absurd (none-ne-some n d)

is_number : (f : List ℕ) → T (all digit f) → T (plain f) → value 0 f < 2 ^ 16 → number f ≡ some (value 0 f)
unfolding number
is_number [] t p h = absurd p
is_number (c ∷ l) t p h = rw (T→true (all digit (c ∷ l)) t, T→true (plain (c ∷ l)) p, le-leb (value 0 (c ∷ l)) 65535 (omega arith))

-- a number is read exactly as it is printed
pub number_exact : (f : List ℕ) (n : ℕ) → (number f ≡ some n) ↔ ((n < 2 ^ 16) × (f ≡ digits n n))
number_exact f n = (forth, λ p. ap number p.1 ∙ back p.0)
  where
    forth : number f ≡ some n → (n < 2 ^ 16) × (f ≡ digits n n)
    forth e = let r = number_is f n e in (r.3, read_back f r.0 r.1 ∙ ap (λ (i : ℕ). digits i i) r.2)

    back : n < 2 ^ 16 → number (digits n n) ≡ some n
    back h =
        let w = written n n (omega arith) in
        is_number (digits n n) w.only (digits_plain n) (omega (arith, w.is)) ∙ ap some w.is

-- "numbers of 0 to 65,535": 16 bits
pub number_fits : (f : List ℕ) (n : ℕ) → number f ≡ some n → n < 2 ^ 16
number_fits f n e = ((number_exact f n).0 e).0

-- "without leading zeros": a 0 stands alone
pub no_leading_zero : (c : ℕ) (l : List ℕ) → number (code "0" ∷ c ∷ l) ≡ none
no_leading_zero c l = is_none (number (code "0" ∷ c ∷ l)) (λ n e. (number_is (code "0" ∷ c ∷ l) n e).1)

-- a number below a power of ten has at most as many digits as that power has zeros
pub digits_short : (m k n : ℕ) → n < 10 ^ suc m → length (digits k n) ≤ suc m
digits_short m zero n h = omega arith
digits_short zero (suc k) n h = omega (arith, ap length (digits_one (suc k) n h))
digits_short (suc m) (suc k) n h =
    elim (dec_lt n 10) [
      | yes d ↦ omega (arith, ap length (digits_one (suc k) n d))
      | no d ↦ let last : List ℕ = (code "0" + n % 10) ∷ [] in omega (arith, ap length (digits_more k n (omega arith)), length-append (digits k (n / 10)) last, digits_short m k (n / 10) (omega (arith, pow-suc 10 (suc m))))
    ]
