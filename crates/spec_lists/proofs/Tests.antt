-- Tests: what a Bool says, and comparisons with their equations.
use Prim.Native.Nat.{ℕ, ◌≤◌}
use mathlib.Core.Path.{◌≡◌, refl, sym, ap, subst, ◌∙◌}
use mathlib.Core.Logic.{◌⊎◌, inl, inr, ◌≢◌, ◌↔◌}
use mathlib.Core.Bool.{Bool, true, false, cond, not, ◌&&◌, ◌||◌, false≢true}
use lib.Dec.{T, T_not, not_T, eqb, leb}
use borrow.Author.Tests.{eqb-true, eqb-false, eq-eqb, leb-true, le-leb}
use Rattle.spec_lists.specs.Lists.{within}

-- tests

pub true→T : (a : Bool) → a ≡ true → T a
true→T true e = tt
true→T false e = subst T (sym e) tt

pub T→true : (a : Bool) → T a → a ≡ true
T→true true t = refl
T→true false t = absurd t

pub not→false : (a : Bool) → T (not a) → a ≡ false
not→false true t = absurd t
not→false false t = refl

pub false→not : (a : Bool) → a ≡ false → T (not a)
false→not a e = subst (λ (x : Bool). T (not x)) (sym e) tt

-- a test that can't pass is false
pub never→false : (a : Bool) → (T a → ⊥) → a ≡ false
never→false a f = not→false a (not_T a f)

pub not_false : (a : Bool) → not a ≡ false → T a
not_false true e = tt
not_false false e = subst T e tt

pub both : (a b : Bool) → T a → T b → T (a && b)
both true b s t = t
both false b s t = absurd s

pub left : (a b : Bool) → T (a && b) → T a
left true b t = tt
left false b t = absurd t

pub right : (a b : Bool) → T (a && b) → T b
right true b t = t
right false b t = absurd t

-- the five tests of a conjunction, one by one
pub five : (a b c d e : Bool) → T (a && b && c && d && e) ↔ (T a × T b × T c × T d × T e)
five a b c d e = (split, λ p. both (a && b && c && d) e (both (a && b && c) d (both (a && b) c (both a b p.0 p.1) p.2) p.3) p.4)
  where
    split : T (a && b && c && d && e) → T a × T b × T c × T d × T e
    split t =
        let t₄ = left (a && b && c && d) e t in
        let t₃ = left (a && b && c) d t₄ in
        let t₂ = left (a && b) c t₃ in
        (left a b t₂, right a b t₂, right (a && b) c t₃, right (a && b && c) d t₄, right (a && b && c && d) e t)

pub either : (a b : Bool) → T (a || b) → T a ⊎ T b
either true b t = inl tt
either false b t = inr t

pub or_left : (a b : Bool) → T a → T (a || b)
or_left true b t = tt
or_left false b t = absurd t

pub or_right : (a b : Bool) → T b → T (a || b)
or_right true b t = tt
or_right false b t = t

-- what a test chooses of two numbers is not above a bound of both
pub cond_le : (z : Bool) (x y n : ℕ) → x ≤ n → y ≤ n → cond z x y ≤ n
cond_le true x y n p q = p
cond_le false x y n p q = q

-- two tests that hold together are equal
pub tests_same : (a b : Bool) → T a ↔ T b → a ≡ b
tests_same true true f = refl
tests_same true false f = absurd (f.0 tt)
tests_same false true f = absurd (f.1 tt)
tests_same false false f = refl

pub neither : (a b : Bool) → (a || b) ≡ false → (a ≡ false) × (b ≡ false)
neither true b e = absurd (false≢true (sym e))
neither false b e = (refl, e)

-- a test, with the equation that it decides
pub data Compared (x y : ℕ) : Bool → Type 0 where
  same : x ≡ y → Compared x y true
  other : (x ≡ y → ⊥) → Compared x y false

pub compared : (x y : ℕ) → Compared x y (eqb x y)
compared x y = go (eqb x y) refl
  where
    go : (b : Bool) → eqb x y ≡ b → Compared x y b
    go true e = same (eqb-true x y e)
    go false e = other (eqb-false x y e)

pub eqb_refl : (x : ℕ) → eqb x x ≡ true
eqb_refl x = eq-eqb x x refl

pub T-eqb : (x y : ℕ) → T (eqb x y) → x ≡ y
T-eqb x y t = eqb-true x y (T→true (eqb x y) t)

pub eqb_T : (x y : ℕ) → x ≡ y → T (eqb x y)
eqb_T x y e = true→T (eqb x y) (eq-eqb x y e)

-- two numbers differ exactly if the test says so
pub differ : (x y : ℕ) → (x ≢ y) ↔ T (not (eqb x y))
differ x y = (λ d. not_T (eqb x y) (λ t. d (T-eqb x y t)), λ t e. T_not (eqb x y) t (eqb_T x y e))

pub T-leb : (x y : ℕ) → T (leb x y) → x ≤ y
T-leb x y t = leb-true x y (T→true (leb x y) t)

pub leb_T : (x y : ℕ) → x ≤ y → T (leb x y)
leb_T x y h = true→T (leb x y) (le-leb x y h)

pub within_low : (lo hi x : ℕ) → T (within lo hi x) → lo ≤ x
within_low lo hi x t = T-leb lo x (left (leb lo x) (leb x hi) t)

pub within_high : (lo hi x : ℕ) → T (within lo hi x) → x ≤ hi
within_high lo hi x t = T-leb x hi (right (leb lo x) (leb x hi) t)

pub within_both : (lo hi x : ℕ) → lo ≤ x → x ≤ hi → T (within lo hi x)
within_both lo hi x l h = both (leb lo x) (leb x hi) (leb_T lo x l) (leb_T x hi h)

-- `if !h` was taken: the test failed
pub failed : {h w : Bool} → h ≡ w → not h ≡ true → w ≡ false
failed {h} {w} e n = not→false w (true→T (not w) (ap not (sym e) ∙ n))

-- `if !h` was not taken: the test passed
pub passed : {h w : Bool} → h ≡ w → not h ≡ false → T w
passed {h} {w} e n = not_false w (ap not (sym e) ∙ n)
