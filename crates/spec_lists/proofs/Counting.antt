-- Counting: bits, how often a number stands in a list, totals and greatest values over 1 to n.
use Prim.Native.Nat.{ℕ, zero, suc, ◌+◌, ◌*◌, ◌≤◌, ◌<◌}
use native.Mathlib.Omega.{arith}
use native.Mathlib.Nat.{mul-add}
use native.Mathlib.Decide.{dec_lt, dec_le}
use mathlib.Core.Path.{◌≡◌, refl, sym, ap, subst, ◌∙◌}
use mathlib.Core.Logic.{inl, inr, ◌≢◌, ◌↔◌}
use mathlib.Core.Bool.{Bool, true, false, cond, ◌||◌}
use mathlib.Core.List.{List, [], ◌∷◌, ◌++◌, flat_map}
use lib.Dec.{T, eqb}
use lib.ListN.{length, get_or, set, replicate}
use borrow.Author.Tests.{eq-eqb, ne_eqb}
use Rattle.spec_lists.specs.Lists.{bit, within, count, member, distinct, range, total, greatest, filter, Each, In, nth, update}
use Rattle.spec_lists.proofs.Tests.{true→T, Compared, same, other, compared, within_low, within_high, within_both}
use Rattle.spec_lists.proofs.Elements.{in_each}
use Rattle.spec_lists.proofs.NumberLists.{member_in, in_member, Member, is_in, not_in, membered, distinct_head, distinct_tail, flat_map_next}

-- bits

pub bit_same : (x y : ℕ) → x ≡ y → bit (eqb x y) ≡ 1
bit_same x y e = ap bit (eq-eqb x y e)

pub bit_other : (x y : ℕ) → (x ≡ y → ⊥) → bit (eqb x y) ≡ 0
bit_other x y d = ap bit (ne_eqb x y d)

pub bit_le : (b : Bool) → bit b ≤ 1
bit_le true = omega arith
bit_le false = omega arith

-- counts

pub count_none : (x : ℕ) (l : List ℕ) → (In x l → ⊥) → count x l ≡ 0
count_none x [] f = refl
count_none x (y ∷ l) f = omega (arith, bit_other y x (λ e. f (inl (sym e))), count_none x l (λ i. f (inr i)))

-- what stands in a list is counted
pub count_some : (x : ℕ) (l : List ℕ) → In x l → 1 ≤ count x l
count_some x [] i = absurd i
count_some x (y ∷ l) (inl e) = omega (arith, bit_same y x (sym e))
count_some x (y ∷ l) (inr i) = omega (arith, count_some x l i)

-- .. what is counted stands in it ..
pub counted_in : (x : ℕ) (l : List ℕ) → 1 ≤ count x l → In x l
counted_in x l h = go (membered x l)
  where
    go : {z : Bool} → Member x l z → In x l
    go (is_in i) = i
    go (not_in n) = absurd (omega (arith, count_none x l n))

-- .. at most as often as the list is long
pub count_most : (x : ℕ) (l : List ℕ) → count x l ≤ length l
count_most x [] = omega arith
count_most x (y ∷ l) = omega (arith, count_most x l, bit_le (eqb y x))

-- in a list after another a number is counted as often as in both
pub count_append : (x : ℕ) (k l : List ℕ) → count x (k ++ l) ≡ count x k + count x l
count_append x [] l = omega arith
count_append x (y ∷ k) l = omega (arith, count_append x k l)

-- in equal numbers each of them, or none
pub count_replicate : (x n a : ℕ) → count x (replicate n a) ≡ n * bit (eqb a x)
count_replicate x zero a = omega arith
count_replicate x (suc n) a = omega (arith, count_replicate x n a)

pub distinct_count : (l : List ℕ) → T (distinct l) → (x : ℕ) → count x l ≤ 1
distinct_count [] t x = omega arith
distinct_count (y ∷ l) t x = go (distinct_count l (distinct_tail y l t) x) (compared y x)
  where
    go : count x l ≤ 1 → {b : Bool} → Compared y x b → bit (eqb y x) + count x l ≤ 1
    go ih (same e) = omega (arith, bit_le (eqb y x), count_none x l (λ i. distinct_head y l t (rw e i)))
    go ih (other d) = omega (arith, bit_other y x d)

-- totals

pub total_add : (n : ℕ) (f g : ℕ → ℕ) → total n (λ x. f x + g x) ≡ total n f + total n g
total_add zero f g = refl
total_add (suc n) f g = omega (arith, total_add n f g)

-- the first value of a total
pub total_first : (n : ℕ) (f : ℕ → ℕ) → total (suc n) f ≡ f 1 + total n (λ x. f (suc x))
total_first zero f = omega arith
total_first (suc n) f = omega (arith, total_first n f)

-- a multiple's total
pub total_times : (n h : ℕ) (f : ℕ → ℕ) → total n (λ x. h * f x) ≡ h * total n f
total_times zero h f = omega arith
total_times (suc n) h f = omega (arith, total_times n h f, mul-add h (total n f) (f (suc n)))

-- the same value for all
pub total_each : (n h : ℕ) → total n (λ x. h) ≡ n * h
total_each zero h = omega arith
total_each (suc n) h = omega (arith, total_each n h)

pub total_at : (n : ℕ) (f : ℕ → ℕ) (y : ℕ) → 1 ≤ y → y ≤ n → f y ≤ total n f
total_at zero f y l h = omega arith
total_at (suc n) f y l h = go (λ d. total_at n f y l (omega arith)) (compared y (suc n))
  where
    go : ((y ≡ suc n → ⊥) → f y ≤ total n f) → {b : Bool} → Compared y (suc n) b → f y ≤ total n f + f (suc n)
    go ih (same e) = omega (arith, ap f e)
    go ih (other d) = omega (arith, ih d)

-- with more numbers a total does not fall ..
pub total_rises : (m n : ℕ) (f : ℕ → ℕ) → m ≤ n → total m f ≤ total n f
total_rises m zero f l = let e : m ≡ 0 = omega arith in rw e (omega arith)
total_rises m (suc n) f l = elim (dec_le m n) [
  | yes k ↦ omega (arith, total_rises m n f k)
  | no k ↦ let e : m ≡ suc n = omega (arith, k) in rw e (omega arith)
]

-- .. and a value beyond m is part of what comes with them
pub total_beyond : (m n : ℕ) (f : ℕ → ℕ) (x : ℕ) → m < x → x ≤ n → total m f + f x ≤ total n f
total_beyond m n f zero l u = absurd (omega arith)
total_beyond m n f (suc x) l u = omega (arith, total_rises m x f (omega arith), total_rises (suc x) n f u)

pub total_most : (n : ℕ) (f : ℕ → ℕ) → ((x : ℕ) → f x ≤ 1) → total n f ≤ n
total_most zero f h = omega arith
total_most (suc n) f h = omega (arith, total_most n f h, h (suc n))

-- functions that agree on 1 to n have the same total ..
pub total_same : (n : ℕ) (f g : ℕ → ℕ) → ((x : ℕ) → 1 ≤ x → x ≤ n → f x ≡ g x) → total n f ≡ total n g
total_same zero f g h = refl
total_same (suc n) f g h = omega (arith, total_same n f g (λ x l u. h x l (omega arith)), h (suc n) (omega arith) (omega arith))

-- .. a function nowhere above another has no greater total ..
pub total_le : (n : ℕ) (f g : ℕ → ℕ) → ((x : ℕ) → 1 ≤ x → x ≤ n → f x ≤ g x) → total n f ≤ total n g
total_le zero f g h = omega arith
total_le (suc n) f g h = omega (arith, total_le n f g (λ x l u. h x l (omega arith)), h (suc n) (omega arith) (omega arith))

-- .. and is the same on 1 to n if it has the same total
pub total_tight : (n : ℕ) (f g : ℕ → ℕ) → ((x : ℕ) → 1 ≤ x → x ≤ n → f x ≤ g x) → total n f ≡ total n g → (x : ℕ) → 1 ≤ x → x ≤ n → f x ≡ g x
total_tight zero f g h e x l u = absurd (omega arith)
total_tight (suc n) f g h e x l u = go (total_tight n f g before) (compared x (suc n))
  where
    before : (y : ℕ) → 1 ≤ y → y ≤ n → f y ≤ g y
    before y l u = h y l (omega arith)

    last : f (suc n) ≤ g (suc n)
    last = h (suc n) (omega arith) (omega arith)

    go : (total n f ≡ total n g → (y : ℕ) → 1 ≤ y → y ≤ n → f y ≡ g y) → {z : Bool} → Compared x (suc n) z → f x ≡ g x
    go ih (same q) = omega (arith, last, total_le n f g before, ap f q, ap g q)
    go ih (other d) = ih (omega (arith, last, total_le n f g before)) x l (omega arith)

-- lists for 1 to n, one after the other: what is counted of each adds up
pub total_flat_map : {A : Type 0} (size_of : List A → ℕ) → size_of [] ≡ 0 → ((k l : List A) → size_of (k ++ l) ≡ size_of k + size_of l) → (f : ℕ → List A) (n : ℕ) → size_of (flat_map f (range 1 n)) ≡ total n (λ x. size_of (f x))
unfolding flat_map
total_flat_map size_of none join f zero = none
total_flat_map size_of none join f (suc n) = omega (arith, ap size_of (flat_map_next f n), join (flat_map f (range 1 n)) (f (suc n)), total_flat_map size_of none join f n)

-- if functions differ at one place only, their totals differ by what they do there
pub total_but_one : (n : ℕ) (f g : ℕ → ℕ) (x : ℕ) → 1 ≤ x → x ≤ n → ((y : ℕ) → 1 ≤ y → y ≤ n → y ≢ x → f y ≡ g y) → total n f + g x ≡ total n g + f x
total_but_one zero f g x l u h = omega arith
total_but_one (suc n) f g x l u h = go (λ w. total_but_one n f g x l w (λ y k m. h y k (omega arith))) (compared x (suc n))
  where
    go : (x ≤ n → total n f + g x ≡ total n g + f x) → {b : Bool} → Compared x (suc n) b → total n f + f (suc n) + g x ≡ total n g + g (suc n) + f x
    go ih (same e) = omega (arith, ap f e, ap g e, total_same n f g (λ y k m. h y k (omega arith) (λ d. omega arith)))
    go ih (other d) = omega (arith, ih (omega arith), h (suc n) (omega arith) (omega arith) (λ e. d (sym e)))

-- a number is at no place of 1 to n if it is above n ..
total_above : (n y : ℕ) → n < y → total n (λ x. bit (eqb y x)) ≡ 0
total_above zero y h = refl
total_above (suc n) y h = omega (arith, total_above n y (omega arith), bit_other y (suc n) (λ e. omega arith))

-- .. and at no more than one in any case
total_once : (n y : ℕ) → total n (λ x. bit (eqb y x)) ≤ 1
total_once zero y = omega arith
total_once (suc n) y = go (total_once n y) (compared y (suc n))
  where
    go : total n (λ x. bit (eqb y x)) ≤ 1 → {b : Bool} → Compared y (suc n) b → total n (λ x. bit (eqb y x)) + bit (eqb y (suc n)) ≤ 1
    go ih (same e) = omega (arith, total_above n y (omega arith), bit_le (eqb y (suc n)))
    go ih (other d) = omega (arith, bit_other y (suc n) d)

-- .. just at one if it is within
pub total_within : (n y : ℕ) → total n (λ x. bit (eqb y x)) ≡ bit (within 1 n y)
total_within n y = go (within 1 n y) refl
  where
    go : (z : Bool) → within 1 n y ≡ z → total n (λ x. bit (eqb y x)) ≡ bit z
    go true e =
        let t = true→T (within 1 n y) e in
        omega (arith, total_once n y, total_at n (λ x. bit (eqb y x)) y (within_low 1 n y t) (within_high 1 n y t), bit_same y y refl)
    go false e =
        let outside = total_same n (λ x. bit (eqb y x)) (λ x. 0) (λ x l u. bit_other y x (λ d. subst T e (within_both 1 n y (omega arith) (omega arith)))) in
        omega (arith, outside, total_each n 0)

-- numbers outside 1 to n are not counted
pub total_count_le : (n : ℕ) (l : List ℕ) → total n (λ x. count x l) ≤ length l
total_count_le n [] = omega (arith, total_add n (λ x. 0) (λ x. 0))
total_count_le n (y ∷ l) = omega (arith, total_count_le n l, total_add n (λ x. bit (eqb y x)) (λ x. count x l), total_once n y)

-- a list of numbers of 1 to n has one place for each count
pub total_count : (n : ℕ) (l : List ℕ) → Each (λ x. T (within 1 n x)) l → total n (λ x. count x l) ≡ length l
total_count n [] e = omega (arith, total_count_le n [])
total_count n (y ∷ l) e =
    let at = total_at n (λ x. bit (eqb y x)) y (within_low 1 n y e.0) (within_high 1 n y e.0) in
    omega (arith, total_count_le n (y ∷ l), total_count n l e.1, total_add n (λ x. bit (eqb y x)) (λ x. count x l), at, bit_same y y refl)

-- numbers of 1 to n, none twice, are at most n
pub few : (n : ℕ) (l : List ℕ) → ((x : ℕ) → count x l ≤ 1) → Each (λ x. T (within 1 n x)) l → length l ≤ n
few n l once e = omega (arith, total_count n l e, total_most n (λ x. count x l) once)

-- different numbers of 1 to n are as many as pass the test that tells them
pub total_tested : (n : ℕ) (l : List ℕ) (test : ℕ → Bool) → T (distinct l) → ((x : ℕ) → In x l → T (within 1 n x)) → ((x : ℕ) → In x l ↔ T (test x)) → length l ≡ total n (λ x. bit (test x))
total_tested n l test t w f =
    sym (total_count n l (in_each (λ x. T (within 1 n x)) l w)) ∙
    total_same n (λ x. count x l) (λ x. bit (test x)) (λ x i u. once x (test x) (f x))
  where
    once : (x : ℕ) (z : Bool) → In x l ↔ T z → count x l ≡ bit z
    once x true g = omega (arith, distinct_count l t x, count_some x l (g.1 tt))
    once x false g = count_none x l g.0

-- what stands in a list is counted once or more
member_count : (x : ℕ) (set : List ℕ) → bit (member x set) ≤ count x set
member_count x [] = omega arith
member_count x (y ∷ set) = go (eqb y x) (member_count x set)
  where
    go : (z : Bool) → bit (member x set) ≤ count x set → bit (z || member x set) ≤ bit z + count x set
    go true ih = omega arith
    go false ih = omega arith

-- how many numbers of 1 to n stand in the set ..
abbrev pub size : ℕ → List ℕ → ℕ
size n set = total n (λ x. bit (member x set))

-- .. not more than the list is long ..
pub size_le : (n : ℕ) (set : List ℕ) → size n set ≤ length set
size_le n set =
    omega (arith, total_le n (λ x. bit (member x set)) (λ x. count x set) (λ x l u. member_count x set), total_count_le n set)

-- .. and just as many if it has only such numbers, none twice
pub size_once : (n : ℕ) (set : List ℕ) → T (distinct set) → ((x : ℕ) → In x set → T (within 1 n x)) → size n set ≡ length set
size_once n set t w = sym (total_tested n set (λ x. member x set) t w (λ x. (in_member x set, member_in x set)))

-- writing at a place: the new number is counted there, and the old one no more
pub count_update : (l : List ℕ) (j a y : ℕ) → 1 ≤ j → j ≤ length l → count y (update l j a) + bit (eqb (nth l j 0) y) ≡ count y l + bit (eqb a y)
count_update l zero a y h u = omega arith
count_update [] (suc i) a y h u = omega arith
count_update (x ∷ l) (suc zero) a y h u = omega arith
count_update (x ∷ l) (suc (suc i)) a y h u = omega (arith, count_update l (suc i) a y (omega arith) (omega arith))

module _ {A : Type 0} (p : A → Bool) where
  -- the first element is kept or not
  pub filter_counts : (x : A) (l : List A) → length (filter p (x ∷ l)) ≡ bit (p x) + length (filter p l)
  filter_counts x l = go (p x)
    where
      go : (z : Bool) → length (cond z (x ∷ filter p l) (filter p l)) ≡ bit z + length (filter p l)
      go true = omega arith
      go false = omega arith

  filter_set : (l : List A) (i : ℕ) (a d : A) → i < length l → length (filter p (set l i a)) + bit (p (get_or l i d)) ≡ length (filter p l) + bit (p a)
  filter_set [] i a d u = absurd (omega arith)
  filter_set (x ∷ l) zero a d u = omega (arith, filter_counts x l, filter_counts a l)
  filter_set (x ∷ l) (suc i) a d u = omega (arith, filter_counts x l, filter_counts x (set l i a), filter_set l i a d (omega arith))

  -- writing at a place: what passes a test is counted so too
  pub filter_update : (l : List A) (j : ℕ) (a d : A) → 1 ≤ j → j ≤ length l → length (filter p (update l j a)) + bit (p (nth l j d)) ≡ length (filter p l) + bit (p a)
  filter_update l zero a d h u = absurd (omega arith)
  filter_update l (suc i) a d h u = filter_set l i a d u

-- the greatest value

-- f is nowhere on 1 to n above its greatest value
pub greatest_above : (n : ℕ) (f : ℕ → ℕ) (x : ℕ) → 1 ≤ x → x ≤ n → f x ≤ greatest n f
greatest_above zero f x l h = absurd (omega arith)
greatest_above (suc n) f x l h = go (dec_lt x (suc n)) (λ i. greatest_above n f x l (omega arith))
  where
    go : Dec (x < suc n) → (x < suc n → f x ≤ greatest n f) → f x ≤ greatest (suc n) f
    go (yes i) ih = omega (arith, ih i)
    go (no i) ih = let e : f x ≡ f (suc n) = ap f (omega arith) in omega arith

-- what is nowhere above m has no greatest value above it
pub greatest_most : (n : ℕ) (f : ℕ → ℕ) (m : ℕ) → ((x : ℕ) → 1 ≤ x → x ≤ n → f x ≤ m) → greatest n f ≤ m
greatest_most zero f m h = omega arith
greatest_most (suc n) f m h = omega (arith, greatest_most n f m (λ x l u. h x l (omega arith)), h (suc n) (omega arith) (omega arith))

-- with more numbers a greatest value does not fall ..
pub greatest_rises : (m n : ℕ) (f : ℕ → ℕ) → m ≤ n → greatest m f ≤ greatest n f
greatest_rises m n f l = greatest_most m f (greatest n f) (λ x i u. greatest_above n f x i (omega arith))

-- .. nor rise, if what comes with them is no more than it
pub greatest_early : (m n : ℕ) (f : ℕ → ℕ) → m ≤ n → total n f ≤ total m f + greatest m f → greatest m f ≡ greatest n f
greatest_early m n f l e = omega (arith, greatest_rises m n f l, greatest_most n f (greatest m f) no_more)
  where
    no_more : (x : ℕ) → 1 ≤ x → x ≤ n → f x ≤ greatest m f
    no_more x i u = elim (dec_le x m) [ yes k ↦ greatest_above m f x i k | no k ↦ omega (arith, e, total_beyond m n f x (omega (arith, k)) u) ]

-- functions that agree on 1 to n have the same greatest value
pub greatest_same : (n : ℕ) (f g : ℕ → ℕ) → ((x : ℕ) → 1 ≤ x → x ≤ n → f x ≡ g x) → greatest n f ≡ greatest n g
greatest_same zero f g e = refl
greatest_same (suc n) f g e = omega (arith, greatest_same n f g (λ x l u. e x l (omega arith)), e (suc n) (omega arith) (omega arith))

-- a greatest value above 0 is the value somewhere
pub greatest_reached : (n : ℕ) (f : ℕ → ℕ) → 1 ≤ greatest n f → (x : ℕ) × (1 ≤ x) × (x ≤ n) × (f x ≡ greatest n f)
greatest_reached zero f l = absurd (omega arith)
greatest_reached (suc n) f l = elim (dec_le (greatest n f) (f (suc n))) [
  | yes h ↦ (suc n, omega arith, omega arith, omega arith)
  | no h ↦ let r = greatest_reached n f (omega arith) in (r.0, r.1, omega (arith, r.2), omega (arith, r.3))
]
