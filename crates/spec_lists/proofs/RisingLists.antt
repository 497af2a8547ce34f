-- Lists that rise: each number is below all after it, part of such a list rises too, and only one list of the same numbers rises.
use Prim.Native.Nat.{ℕ, zero, suc, ◌≤◌, ◌<◌}
use native.Mathlib.Omega.{arith}
use mathlib.Core.Path.{◌≡◌, refl, ap}
use mathlib.Core.Logic.{inl, inr}
use mathlib.Core.Bool.{Bool, true, false, cond}
use mathlib.Core.List.{List, [], ◌∷◌}
use lib.Dec.{T, eqb, ltb}
use borrow.Author.Tests.{ltb-true, lt-ltb}
use Rattle.spec_lists.specs.Lists.{bit, count, range, rises, filter, In}
use Rattle.spec_lists.proofs.Tests.{T→true, true→T, both, left, right}
use Rattle.spec_lists.proofs.Elements.{filter_in}
use Rattle.spec_lists.proofs.NumberLists.{range_low}
use Rattle.spec_lists.proofs.Counting.{count_some, counted_in}

-- without its first number the list rises too ..
pub rises_rest : (m : ℕ) (l : List ℕ) → T (rises (m ∷ l)) → T (rises l)
rises_rest m [] r = tt
rises_rest m (n ∷ l) r = right (ltb m n) (rises (n ∷ l)) r

-- .. its first number is below its second ..
rises_first : (m n : ℕ) (l : List ℕ) → T (rises (m ∷ n ∷ l)) → m < n
rises_first m n l r = ltb-true m n (T→true (ltb m n) (left (ltb m n) (rises (n ∷ l)) r))

-- .. and so below all others
pub rises_below : (m : ℕ) (l : List ℕ) → T (rises (m ∷ l)) → (x : ℕ) → In x l → m < x
rises_below m [] r x i = absurd i
rises_below m (n ∷ l) r x (inl e) = omega (arith, rises_first m n l r)
rises_below m (n ∷ l) r x (inr i) = omega (arith, rises_first m n l r, rises_below n l (rises_rest m (n ∷ l) r) x i)

-- a number below all of a list that rises can stand before it
pub rises_more : (m : ℕ) (l : List ℕ) → ((x : ℕ) → In x l → m < x) → T (rises l) → T (rises (m ∷ l))
rises_more m [] below r = tt
rises_more m (n ∷ l) below r = both (ltb m n) (rises (n ∷ l)) (true→T (ltb m n) (lt-ltb m n (below n (inl refl)))) r

-- numbers each one more than the last rise
pub rises_range : (i n : ℕ) → T (rises (range i n))
rises_range i zero = tt
rises_range i (suc n) = rises_more i (range (suc i) n) (λ x j. range_low x (suc i) n j) (rises_range (suc i) n)

-- and so does what a test leaves of a list that rises
pub rises_filter : (p : ℕ → Bool) (l : List ℕ) → T (rises l) → T (rises (filter p l))
rises_filter p [] r = tt
rises_filter p (m ∷ l) r = go (p m) (rises_filter p l (rises_rest m l r))
  where
    go : (z : Bool) → T (rises (filter p l)) → T (rises (cond z (m ∷ filter p l) (filter p l)))
    go true later = rises_more m (filter p l) (λ x i. rises_below m l r x (filter_in p x l i).0) later
    go false later = later

-- no number of a list that rises is below its first
pub rises_least : (m : ℕ) (l : List ℕ) → T (rises (m ∷ l)) → (x : ℕ) → In x (m ∷ l) → m ≤ x
rises_least m l r x (inl e) = omega arith
rises_least m l r x (inr i) = omega (arith, rises_below m l r x i)

-- two lists that rise and have the same numbers, each as often, are the same list
pub rises_same : (k l : List ℕ) → T (rises k) → T (rises l) → ((x : ℕ) → count x k ≡ count x l) → k ≡ l
rises_same [] [] r s c = refl
rises_same [] (n ∷ l) r s c = absurd (omega (arith, c n, count_some n (n ∷ l) (inl refl)))
rises_same (m ∷ k) [] r s c = absurd (omega (arith, c m, count_some m (m ∷ k) (inl refl)))
rises_same (m ∷ k) (n ∷ l) r s c =
    let up : m ≤ n = rises_least m k r n (counted_in n (m ∷ k) (omega (arith, c n, count_some n (n ∷ l) (inl refl)))) in
    let down : n ≤ m = rises_least n l s m (counted_in m (n ∷ l) (omega (arith, c m, count_some m (m ∷ k) (inl refl)))) in
    let first : m ≡ n = omega arith in
    let rest = rises_same k l (rises_rest m k r) (rises_rest n l s) (λ x. omega (arith, c x, ap (λ (y : ℕ). bit (eqb y x)) first)) in
    λ i. first i ∷ rest i
