-- Densities, jobs inside a set, and the lightest of the named benches.
use Prim.Native.Nat.{ℕ, zero, suc, ◌+◌, ◌-◌, ◌*◌, ◌≤◌, ◌<◌}
use native.Mathlib.Omega.{arith}
use native.Mathlib.Nat.{div-add-mod', mod-lt, div-lt_iff_lt-mul, suc-mul, mul-le-mul_right}
use native.Mathlib.Decide.{dec_le}
use mathlib.Core.Path.{◌≡◌, refl, sym, ap, subst}
use mathlib.Core.Logic.{inl, inr}
use mathlib.Core.Bool.{Bool, true, false, cond, not, ◌&&◌}
use mathlib.Core.List.{List, [], ◌∷◌, ◌++◌}
use lib.Dec.{T, ltb}
use borrow.Author.Tests.{ltb-true, ltb-false}
use Rattle.spec_lists.specs.Lists.{bit, member, all, Each, In, empty}
use Rattle.spec_table.specs.Board.{load}
use Rattle.spec_sharing.specs.Sharing.{lightest, lightest_named, inside, density}
use Rattle.spec_lists.proofs.Tests.{T→true, right}
use Rattle.spec_lists.proofs.Elements.{in_right, all_in, in_all, each_in}
use Rattle.spec_lists.proofs.NumberLists.{member_in, in_member}

-- a density rounded up is enough for the inside jobs
pub density_enough : (i n : ℕ) → 1 ≤ n → i ≤ density i n * n
unfolding density
density_enough i n l =
    let m = i + (n - 1) in
    omega (arith, div-add-mod' m n, mod-lt m l)

-- and no lower number is
pub density_least : (i n d : ℕ) → 1 ≤ n → i ≤ d * n → density i n ≤ d
unfolding density
density_least i n d l h =
    let m = i + (n - 1) in
    let s : m < suc d * n = omega (arith, suc-mul d n) in
    omega (arith, (div-lt_iff_lt-mul l).1 s)

-- with more inside jobs than k for each bench, but no more than k + 1, the density rounded up is k + 1
pub density_between : (i n k : ℕ) → k * n < i → i ≤ suc k * n → density i n ≡ suc k
density_between i zero k l u = absurd (omega arith)
density_between i (suc m) k l u = elim (dec_le (density i (suc m)) k) [
  | yes h ↦ absurd (omega (arith, density_enough i (suc m) (omega arith), mul-le-mul_right (suc m) h))
  | no h ↦ omega (arith, density_least i (suc m) (suc k) (omega arith) u)
]

-- where no job stands, none is inside the set
pub inside_empty : (set : List ℕ) (named : List (List ℕ)) → inside set ([] ∷ named) ≡ inside set named
inside_empty set named = omega arith

-- a job with a bench outside the set is not inside it
pub inside_skips : (set names : List ℕ) (named : List (List ℕ)) (x : ℕ) → In x names → (In x set → ⊥) → inside set (names ∷ named) ≡ inside set named
inside_skips set names named x i out = go (not (empty names) && all (λ y. member y set) names) (λ t. t)
  where
    go : (z : Bool) → (T z → T (not (empty names) && all (λ y. member y set) names)) → bit z + inside set named ≡ inside set named
    go true f = absurd (out (member_in x set (all_in (λ y. member y set) x names (right (not (empty names)) (all (λ y. member y set) names) (f tt)) i)))
    go false f = omega arith

-- a job that names benches, all of the set, is inside it
pub inside_counts : (set names : List ℕ) (named : List (List ℕ)) → empty names ≡ false → Each (λ x. In x set) names → inside set (names ∷ named) ≡ suc (inside set named)
inside_counts set names named e f =
    let t : all (λ y. member y set) names ≡ true = T→true (all (λ y. member y set) names) (in_all (λ y. member y set) names (λ y i. in_member y set (each_in (λ x. In x set) y names f i))) in
    rw (e, t) (omega arith)

-- no named bench is lighter than the lightest
pub lightest_least : (holders : List ℕ) (x : ℕ) (others : List ℕ) (y : ℕ) → In y (x ∷ others) → load holders (lightest holders x others) ≤ load holders y
lightest_least holders x [] y (inl e) = omega (arith, ap (load holders) e)
lightest_least holders x [] y (inr i) = absurd i
lightest_least holders x (z ∷ others) y i = go (ltb (load holders z) (load holders x)) refl (λ c y i. lightest_least holders c others y i) i
  where
    go : (t : Bool) → ltb (load holders z) (load holders x) ≡ t → ((c y : ℕ) → In y (c ∷ others) → load holders (lightest holders c others) ≤ load holders y) → In y (x ∷ z ∷ others) → load holders (lightest holders (cond t z x) others) ≤ load holders y
    go true e ih (inl d) = omega (arith, ltb-true (load holders z) (load holders x) e, ih z z (inl refl), ap (load holders) d)
    go true e ih (inr i) = ih z y i
    go false e ih (inl d) = ih x y (inl d)
    go false e ih (inr (inl d)) = omega (arith, ltb-false (load holders z) (load holders x) e, ih x x (inl refl), ap (load holders) d)
    go false e ih (inr (inr i)) = ih x y (inr i)

-- m is named, and the benches named before it are heavier
abbrev pub FirstNamed : List ℕ → List ℕ → ℕ → Type 0
FirstNamed holders names m = (before : List ℕ) × (after : List ℕ) × (names ≡ before ++ (m ∷ after)) × Each (λ y. load holders m < load holders y) before

-- "if they are equal, the first-named": every bench named before the lightest is heavier
pub lightest_first : (holders : List ℕ) (x : ℕ) (others : List ℕ) → FirstNamed holders (x ∷ others) (lightest holders x others)
lightest_first holders x [] = ([], [], refl, tt)
lightest_first holders x (z ∷ others) = go (ltb (load holders z) (load holders x)) refl (λ c. lightest_first holders c others)
  where
    further : (m : ℕ) → load holders x ≤ load holders z → (before after : List ℕ) → x ∷ others ≡ before ++ (m ∷ after) → Each (λ y. load holders m < load holders y) before → FirstNamed holders (x ∷ z ∷ others) m
    further m l [] after e f = ([], z ∷ others, cc, tt)
    further m l (w ∷ before) after e f =
        let d : x ≡ w = cc in
        let g : others ≡ before ++ (m ∷ after) = cc in
        let h = ap (load holders) d in
        (x ∷ z ∷ before, after, cc, (omega arith, (omega arith, f.1)))

    go : (t : Bool) → ltb (load holders z) (load holders x) ≡ t → ((c : ℕ) → FirstNamed holders (c ∷ others) (lightest holders c others)) → FirstNamed holders (x ∷ z ∷ others) (lightest holders (cond t z x) others)
    go true e ih =
        let r = ih z in
        (x ∷ r.0, r.1, ap (λ (l : List ℕ). x ∷ l) r.2, (omega (arith, ltb-true (load holders z) (load holders x) e, lightest_least holders z others z (inl refl)), r.3))
    go false e ih = let r = ih x in further (lightest holders x others) (ltb-false (load holders z) (load holders x) e) r.0 r.1 r.2 r.3

-- the lightest is named
pub lightest_in : (holders : List ℕ) (x : ℕ) (others : List ℕ) → In (lightest holders x others) (x ∷ others)
lightest_in holders x others =
    let r = lightest_first holders x others in
    let m = lightest holders x others in
    subst (In m) (sym r.2) (in_right m r.0 (m ∷ r.1) (inl refl))

-- so the bench that gets a job is one that the job names
pub lightest_named_in : (holders names : List ℕ) → T (not (empty names)) → In (lightest_named holders names) names
lightest_named_in holders [] e = absurd e
lightest_named_in holders (x ∷ others) e = lightest_in holders x others
