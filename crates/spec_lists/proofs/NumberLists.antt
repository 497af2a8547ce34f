-- Lists of numbers: members, ranges, first places.
use Prim.Native.Nat.{ℕ, zero, suc, ◌+◌, ◌≤◌, ◌<◌}
use native.Mathlib.Omega.{arith}
use mathlib.Core.Path.{◌≡◌, refl, sym, ap, ◌∙◌}
use mathlib.Core.Logic.{◌⊎◌, inl, inr, ◌≢◌, ◌↔◌}
use mathlib.Core.Bool.{Bool, true, false, cond, not}
use mathlib.Core.List.{List, [], ◌∷◌, ◌++◌, map, flat_map, append-nil, append_assoc}
use lib.Dec.{T, T_not, not_T, eqb, leb}
use lib.ListN.{length, get_or, replicate, length-map}
use lib.Seq.{ext_get_or}
use borrow.Author.Tests.{eq-eqb, ne_eqb}
use Rattle.spec_lists.specs.Lists.{within, member, distinct, range, filter, In, nth, update}
use Rattle.spec_lists.proofs.Tests.{true→T, false→not, both, left, right, either, or_left, or_right, tests_same, same, Compared, other, compared, T-eqb, eqb_T, T-leb, differ, within_low, within_high, within_both}
use Rattle.spec_lists.proofs.Elements.{in_filter, filter_in, filter_same, nth_update_same, nth_update_other, length_update}

-- numbers in lists

pub member_in : (x : ℕ) (l : List ℕ) → T (member x l) → In x l
member_in x [] t = absurd t
member_in x (y ∷ l) t = go (λ s. member_in x l s) (either (eqb y x) (member x l) t)
  where
    go : (T (member x l) → In x l) → T (eqb y x) ⊎ T (member x l) → In x (y ∷ l)
    go ih (inl s) = inl (sym (T-eqb y x s))
    go ih (inr s) = inr (ih s)

pub in_member : (x : ℕ) (l : List ℕ) → In x l → T (member x l)
in_member x [] i = absurd i
in_member x (y ∷ l) (inl e) = or_left (eqb y x) (member x l) (eqb_T y x (sym e))
in_member x (y ∷ l) (inr i) = or_right (eqb y x) (member x l) (in_member x l i)

pub in_range : (x i n : ℕ) → i ≤ x → x < i + n → In x (range i n)
in_range x i zero l h = omega arith
in_range x i (suc n) l h = go (λ d. in_range x (suc i) n (omega arith) (omega arith)) (compared x i)
  where
    go : ((x ≡ i → ⊥) → In x (range (suc i) n)) → {b : Bool} → Compared x i b → In x (range i (suc n))
    go ih (same e) = inl e
    go ih (other d) = inr (ih d)

pub range_low : (x i n : ℕ) → In x (range i n) → i ≤ x
range_low x i zero j = absurd j
range_low x i (suc n) (inl e) = omega arith
range_low x i (suc n) (inr j) = let h = range_low x (suc i) n j in omega arith

pub range_high : (x i n : ℕ) → In x (range i n) → x < i + n
range_high x i zero j = absurd j
range_high x i (suc n) (inl e) = omega arith
range_high x i (suc n) (inr j) = let h = range_high x (suc i) n j in omega arith

-- the numbers from 1 to n, as a test and as a list
pub bench_listed : (n x : ℕ) → T (within 1 n x) → In x (range 1 n)
bench_listed n x t = let h = within_high 1 n x t in in_range x 1 n (within_low 1 n x t) (omega arith)

pub listed_bench : (n x : ℕ) → In x (range 1 n) → T (within 1 n x)
listed_bench n x i = let h = range_high x 1 n i in within_both 1 n x (range_low x 1 n i) (omega arith)

pub length_range : (i n : ℕ) → length (range i n) ≡ n
length_range i zero = refl
length_range i (suc n) = ap suc (length_range (suc i) n)

-- lists for rising numbers, one after the other: the list for one number more comes last ..
flat_map_last : {A : Type 0} (f : ℕ → List A) (i n last : ℕ) → last ≡ i + n → flat_map f (range i (suc n)) ≡ flat_map f (range i n) ++ f last
unfolding flat_map
flat_map_last f i zero last e = append-nil (f i) ∙ ap f (omega arith)
flat_map_last {A} f i (suc n) last e =
    ap (λ (l : List A). f i ++ l) (flat_map_last f (suc i) n last (omega arith)) ∙ sym (append_assoc (f i) (flat_map f (range (suc i) n)) (f last))

-- .. so for 1 to n + 1 that of n + 1
pub flat_map_next : {A : Type 0} (f : ℕ → List A) (n : ℕ) → flat_map f (range 1 (suc n)) ≡ flat_map f (range 1 n) ++ f (suc n)
flat_map_next f n = flat_map_last f 1 n (suc n) (omega arith)

-- values over rising numbers
module _ {A : Type 0} (f : ℕ → A) where
  pub length_values : (i n : ℕ) → length (map f (range i n)) ≡ n
  length_values i n = length-map (range i n) f ∙ length_range i n

  get_d_range : (i n k : ℕ) (d : A) → k < n → get_or (map f (range i n)) k d ≡ f (i + k)
  get_d_range i zero k d h = absurd (omega arith)
  get_d_range i (suc n) zero d h = ap f (omega arith)
  get_d_range i (suc n) (suc k) d h = get_d_range (suc i) n k d (omega arith) ∙ ap f (omega arith)

  -- the value for x
  pub nth_range : (n x : ℕ) (d : A) → 1 ≤ x → x ≤ n → nth (map f (range 1 n)) x d ≡ f x
  nth_range n zero d l u = absurd (omega arith)
  nth_range n (suc k) d l u = get_d_range 1 n k d u ∙ ap f (omega arith)

  -- a list that has the same value at each place is the same list
  pub values_same : (i n : ℕ) (l : List A) (d : A) → length l ≡ n → ((k : ℕ) → k < n → get_or l k d ≡ f (i + k)) → l ≡ map f (range i n)
  values_same i n l d e g =
      ext_get_or d l (map f (range i n)) (e ∙ sym (length_values i n))
      (λ k h. let u : k < n = omega arith in g k u ∙ sym (get_d_range i n k d u))

  -- the same value for all
  pub values_replicate : (i n : ℕ) (a : A) → ((x : ℕ) → i ≤ x → f x ≡ a) → map f (range i n) ≡ replicate n a
  values_replicate i zero a g = refl
  values_replicate i (suc n) a g = rw (g i (omega arith), values_replicate (suc i) n a (λ x l. g x (omega arith)))

-- another value for h, one of 1 to n; for 0, none
pub update_range : {A : Type 0} (f : ℕ → A) (n h : ℕ) (a : A) → h ≤ n → update (map f (range 1 n)) h a ≡ map (λ x. cond (eqb h x) a (f x)) (range 1 n)
update_range {A} f n h a u =
    values_same (λ x. cond (eqb h x) a (f x)) 1 n (update old h a) a (length_update old h a ∙ length_values f 1 n) (λ k l. go k l (compared h (1 + k)))
  where
    old : List A
    old = map f (range 1 n)

    go : (k : ℕ) → k < n → {z : Bool} → Compared h (1 + k) z → get_or (update old h a) k a ≡ cond z a (f (1 + k))
    go k l (same e) = let q : h ≡ suc k = omega arith in rw q (nth_update_same old (suc k) a a (omega arith) (omega (arith, length_values f 1 n)))
    go k l (other d) = nth_update_other old h (suc k) a a (λ e. d (omega arith)) ∙ get_d_range f 1 n k a l

pub not_member : (x : ℕ) (l : List ℕ) → (In x l → ⊥) → T (not (member x l))
not_member x l f = not_T (member x l) (λ t. f (member_in x l t))

pub member_not : (x : ℕ) (l : List ℕ) → T (not (member x l)) → In x l → ⊥
member_not x l t i = T_not (member x l) t (in_member x l i)

-- whether x stands in a list, with what the test says of it
pub data Member (x : ℕ) (l : List ℕ) : Bool → Type 0 where
  is_in : In x l → Member x l true
  not_in : (In x l → ⊥) → Member x l false

pub membered : (x : ℕ) (l : List ℕ) → Member x l (member x l)
membered x l = go (member x l) refl
  where
    go : (b : Bool) → member x l ≡ b → Member x l b
    go true e = is_in (member_in x l (true→T (member x l) e))
    go false e = not_in (member_not x l (false→not (member x l) e))

pub distinct_head : (x : ℕ) (l : List ℕ) → T (distinct (x ∷ l)) → In x l → ⊥
distinct_head x l t = member_not x l (left (not (member x l)) (distinct l) t)

pub distinct_tail : (x : ℕ) (l : List ℕ) → T (distinct (x ∷ l)) → T (distinct l)
distinct_tail x l t = right (not (member x l)) (distinct l) t

-- nothing is kept twice if nothing stands in the list twice
pub filter_distinct : (p : ℕ → Bool) (l : List ℕ) → T (distinct l) → T (distinct (filter p l))
filter_distinct p [] t = tt
filter_distinct p (x ∷ l) t = go (p x) (filter_distinct p l (distinct_tail x l t))
  where
    go : (z : Bool) → T (distinct (filter p l)) → T (distinct (cond z (x ∷ filter p l) (filter p l)))
    go true u = both (not (member x (filter p l))) (distinct (filter p l)) (not_member x (filter p l) (λ i. distinct_head x l t (filter_in p x l i).0)) u
    go false u = u

-- an element of the list stands in what is kept exactly if it passes the test ..
member_filter : (p : ℕ → Bool) (l : List ℕ) (x : ℕ) → In x l → member x (filter p l) ≡ p x
member_filter p l x i =
    tests_same (member x (filter p l)) (p x) (λ t. (filter_in p x l (member_in x (filter p l) t)).1, λ t. in_member x (filter p l) (in_filter p x l i t))

-- .. so what is kept is the list of its own elements, in the order of the list
pub filter_own : (p : ℕ → Bool) (l : List ℕ) → filter p l ≡ filter (λ x. member x (filter p l)) l
filter_own p l = filter_same p (λ x. member x (filter p l)) l (λ x i. sym (member_filter p l x i))

-- a number of 1 to n stands in the list of the marked ones exactly if it is marked
pub member_marked : (n : ℕ) (mark : ℕ → Bool) (x : ℕ) → T (within 1 n x) → member x (filter mark (range 1 n)) ≡ mark x
member_marked n mark x t = member_filter mark (range 1 n) x (bench_listed n x t)

pub range_distinct : (i n : ℕ) → T (distinct (range i n))
range_distinct i zero = tt
range_distinct i (suc n) =
    let l = range (suc i) n in
    both (not (member i l)) (distinct l) (not_member i l (λ j. let h = range_low i (suc i) n j in omega arith)) (range_distinct (suc i) n)

-- the list but for j: the others in it
pub others_in : (j : ℕ) (l : List ℕ) (i : ℕ) → In i (filter (λ k. not (eqb k j)) l) ↔ ((i ≢ j) × In i l)
others_in j l i =
    let rest : ℕ → Bool = λ k. not (eqb k j) in
    (λ m. let r = filter_in rest i l m in ((differ i j).1 r.1, r.0), λ d. in_filter rest i l d.1 ((differ i j).0 d.0))

-- .. and these are all of them where j is none ..
pub others_all : (j : ℕ) (l : List ℕ) → (In j l → ⊥) → filter (λ k. not (eqb k j)) l ≡ l
others_all j [] f = refl
others_all j (x ∷ l) f =
    rw (ne_eqb x j (λ e. f (inl (sym e)))) (ap (λ (m : List ℕ). x ∷ m) (others_all j l (λ i. f (inr i))))

-- .. and all behind the first where that alone is j
pub others_rest : (j x : ℕ) (l : List ℕ) → x ≡ j → (In j l → ⊥) → filter (λ k. not (eqb k j)) (x ∷ l) ≡ l
others_rest j x l e f = rw (eq-eqb x j e) (others_all j l f)

-- of two numbers the one that is not x is known from x
two_sum : (a c x y : ℕ) → In x (a ∷ c ∷ []) → In y (a ∷ c ∷ []) → y ≢ x → x + y ≡ a + c
two_sum a c x y (inl e) (inl f) n = omega arith
two_sum a c x y (inl e) (inr (inl f)) n = omega arith
two_sum a c x y (inl e) (inr (inr j)) n = absurd j
two_sum a c x y (inr (inl e)) (inl f) n = omega arith
two_sum a c x y (inr (inl e)) (inr (inl f)) n = omega arith
two_sum a c x y (inr (inl e)) (inr (inr j)) n = absurd j
two_sum a c x y (inr (inr i)) j n = absurd i

-- a list of at most two numbers has at most one other than x
pub one_other : (l : List ℕ) (x y z : ℕ) → T (leb (length l) 2) → In x l → In y l → In z l → y ≢ x → z ≢ x → y ≡ z
one_other [] x y z t i j k n m = absurd i
one_other (a ∷ []) x y z t (inl e) (inl f) k n m = absurd (n (f ∙ sym e))
one_other (a ∷ []) x y z t (inl e) (inr j) k n m = absurd j
one_other (a ∷ []) x y z t (inr i) j k n m = absurd i
one_other (a ∷ c ∷ []) x y z t i j k n m = omega (arith, two_sum a c x y i j n, two_sum a c x z i k m)
one_other (a ∷ c ∷ e ∷ l) x y z t i j k n m = omega (arith, T-leb (length (a ∷ c ∷ e ∷ l)) 2 t)
