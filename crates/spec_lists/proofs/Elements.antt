-- Elements of lists: filtered, mapped, at their places.
use Prim.Native.Nat.{ℕ, zero, suc, ◌+◌, ◌≤◌, ◌<◌}
use native.Mathlib.Omega.{arith}
use mathlib.Core.Path.{◌≡◌, refl, sym, ap, subst, ◌∙◌}
use mathlib.Core.Logic.{◌⊎◌, inl, inr, ◌≢◌}
use mathlib.Core.Bool.{Bool, true, false, cond, not}
use mathlib.Core.List.{List, [], ◌∷◌, ◌++◌, map, flat_map}
use lib.Dec.{T}
use lib.ListN.{length, get_or, set, take, drop, replicate, length-set, get_or-map}
use lib.Seq.{get_or-set_same, get_or-set_other, set-set, set-get_or}
use Rattle.spec_lists.specs.Lists.{filter, all, Each, In, empty, nth, update, enumerate}
use Rattle.spec_lists.proofs.Tests.{true→T, both, left, right}

-- elements

module _ {A : Type 0} where
  pub in_left : (a : A) (l m : List A) → In a l → In a (l ++ m)
  in_left a [] m i = absurd i
  in_left a (x ∷ l) m (inl e) = inl e
  in_left a (x ∷ l) m (inr i) = inr (in_left a l m i)

  pub in_right : (a : A) (l m : List A) → In a m → In a (l ++ m)
  in_right a [] m i = i
  in_right a (x ∷ l) m i = inr (in_right a l m i)

  pub in_either : (a : A) (l m : List A) → In a (l ++ m) → In a l ⊎ In a m
  in_either a [] m i = inr i
  in_either a (x ∷ l) m (inl e) = inl (inl e)
  in_either a (x ∷ l) m (inr i) = next (in_either a l m i)
    where
      next : In a l ⊎ In a m → In a (x ∷ l) ⊎ In a m
      next (inl j) = inl (inr j)
      next (inr j) = inr j

  pub in_filter : (p : A → Bool) (a : A) (l : List A) → In a l → T (p a) → In a (filter p l)
  in_filter p a [] i t = absurd i
  in_filter p a (x ∷ l) i t = go (p x) refl (λ j. in_filter p a l j t) i
    where
      go : (z : Bool) → p x ≡ z → (In a l → In a (filter p l)) → In a (x ∷ l) → In a (cond z (x ∷ filter p l) (filter p l))
      go true e ih (inl d) = inl d
      go true e ih (inr j) = inr (ih j)
      go false e ih (inl d) = absurd (subst T e (subst (λ (y : A). T (p y)) d t))
      go false e ih (inr j) = ih j

  pub filter_in : (p : A → Bool) (a : A) (l : List A) → In a (filter p l) → In a l × T (p a)
  filter_in p a [] i = absurd i
  filter_in p a (x ∷ l) i = go (p x) refl (λ j. filter_in p a l j) i
    where
      later : In a l × T (p a) → In a (x ∷ l) × T (p a)
      later r = (inr r.0, r.1)

      go : (z : Bool) → p x ≡ z → (In a (filter p l) → In a l × T (p a)) → In a (cond z (x ∷ filter p l) (filter p l)) → In a (x ∷ l) × T (p a)
      go true e ih (inl d) = (inl d, subst (λ (y : A). T (p y)) (sym d) (true→T (p x) e))
      go true e ih (inr j) = later (ih j)
      go false e ih j = later (ih j)

  -- tests that say the same of every element keep the same
  pub filter_same : (p q : A → Bool) (l : List A) → ((a : A) → In a l → p a ≡ q a) → filter p l ≡ filter q l
  filter_same p q [] f = refl
  filter_same p q (x ∷ l) f =
      let e = f x (inl refl) in
      let r = filter_same p q l (λ a i. f a (inr i)) in
      rw (e, r) refl

  pub all_in : (p : A → Bool) (a : A) (l : List A) → T (all p l) → In a l → T (p a)
  all_in p a [] t i = absurd i
  all_in p a (x ∷ l) t (inl e) = subst (λ (y : A). T (p y)) (sym e) (left (p x) (all p l) t)
  all_in p a (x ∷ l) t (inr i) = all_in p a l (right (p x) (all p l) t) i

  pub in_all : (p : A → Bool) (l : List A) → ((a : A) → In a l → T (p a)) → T (all p l)
  in_all p [] f = tt
  in_all p (x ∷ l) f = both (p x) (all p l) (f x (inl refl)) (in_all p l (λ a i. f a (inr i)))

  pub each_in : (P : A → Type 0) (a : A) (l : List A) → Each P l → In a l → P a
  each_in P a [] e i = absurd i
  each_in P a (x ∷ l) e (inl d) = subst P (sym d) e.0
  each_in P a (x ∷ l) e (inr i) = each_in P a l e.1 i

  pub in_each : (P : A → Type 0) (l : List A) → ((a : A) → In a l → P a) → Each P l
  in_each P [] f = tt
  in_each P (x ∷ l) f = (f x (inl refl), in_each P l (λ a i. f a (inr i)))

  -- an empty list has no element, and a list without elements is empty
  pub empty_in : (a : A) (l : List A) → T (empty l) → In a l → ⊥
  empty_in a [] t i = i
  empty_in a (x ∷ l) t i = t

  pub in_empty : (l : List A) → ((a : A) → In a l → ⊥) → T (empty l)
  in_empty [] f = tt
  in_empty (x ∷ l) f = f x (inl refl)

  -- a list other than [] passes the test "not empty", and one that does not pass is []
  pub not_empty : (l : List A) → l ≢ [] → T (not (empty l))
  not_empty [] d = absurd (d refl)
  not_empty (x ∷ l) d = tt

  pub is_empty : (l : List A) → T (not (not (empty l))) → l ≡ []
  is_empty [] t = refl
  is_empty (x ∷ l) t = absurd t

  -- a list that is not empty has an element
  pub some_in : (l : List A) → T (not (empty l)) → (a : A) × In a l
  some_in [] t = absurd t
  some_in (x ∷ l) t = (x, inl refl)

  pub each_append : (P : A → Type 0) (k l : List A) → Each P k → Each P l → Each P (k ++ l)
  each_append P [] l p q = q
  each_append P (x ∷ k) l p q = (p.0, each_append P k l p.1 q)

  pub each_replicate : (P : A → Type 0) (n : ℕ) (a : A) → P a → Each P (replicate n a)
  each_replicate P zero a p = tt
  each_replicate P (suc n) a p = (p, each_replicate P n a p)

  -- what every element has, the first n have ..
  pub each_take : (P : A → Type 0) (n : ℕ) (l : List A) → Each P l → Each P (take n l)
  each_take P zero l e = tt
  each_take P (suc n) [] e = tt
  each_take P (suc n) (x ∷ l) e = (e.0, each_take P n l e.1)

  -- .. and the others
  pub each_drop : (P : A → Type 0) (n : ℕ) (l : List A) → Each P l → Each P (drop n l)
  each_drop P zero l e = e
  each_drop P (suc n) [] e = tt
  each_drop P (suc n) (x ∷ l) e = each_drop P n l e.1

  pub each_get_d : (P : A → Type 0) (l : List A) (i : ℕ) (d : A) → P d → Each P l → P (get_or l i d)
  each_get_d P [] i d p e = p
  each_get_d P (x ∷ l) zero d p e = e.0
  each_get_d P (x ∷ l) (suc i) d p e = each_get_d P l i d p e.1

  pub each_nth : (P : A → Type 0) (l : List A) (j : ℕ) (d : A) → P d → Each P l → P (nth l j d)
  each_nth P l zero d p e = p
  each_nth P l (suc i) d p e = each_get_d P l i d p e

  -- a list of two elements
  pub two_elements : (l : List A) → length l ≡ 2 → (a : A) × (b : A) × (l ≡ a ∷ b ∷ [])
  two_elements [] e = absurd (omega arith)
  two_elements (a ∷ []) e = absurd (omega arith)
  two_elements (a ∷ b ∷ []) e = (a, b, refl)
  two_elements (a ∷ b ∷ c ∷ l) e = absurd (omega arith)

  pub in_get_d : (l : List A) (i : ℕ) (d : A) → i < length l → In (get_or l i d) l
  in_get_d [] i d h = absurd (omega arith)
  in_get_d (x ∷ l) zero d h = inl refl
  in_get_d (x ∷ l) (suc i) d h = inr (in_get_d l i d (omega arith))

  pub in_nth : (l : List A) (j : ℕ) (d : A) → 1 ≤ j → j ≤ length l → In (nth l j d) l
  in_nth l zero d h u = absurd (omega arith)
  in_nth l (suc i) d h u = in_get_d l i d u

  -- where an element stands that is not the one for no place, there is a place
  pub nth_within : (l : List A) (j : ℕ) (d : A) → nth l j d ≢ d → (1 ≤ j) × (j ≤ length l)
  nth_within l zero d n = absurd (n refl)
  nth_within [] (suc i) d n = absurd (n refl)
  nth_within (x ∷ l) (suc zero) d n = omega arith
  nth_within (x ∷ l) (suc (suc i)) d n = omega (arith, nth_within l (suc i) d n)

  -- what is written at a place stands there, and nothing else changes
  pub nth_update_same : (l : List A) (j : ℕ) (a d : A) → 1 ≤ j → j ≤ length l → nth (update l j a) j d ≡ a
  nth_update_same l zero a d h u = absurd (omega arith)
  nth_update_same l (suc i) a d h u = get_or-set_same l i a d u

  pub nth_update_other : (l : List A) (j i : ℕ) (a d : A) → i ≢ j → nth (update l j a) i d ≡ nth l i d
  nth_update_other l zero i a d n = refl
  nth_update_other l (suc j) zero a d n = refl
  nth_update_other l (suc j) (suc i) a d n = get_or-set_other l j i a d (λ e. n (ap suc e))

  pub length_update : (l : List A) (j : ℕ) (a : A) → length (update l j a) ≡ length l
  length_update l zero a = refl
  length_update l (suc i) a = length-set l i a

  -- of two writings at one place the later stays ..
  pub update_again : (l : List A) (j : ℕ) (a b : A) → update (update l j a) j b ≡ update l j b
  update_again l zero a b = refl
  update_again l (suc i) a b = set-set l i a b

  -- .. writing what stands there changes nothing ..
  pub update_same : (l : List A) (j : ℕ) (d : A) → update l j (nth l j d) ≡ l
  update_same l zero d = refl
  update_same l (suc i) d = set-get_or l i d

  -- .. so writing back what stood there undoes a writing
  pub update_back : (l : List A) (j : ℕ) (a d : A) → update (update l j a) j (nth l j d) ≡ l
  update_back l j a d = update_again l j a (nth l j d) ∙ update_same l j d

  each_set : (P : A → Type 0) (l : List A) (i : ℕ) (a : A) → P a → Each P l → Each P (set l i a)
  each_set P [] i a p e = tt
  each_set P (x ∷ l) zero a p e = (p, e.1)
  each_set P (x ∷ l) (suc i) a p e = (e.0, each_set P l i a p e.1)

  -- what is written has the property that every element has
  pub each_update : (P : A → Type 0) (l : List A) (j : ℕ) (a : A) → P a → Each P l → Each P (update l j a)
  each_update P l zero a p e = e
  each_update P l (suc i) a p e = each_set P l i a p e

  -- an element stands in the numbered list under some number
  pub in_enumerate : (n : ℕ) (a : A) (l : List A) → In a l → (i : ℕ) × In (i, a) (enumerate n l)
  in_enumerate n a [] i = absurd i
  in_enumerate n a (x ∷ l) (inl e) = (n, inl (λ k. (n, e k)))
  in_enumerate n a (x ∷ l) (inr i) = let r = in_enumerate (suc n) a l i in (r.0, inr r.1)

  -- the element at a place stands in the numbered list under its own number
  pub in_enumerate_at : (n i : ℕ) (l : List A) (d : A) → i < length l → In (n + i, get_or l i d) (enumerate n l)
  in_enumerate_at n i [] d h = absurd (omega arith)
  in_enumerate_at n zero (x ∷ l) d h = let e : n + 0 ≡ n = omega arith in inl (λ k. (e k, x))
  in_enumerate_at n (suc i) (x ∷ l) d h =
      let e : suc n + i ≡ n + suc i = omega arith in
      inr (subst (λ (j : ℕ). In (j, get_or l i d) (enumerate (suc n) l)) e (in_enumerate_at (suc n) i l d (omega arith)))

  -- counted from 1, where the place is one too
  pub in_enumerate_nth : (j : ℕ) (l : List A) (d : A) → 1 ≤ j → j ≤ length l → In (j, nth l j d) (enumerate 1 l)
  in_enumerate_nth zero l d h u = absurd (omega arith)
  in_enumerate_nth (suc i) l d h u =
      let e : 1 + i ≡ suc i = omega arith in
      subst (λ (j : ℕ). In (j, get_or l i d) (enumerate 1 l)) e (in_enumerate_at 1 i l d (omega arith))

  -- what stands in the numbered list is the element at its number
  enumerate_at : (n : ℕ) (s : ℕ × A) (l : List A) (d : A) → In s (enumerate n l) → (i : ℕ) × (i < length l) × (s.0 ≡ n + i) × (s.1 ≡ get_or l i d)
  enumerate_at n s [] d m = absurd m
  enumerate_at n s (x ∷ l) d (inl e) = (0, omega arith, omega (arith, ap (λ (s : ℕ × A). s.0) e), ap (λ (s : ℕ × A). s.1) e)
  enumerate_at n s (x ∷ l) d (inr m) =
      let r = enumerate_at (suc n) s l d m in
      (suc r.0, omega (arith, r.1), omega (arith, r.2), r.3)

  -- counted from 1
  pub enumerate_nth : (s : ℕ × A) (l : List A) (d : A) → In s (enumerate 1 l) → (1 ≤ s.0) × (s.0 ≤ length l) × (s.1 ≡ nth l s.0 d)
  enumerate_nth s l d m =
      let r = enumerate_at 1 s l d m in
      let e : suc r.0 ≡ s.0 = omega (arith, r.2) in
      (omega arith, omega (arith, r.1), r.3 ∙ ap (λ (j : ℕ). nth l j d) e)

  pub length_filter : (p : A → Bool) (l : List A) → length (filter p l) ≤ length l
  length_filter p [] = omega arith
  length_filter p (x ∷ l) = go (p x) (length_filter p l)
    where
      go : (z : Bool) → length (filter p l) ≤ length l → length (cond z (x ∷ filter p l) (filter p l)) ≤ suc (length l)
      go true ih = omega arith
      go false ih = omega arith

module _ {A B : Type 0} where
  pub in_map : (f : A → B) (a : A) (l : List A) → In a l → In (f a) (map f l)
  in_map f a [] i = absurd i
  in_map f a (x ∷ l) (inl e) = inl (ap f e)
  in_map f a (x ∷ l) (inr i) = inr (in_map f a l i)

  pub map_in : (f : A → B) (b : B) (l : List A) → In b (map f l) → (a : A) × In a l × (b ≡ f a)
  map_in f b [] i = absurd i
  map_in f b (x ∷ l) (inl e) = (x, inl refl, e)
  map_in f b (x ∷ l) (inr i) = let r = map_in f b l i in (r.0, inr r.1, r.2)

  pub each_map : (P : B → Type 0) (f : A → B) (l : List A) → ((a : A) → In a l → P (f a)) → Each P (map f l)
  each_map P f [] g = tt
  each_map P f (x ∷ l) g = (g x (inl refl), each_map P f l (λ a i. g a (inr i)))

  pub nth_map : (f : A → B) (l : List A) (j : ℕ) (d : A) → nth (map f l) j (f d) ≡ f (nth l j d)
  nth_map f l zero d = refl
  nth_map f l (suc i) d = get_or-map f l i d

  map_set : (f : A → B) (l : List A) (i : ℕ) (a : A) → map f (set l i a) ≡ set (map f l) i (f a)
  map_set f [] i a = refl
  map_set f (x ∷ l) zero a = refl
  map_set f (x ∷ l) (suc i) a = ap (λ (m : List B). f x ∷ m) (map_set f l i a)

  -- a changed list's values are the values, changed there
  pub map_update : (f : A → B) (l : List A) (j : ℕ) (a : A) → map f (update l j a) ≡ update (map f l) j (f a)
  map_update f l zero a = refl
  map_update f l (suc i) a = map_set f l i a

  pub in_flat_map : (f : A → List B) (b : B) (a : A) (l : List A) → In a l → In b (f a) → In b (flat_map f l)
  unfolding flat_map
  in_flat_map f b a [] i j = absurd i
  in_flat_map f b a (x ∷ l) (inl e) j = in_left b (f x) (flat_map f l) (subst (λ (y : A). In b (f y)) e j)
  in_flat_map f b a (x ∷ l) (inr i) j = in_right b (f x) (flat_map f l) (in_flat_map f b a l i j)

  pub flat_map_in : (f : A → List B) (b : B) (l : List A) → In b (flat_map f l) → (a : A) × In a l × In b (f a)
  unfolding flat_map
  flat_map_in f b [] i = absurd i
  flat_map_in f b (x ∷ l) i = go (λ j. flat_map_in f b l j) (in_either b (f x) (flat_map f l) i)
    where
      go : (In b (flat_map f l) → (a : A) × In a l × In b (f a)) → In b (f x) ⊎ In b (flat_map f l) → (a : A) × In a (x ∷ l) × In b (f a)
      go ih (inl j) = (x, inl refl, j)
      go ih (inr j) = let r = ih j in (r.0, inr r.1, r.2)
