-- The choice of a path: the dictionary order, the least by key, and the three orders of 01 in their own words.
use Prim.Native.Nat.{ℕ, ◌<◌}
use native.Mathlib.Omega.{arith}
use native.Mathlib.Decide.{dec_lt}
use mathlib.Core.Path.{◌≡◌, refl, sym, ap, ap₂, subst, ◌∙◌}
use mathlib.Core.Logic.Iff
use mathlib.Core.Logic.{◌⊎◌, inl, inr, ◌↔◌}
use mathlib.Core.Bool.{Bool, true, false, cond, ◌&&◌}
use mathlib.Core.List.{List, [], ◌∷◌}
use mathlib.Core.Option.{Option, none, some}
use lib.Dec.{T, eqb, ltb, ltb→lt, lt→ltb}
use lib.ListN.{length}
use Rattle.spec_lists.specs.Lists.{within, lex_le, In, empty, better, argmin}
use Rattle.spec_table.specs.Board.{Board, holder_of, load}
use Rattle.spec_sharing.specs.Paths.{Step, steps, BenchPath, end_of, last, jobs, Walk, IsPath, improves, improving_from, improving, improving_to}
use Rattle.spec_sharing.specs.Sharing.{below, arrival_key, closing_key, levelling_key, arrival_choice, closing_choice, levelling_choice, level}
use Rattle.spec_lists.proofs.Tests.{true→T, both, left, right, either, or_left, or_right, T-eqb, eqb_T}
use Rattle.spec_sharing.proofs.Paths.{step_is, jobs_of, improving_from_only, improving_only, improving_to_only}
use Rattle.spec_table.proofs.Loads.{load_heaviest}

-- the dictionary order

-- a list with a lower first number comes first
pub lex_le_lower : (x y : ℕ) (k l : List ℕ) → x < y → T (lex_le (x ∷ k) (y ∷ l))
lex_le_lower x y k l h = or_left (ltb x y) (eqb x y && lex_le k l) (lt→ltb x y h)

-- with equal first numbers the rests decide
pub lex_le_same : (x y : ℕ) (k l : List ℕ) → x ≡ y → T (lex_le k l) → T (lex_le (x ∷ k) (y ∷ l))
lex_le_same x y k l e t = or_right (ltb x y) (eqb x y && lex_le k l) (both (eqb x y) (lex_le k l) (eqb_T x y e) t)

-- and there is no other way to come first
pub lex_le_either : (x y : ℕ) (k l : List ℕ) → T (lex_le (x ∷ k) (y ∷ l)) → (x < y) ⊎ ((x ≡ y) × T (lex_le k l))
lex_le_either x y k l t = go (either (ltb x y) (eqb x y && lex_le k l) t)
  where
    go : T (ltb x y) ⊎ T (eqb x y && lex_le k l) → (x < y) ⊎ ((x ≡ y) × T (lex_le k l))
    go (inl s) = inl (ltb→lt x y s)
    go (inr s) = inr (T-eqb x y (left (eqb x y) (lex_le k l) s), right (eqb x y) (lex_le k l) s)

-- every list comes first to itself
pub lex_le_refl : (k : List ℕ) → T (lex_le k k)
lex_le_refl [] = tt
lex_le_refl (x ∷ k) = lex_le_same x x k k refl (lex_le_refl k)

-- what comes first to one that comes first to a third comes first to the third
pub lex_le_trans : (k l m : List ℕ) → T (lex_le k l) → T (lex_le l m) → T (lex_le k m)
lex_le_trans [] l m s t = tt
lex_le_trans (x ∷ k) [] m s t = absurd s
lex_le_trans (x ∷ k) (y ∷ l) [] s t = absurd t
lex_le_trans (x ∷ k) (y ∷ l) (z ∷ m) s t = go (lex_le_either x y k l s) (lex_le_either y z l m t) (lex_le_trans k l m)
  where
    go : (x < y) ⊎ ((x ≡ y) × T (lex_le k l)) → (y < z) ⊎ ((y ≡ z) × T (lex_le l m)) → (T (lex_le k l) → T (lex_le l m) → T (lex_le k m)) → T (lex_le (x ∷ k) (z ∷ m))
    go (inl h) (inl i) ih = lex_le_lower x z k m (omega arith)
    go (inl h) (inr i) ih = lex_le_lower x z k m (omega arith)
    go (inr h) (inl i) ih = lex_le_lower x z k m (omega arith)
    go (inr h) (inr i) ih = lex_le_same x z k m (omega arith) (ih h.1 i.1)

-- of two lists one comes first
pub lex_le_total : (k l : List ℕ) → T (lex_le k l) ⊎ T (lex_le l k)
lex_le_total [] l = inl tt
lex_le_total (x ∷ k) [] = inr tt
lex_le_total (x ∷ k) (y ∷ l) = go (dec_lt x y) (dec_lt y x) (lex_le_total k l)
  where
    go : Dec (x < y) → Dec (y < x) → T (lex_le k l) ⊎ T (lex_le l k) → T (lex_le (x ∷ k) (y ∷ l)) ⊎ T (lex_le (y ∷ l) (x ∷ k))
    go (yes h) d ih = inl (lex_le_lower x y k l h)
    go (no h) (yes i) ih = inr (lex_le_lower y x l k i)
    go (no h) (no i) (inl t) = inl (lex_le_same x y k l (omega arith) t)
    go (no h) (no i) (inr t) = inr (lex_le_same y x l k (omega arith) t)

-- two lists that come first to each other are equal
pub lex_le_antisym : (k l : List ℕ) → T (lex_le k l) → T (lex_le l k) → k ≡ l
lex_le_antisym [] [] s t = refl
lex_le_antisym [] (y ∷ l) s t = absurd t
lex_le_antisym (x ∷ k) [] s t = absurd s
lex_le_antisym (x ∷ k) (y ∷ l) s t = go (lex_le_either x y k l s) (lex_le_either y x l k t) (lex_le_antisym k l)
  where
    go : (x < y) ⊎ ((x ≡ y) × T (lex_le k l)) → (y < x) ⊎ ((y ≡ x) × T (lex_le l k)) → (T (lex_le k l) → T (lex_le l k) → k ≡ l) → x ∷ k ≡ y ∷ l
    go (inl h) (inl i) ih = absurd (omega arith)
    go (inl h) (inr i) ih = absurd (omega arith)
    go (inr h) (inl i) ih = absurd (omega arith)
    go (inr h) (inr i) ih = ap₂ ◌∷◌ h.0 (ih h.1 i.1)

-- the least by key

module _ {A : Type 0} (key : A → List ℕ) where
  -- what it is to be chosen: in the list, with a key that comes first; none from the empty list only
  abbrev IsArgmin : List A → Option A → Type 0
  IsArgmin l none = l ≡ []
  IsArgmin l (some a) = In a l × ((c : A) → In c l → T (lex_le (key a) (key c)))

  -- so the least is
  is_argmin : (l : List A) → IsArgmin l (argmin key l)
  is_argmin [] = refl
  is_argmin (a ∷ l) = go (argmin key l) (is_argmin l)
    where
      -- what comes first to a and to the others comes first to all
      front : (d : A) → T (lex_le (key d) (key a)) → ((c : A) → In c l → T (lex_le (key d) (key c))) → (c : A) → In c (a ∷ l) → T (lex_le (key d) (key c))
      front d t f c (inl e) = subst (λ (o : A). T (lex_le (key d) (key o))) (sym e) t
      front d t f c (inr i) = f c i

      other : (d : A) → lex_le (key a) (key d) ≡ false → T (lex_le (key a) (key d)) ⊎ T (lex_le (key d) (key a)) → T (lex_le (key d) (key a))
      other d e (inl t) = absurd (subst T e t)
      other d e (inr t) = t

      pick : (d : A) → IsArgmin l (some d) → (z : Bool) → lex_le (key a) (key d) ≡ z → IsArgmin (a ∷ l) (some (cond z a d))
      pick d r true e = (inl refl, front a (lex_le_refl (key a)) (λ c i. lex_le_trans (key a) (key d) (key c) (true→T (lex_le (key a) (key d)) e) (r.1 c i)))
      pick d r false e = (inr r.0, front d (other d e (lex_le_total (key a) (key d))) r.1)

      go : (o : Option A) → IsArgmin l o → IsArgmin (a ∷ l) (better key a o)
      go none e = (inl refl, front a (lex_le_refl (key a)) (λ c i. absurd (subst (In c) e i)))
      go (some d) r = pick d r (lex_le (key a) (key d)) refl

  -- the chosen one is in the list
  pub argmin_in : (l : List A) (a : A) → argmin key l ≡ some a → In a l
  argmin_in l a e = (subst (IsArgmin l) e (is_argmin l)).0

  -- its key comes first
  pub argmin_first : (l : List A) (a : A) → argmin key l ≡ some a → (c : A) → In c l → T (lex_le (key a) (key c))
  argmin_first l a e = (subst (IsArgmin l) e (is_argmin l)).1

  -- nothing is chosen only from nothing
  pub argmin_none : (l : List A) → argmin key l ≡ none → l ≡ []
  argmin_none l e = subst (IsArgmin l) e (is_argmin l)

  -- and from nothing nothing is chosen
  pub argmin_empty : (l : List A) → T (empty l) → argmin key l ≡ none
  argmin_empty [] t = refl
  argmin_empty (a ∷ l) t = absurd t

  -- a listed one whose key comes first, where equal keys mean equal elements, is the chosen one
  pub argmin_is : (l : List A) (a : A) → In a l → ((c : A) → In c l → T (lex_le (key a) (key c))) → ((c : A) → In c l → key c ≡ key a → c ≡ a) → argmin key l ≡ some a
  argmin_is l a i f one = go (argmin key l) (is_argmin l)
    where
      go : (o : Option A) → IsArgmin l o → o ≡ some a
      go none e = absurd (subst (In a) e i)
      go (some c) r = ap some (one c r.0 (lex_le_antisym (key c) (key a) (r.1 a i) (f c r.0)))

-- a path by its jobs and its last bench

-- two routes with the same jobs and the same end start at the same bench and are the same: a bench that a step leaves is the
-- holder of its job
route_fixed : (b : Board) (x y : ℕ) (r q : List Step) → Walk (steps b) x r → Walk (steps b) y q → jobs_of r ≡ jobs_of q → end_of x r ≡ end_of y q → (x ≡ y) × (r ≡ q)
route_fixed b x y [] [] w v e d = (d, refl)
route_fixed b x y [] (t ∷ q) w v e d = (cc, cc)
route_fixed b x y (s ∷ r) [] w v e d = (cc, cc)
route_fixed b x y (s ∷ r) (t ∷ q) w v e d =
    let f : s.job ≡ t.job = cc in
    let g : jobs_of r ≡ jobs_of q = cc in
    let h = route_fixed b s.to t.to r q w.1 v.1 g d in
    let k : s ≡ t = λ i. record { job = f i; to = h.0 i } in
    (sym (step_is b x s w.0).0 ∙ ap (holder_of b) f ∙ (step_is b y t v.0).0, ap₂ ◌∷◌ k h.1)

-- a path is fixed by its jobs and its last bench
pub path_fixed : (b : Board) (p q : BenchPath) → IsPath b p → IsPath b q → jobs p ≡ jobs q → last p ≡ last q → p ≡ q
path_fixed b p q m n e d =
    let f = route_fixed b p.start q.start p.route q.route m.walk n.walk e d in
    λ i. record { start = f.0 i; route = f.1 i }

-- so an arrival's key belongs to one path only
pub arrival_key_one : (b : Board) (p q : BenchPath) → IsPath b p → IsPath b q → arrival_key b p ≡ arrival_key b q → p ≡ q
arrival_key_one b p q m n e = path_fixed b p q m n (cc) (cc)

-- a closing's key to one path to a bench
pub closing_key_one : (b : Board) (p q : BenchPath) → IsPath b p → IsPath b q → last p ≡ last q → closing_key b p ≡ closing_key b q → p ≡ q
closing_key_one b p q m n f e = path_fixed b p q m n (cc) f

-- and levelling's key to one path
pub levelling_key_one : (b : Board) (p q : BenchPath) → IsPath b p → IsPath b q → levelling_key b p ≡ levelling_key b q → p ≡ q
levelling_key_one b p q m n e = path_fixed b p q m n (cc) (cc)

-- the orders in words

-- the first numbers decide, and if they are equal the rests
pub decided : {A E B : Type 0} (x y : ℕ) (k l : List ℕ) → ((x < y) ↔ A) → ((x ≡ y) ↔ E) → (T (lex_le k l) ↔ B) → T (lex_le (x ∷ k) (y ∷ l)) ↔ (A ⊎ (E × B))
decided {A} {E} {B} x y k l f g h = (λ t. there (lex_le_either x y k l t), back)
  where
    there : (x < y) ⊎ ((x ≡ y) × T (lex_le k l)) → A ⊎ (E × B)
    there (inl i) = inl (f.0 i)
    there (inr i) = inr (g.0 i.0, h.0 i.1)

    back : A ⊎ (E × B) → T (lex_le (x ∷ k) (y ∷ l))
    back (inl a) = lex_le_lower x y k l (f.1 a)
    back (inr c) = lex_le_same x y k l (g.1 c.0) (h.1 c.1)

-- "lowest last load, then fewest jobs, then lowest last bench, then the list of job numbers that is first in dictionary order"
abbrev pub ArrivalFirst : Board → BenchPath → BenchPath → Type 0
ArrivalFirst b p q =
    (load b.holders (last p) < load b.holders (last q)) ⊎
    ((load b.holders (last p) ≡ load b.holders (last q)) ×
    ((length p.route < length q.route) ⊎
    ((length p.route ≡ length q.route) ×
    ((last p < last q) ⊎ ((last p ≡ last q) × T (lex_le (jobs p) (jobs q)))))))

-- "greatest first load, then fewest jobs, lowest first bench, first list"
abbrev pub ClosingFirst : Board → BenchPath → BenchPath → Type 0
ClosingFirst b p q =
    (load b.holders q.start < load b.holders p.start) ⊎
    ((load b.holders p.start ≡ load b.holders q.start) ×
    ((length p.route < length q.route) ⊎
    ((length p.route ≡ length q.route) ×
    ((p.start < q.start) ⊎ ((p.start ≡ q.start) × T (lex_le (jobs p) (jobs q)))))))

-- "first bench of greatest load among those that start one, then lowest number, then the arrival's order"
abbrev pub LevellingFirst : Board → BenchPath → BenchPath → Type 0
LevellingFirst b p q =
    (load b.holders q.start < load b.holders p.start) ⊎
    ((load b.holders p.start ≡ load b.holders q.start) ×
    ((p.start < q.start) ⊎ ((p.start ≡ q.start) × ArrivalFirst b p q)))

-- the arrival's key says those words
pub arrival_first : (b : Board) (p q : BenchPath) → T (lex_le (arrival_key b p) (arrival_key b q)) ↔ ArrivalFirst b p q
arrival_first b p q =
    decided (load b.holders (last p)) (load b.holders (last q)) (length p.route ∷ last p ∷ jobs p) (length q.route ∷ last q ∷ jobs q) Iff.rfl Iff.rfl
    (decided (length p.route) (length q.route) (last p ∷ jobs p) (last q ∷ jobs q) Iff.rfl Iff.rfl
    (decided (last p) (last q) (jobs p) (jobs q) Iff.rfl Iff.rfl Iff.rfl))

-- so does the closing's, for first benches of 1 to B
pub closing_first : (b : Board) (p q : BenchPath) → T (within 1 b.benches p.start) → T (within 1 b.benches q.start) → T (lex_le (closing_key b p) (closing_key b q)) ↔ ClosingFirst b p q
closing_first b p q s t =
    let u = load_heaviest b p.start s in
    let v = load_heaviest b q.start t in
    decided (below b p.start) (below b q.start) (length p.route ∷ p.start ∷ jobs p) (length q.route ∷ q.start ∷ jobs q) (omega arith) (omega arith)
    (decided (length p.route) (length q.route) (p.start ∷ jobs p) (q.start ∷ jobs q) Iff.rfl Iff.rfl
    (decided p.start q.start (jobs p) (jobs q) Iff.rfl Iff.rfl Iff.rfl))

-- and levelling's
pub levelling_first : (b : Board) (p q : BenchPath) → T (within 1 b.benches p.start) → T (within 1 b.benches q.start) → T (lex_le (levelling_key b p) (levelling_key b q)) ↔ LevellingFirst b p q
levelling_first b p q s t =
    let u = load_heaviest b p.start s in
    let v = load_heaviest b q.start t in
    decided (below b p.start) (below b q.start) (p.start ∷ arrival_key b p) (q.start ∷ arrival_key b q) (omega arith) (omega arith)
    (decided p.start q.start (arrival_key b p) (arrival_key b q) Iff.rfl Iff.rfl (arrival_first b p q))

-- the choices

-- of the listed paths p is the one that the order puts first
pub record First (listed : List BenchPath) (Precedes : BenchPath → BenchPath → Type 0) (p : BenchPath) : Type 0 where
  pub listed_is : In p listed
  pub before : (q : BenchPath) → In q listed → Precedes p q

-- what the least by a key is, where the key says what the order says and belongs to one listed path only
argmin_choice : (key : BenchPath → List ℕ) (listed : List BenchPath) (Precedes : BenchPath → BenchPath → Type 0) → ((p q : BenchPath) → In p listed → In q listed → T (lex_le (key p) (key q)) ↔ Precedes p q) → ((p q : BenchPath) → In p listed → In q listed → key p ≡ key q → p ≡ q) → (p : BenchPath) → (argmin key listed ≡ some p) ↔ First listed Precedes p
argmin_choice key listed Precedes words one p = (there, back)
  where
    there : argmin key listed ≡ some p → First listed Precedes p
    there e =
        let i = argmin_in key listed p e in
        record { listed_is = i; before = λ q j. (words p q i j).0 (argmin_first key listed p e q j) }

    back : First listed Precedes p → argmin key listed ≡ some p
    back f =
        let i = f.listed_is in
        argmin_is key listed p i (λ q j. (words p q i j).1 (f.before q j)) (λ q j e. one q p j i e)

-- an arrival chooses p exactly if p improves from its bench and comes first among those that do
pub arrival_choice_lem : (b : Board) (x : ℕ) (p : BenchPath) → (arrival_choice b x ≡ some p) ↔ First (improving_from b x) (ArrivalFirst b) p
unfolding arrival_choice
arrival_choice_lem b x p =
    argmin_choice (arrival_key b) (improving_from b x) (ArrivalFirst b) (λ p q i j. arrival_first b p q)
    (λ p q i j e. arrival_key_one b p q (improving_from_only b x p i).0 (improving_from_only b x q j).0 e)
    p

-- a closing chooses p exactly if p improves, ends at its bench and comes first among those that do
pub closing_choice_lem : (b : Board) (x : ℕ) (p : BenchPath) → (closing_choice b x ≡ some p) ↔ First (improving_to b x) (ClosingFirst b) p
unfolding closing_choice
closing_choice_lem b x p =
    argmin_choice (closing_key b) (improving_to b x) (ClosingFirst b)
    (λ p q i j. closing_first b p q (improving_to_only b x p i).1 (improving_to_only b x q j).1)
    (λ p q i j e. closing_key_one b p q (improving_to_only b x p i).0 (improving_to_only b x q j).0 ((improving_to_only b x p i).2 ∙ sym (improving_to_only b x q j).2) e)
    p

-- levelling chooses p exactly if p improves and comes first among those that do
pub levelling_choice_lem : (b : Board) (p : BenchPath) → (levelling_choice b ≡ some p) ↔ First (improving b) (LevellingFirst b) p
unfolding levelling_choice
levelling_choice_lem b p =
    argmin_choice (levelling_key b) (improving b) (LevellingFirst b)
    (λ p q i j. levelling_first b p q (improving_only b p i).1 (improving_only b q j).1)
    (λ p q i j e. levelling_key_one b p q (improving_only b p i).0 (improving_only b q j).0 e)
    p

-- an arrival chooses none only where no improving path starts at its bench
pub arrival_none : (b : Board) (x : ℕ) → arrival_choice b x ≡ none → improving_from b x ≡ []
unfolding arrival_choice
arrival_none b x = argmin_none (arrival_key b) (improving_from b x)

-- a closing only where none ends at its bench
pub closing_none : (b : Board) (x : ℕ) → closing_choice b x ≡ none → improving_to b x ≡ []
unfolding closing_choice
closing_none b x = argmin_none (closing_key b) (improving_to b x)

-- and levelling only where there is none
pub levelling_none : (b : Board) → levelling_choice b ≡ none → improving b ≡ []
unfolding levelling_choice
levelling_none b = argmin_none (levelling_key b) (improving b)

-- the path that levelling flips improves
pub choice_improves : (b : Board) (p : BenchPath) → levelling_choice b ≡ some p → IsPath b p × T (improves b p)
choice_improves b p e = let h = improving_only b p ((levelling_choice_lem b p).0 e).listed_is in (h.0, h.2)

-- where it flips none the board is level ..
pub choice_level : (b : Board) → levelling_choice b ≡ none → T (level b)
unfolding level
choice_level b e = rw (levelling_none b e) tt

-- .. and on a level board it flips none
pub level_choice : (b : Board) → T (level b) → levelling_choice b ≡ none
unfolding level levelling_choice
level_choice b l = argmin_empty (levelling_key b) (improving b) l
