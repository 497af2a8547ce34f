-- The closure that tight sets are: which benches are in it, in which order, and what it proves.
use Prim.Native.Nat.{ℕ, zero, suc, ◌+◌, ◌≤◌, ◌<◌}
use native.Mathlib.Omega.{arith}
use mathlib.Core.Path.{◌≡◌, refl, sym, ap, subst, ◌∙◌}
use mathlib.Core.Logic.{◌⊎◌, inl, inr, ◌↔◌}
use mathlib.Core.Bool.{Bool, true, false, cond, ◌||◌}
use mathlib.Core.List.{List, [], ◌∷◌, flat_map}
use lib.Dec.{T, eqb, leb}
use lib.ListN.{length}
use borrow.Author.Tests.{eqb-true, eqb-false}
use Rattle.spec_lists.specs.Lists.{within, member, distinct, range, filter, In}
use Rattle.spec_table.specs.Board.{Board, Valid, load}
use Rattle.spec_sharing.specs.Paths.{Step, BenchPath, steps, last, IsPath}
use Rattle.spec_sharing.specs.Sharing.{closure_round, closure, tight_set, inside}
use Rattle.spec_sharing.specs.Searches.{Reach}
use Rattle.spec_lists.proofs.Tests.{either, or_left, or_right, tests_same, T-leb, leb_T}
use Rattle.spec_lists.proofs.Elements.{in_filter, filter_in, filter_same, length_filter, in_map, map_in, in_flat_map, flat_map_in}
use Rattle.spec_lists.proofs.NumberLists.{member_in, in_member, bench_listed, listed_bench, length_range, filter_distinct, filter_own, range_distinct}
use Rattle.spec_sharing.proofs.Paths.{step_bench, benches_of}
use Rattle.spec_sharing.proofs.Walks.{reach_here, reach_more, reach_all, reach_path}
use Rattle.spec_sharing.proofs.Certificate.{Proves, held_in, closed_inside}

-- the benches that those which pass the test bring in, themselves among them
abbrev pub closure_of : Board → (ℕ → Bool) → List ℕ
closure_of b p = closure b b.benches (filter p (range 1 b.benches))

module _ {A : Type 0} (p q : A → Bool) where
  -- a test that passes more keeps more ..
  filter_more : (l : List A) → ((a : A) → In a l → T (p a) → T (q a)) → length (filter p l) ≤ length (filter q l)
  filter_more [] f = omega arith
  filter_more (x ∷ l) f = go (p x) (q x) (f x (inl refl)) (filter_more l (λ a i. f a (inr i)))
    where
      go : (y z : Bool) → (T y → T z) → length (filter p l) ≤ length (filter q l) → length (cond y (x ∷ filter p l) (filter p l)) ≤ length (cond z (x ∷ filter q l) (filter q l))
      go true true g h = omega arith
      go true false g h = absurd (g tt)
      go false true g h = omega arith
      go false false g h = h

  -- .. and if it keeps as many, it passes the same
  filter_back : (l : List A) → ((a : A) → In a l → T (p a) → T (q a)) → length (filter q l) ≤ length (filter p l) → (a : A) → In a l → T (q a) → T (p a)
  filter_back [] f h a i t = absurd i
  filter_back (x ∷ l) f h a i t = rest (go (p x) (q x) (f x (inl refl)) h) (λ k j. filter_back l (λ c m. f c (inr m)) k a j t) i
    where
      more : length (filter p l) ≤ length (filter q l)
      more = filter_more l (λ c m. f c (inr m))

      go : (y z : Bool) → (T y → T z) → length (cond z (x ∷ filter q l) (filter q l)) ≤ length (cond y (x ∷ filter p l) (filter p l)) → (T z → T y) × (length (filter q l) ≤ length (filter p l))
      go true true g k = (λ u. tt, omega arith)
      go true false g k = absurd (g tt)
      go false true g k = absurd (omega (arith, more))
      go false false g k = (λ u. u, k)

      rest : (T (q x) → T (p x)) × (length (filter q l) ≤ length (filter p l)) → (length (filter q l) ≤ length (filter p l) → In a l → T (p a)) → In a (x ∷ l) → T (p a)
      rest r ih (inl e) = subst (λ (c : A). T (p c)) (sym e) (r.0 (subst (λ (c : A). T (q c)) e t))
      rest r ih (inr j) = ih r.1 j

module _ (b : Board) where
  -- bench y is in the set, or a step from a bench of the set leads to it
  abbrev BringsIn : List ℕ → ℕ → Type 0
  BringsIn set y = In y set ⊎ ((z : ℕ) × (s : Step) × In z set × In s (steps b z) × (y ≡ s.to))

  -- the test of a round
  abbrev comes : List ℕ → ℕ → Bool
  comes set y = member y set || member y (benches_of (flat_map (steps b) set))

  comes_brings_in : (set : List ℕ) (y : ℕ) → T (comes set y) → BringsIn set y
  comes_brings_in set y t = go (either (member y set) (member y (benches_of ways)) t)
    where
      ways : List Step
      ways = flat_map (steps b) set

      go : T (member y set) ⊎ T (member y (benches_of ways)) → BringsIn set y
      go (inl u) = inl (member_in y set u)
      go (inr u) =
          let m = map_in (λ (s : Step). s.to) y ways (member_in y (benches_of ways) u) in
          let f = flat_map_in (steps b) m.0 set m.1 in
          inr (f.0, m.0, f.1, f.2, m.2)

  brings_in_comes : (set : List ℕ) (y : ℕ) → BringsIn set y → T (comes set y)
  brings_in_comes set y (inl i) = or_left (member y set) (member y (benches_of (flat_map (steps b) set))) (in_member y set i)
  brings_in_comes set y (inr (z, s, i, j, e)) =
      let ways = flat_map (steps b) set in
      or_right (member y set) (member y (benches_of ways)) (in_member y (benches_of ways) (rw e (in_map (λ (s : Step). s.to) s ways (in_flat_map (steps b) s z set i j))))

  -- a round brings in what it is to bring in
  round_in : (set : List ℕ) (y : ℕ) → In y (closure_round b set) → BringsIn set y
  unfolding closure_round
  round_in set y i = comes_brings_in set y (filter_in (comes set) y (range 1 b.benches) i).1

  in_round : (set : List ℕ) (y : ℕ) → T (within 1 b.benches y) → BringsIn set y → In y (closure_round b set)
  unfolding closure_round
  in_round set y t r = in_filter (comes set) y (range 1 b.benches) (bench_listed b.benches y t) (brings_in_comes set y r)

  -- what a round keeps up holds of the last set if it holds of the first
  closure_keeps : (Q : List ℕ → Type 0) → ((set : List ℕ) → Q set → Q (closure_round b set)) → (k : ℕ) (set : List ℕ) → Q set → Q (closure b k set)
  closure_keeps Q next zero set q = q
  closure_keeps Q next (suc k) set q = go (eqb (length (closure_round b set)) (length set)) (closure_keeps Q next k (closure_round b set) (next set q))
    where
      go : (z : Bool) → Q (closure b k (closure_round b set)) → Q (cond z set (closure b k (closure_round b set)))
      go true r = q
      go false r = r

  -- no step leads out of the set
  abbrev Closed : List ℕ → Type 0
  Closed set = (z : ℕ) (s : Step) → In z set → In s (steps b z) → In s.to set

  -- the benches of 1 to B that pass the test
  abbrev kept : (ℕ → Bool) → List ℕ
  kept q = filter q (range 1 b.benches)

  -- a bench that passes comes in
  passes_comes : (q : ℕ → Bool) (y : ℕ) → In y (range 1 b.benches) → T (q y) → T (comes (kept q) y)
  passes_comes q y i t = brings_in_comes (kept q) y (inl (in_filter q y (range 1 b.benches) i t))

  round_more : (q : ℕ → Bool) → length (kept q) ≤ length (closure_round b (kept q))
  unfolding closure_round
  round_more q = filter_more q (comes (kept q)) (range 1 b.benches) (passes_comes q)

  round_most : (set : List ℕ) → length (closure_round b set) ≤ b.benches
  unfolding closure_round
  round_most set = omega (arith, length_filter (comes set) (range 1 b.benches), length_range 1 b.benches)

  -- a set that a round does not make longer is closed ..
  full_closed : Valid b → (q : ℕ → Bool) → length (closure_round b (kept q)) ≤ length (kept q) → Closed (kept q)
  unfolding closure_round
  full_closed v q h z s i j =
      let l = bench_listed b.benches s.to (step_bench b v z s j) in
      let t = brings_in_comes (kept q) s.to (inr (z, s, i, j, refl)) in
      in_filter q s.to (range 1 b.benches) l (filter_back q (comes (kept q)) (range 1 b.benches) (passes_comes q) h s.to l t)

  -- .. and before the fuel is used up there is such a set, as each round before made it longer
  closure_closed : Valid b → (k : ℕ) (q : ℕ → Bool) → b.benches ≤ k + length (kept q) → Closed (closure b k (kept q))
  unfolding closure_round
  closure_closed v zero q h = full_closed v q (omega (arith, round_most (kept q)))
  closure_closed v (suc k) q h = go (eqb (length wider) (length (kept q))) refl (λ l. closure_closed v k (comes (kept q)) l)
    where
      wider : List ℕ
      wider = closure_round b (kept q)

      go : (z : Bool) → eqb (length wider) (length (kept q)) ≡ z → (b.benches ≤ k + length wider → Closed (closure b k wider)) → Closed (cond z (kept q) (closure b k wider))
      go true e ih = full_closed v q (omega (arith, eqb-true (length wider) (length (kept q)) e))
      go false e ih = ih (omega (arith, round_more q, eqb-false (length wider) (length (kept q)) e))

module _ (b : Board) (p : ℕ → Bool) where
  -- they are listed in rising order ..
  closure_rising : closure_of b p ≡ filter (λ x. member x (closure_of b p)) (range 1 b.benches)
  unfolding closure_round
  closure_rising =
      let list = range 1 b.benches in
      closure_keeps b (λ set. set ≡ filter (λ x. member x set) list) (λ set e. filter_own (comes b set) list) b.benches (kept b p) (filter_own p list)

  -- .. so each is one of 1 to B ..
  pub closure_bench : (y : ℕ) → In y (closure_of b p) → T (within 1 b.benches y)
  closure_bench y i =
      listed_bench b.benches y (filter_in (λ x. member x (closure_of b p)) y (range 1 b.benches) (subst (In y) closure_rising i)).0

  -- .. and none is listed twice
  pub closure_once : T (distinct (closure_of b p))
  closure_once =
      subst (λ (set : List ℕ). T (distinct set)) (sym closure_rising) (filter_distinct (λ x. member x (closure_of b p)) (range 1 b.benches) (range_distinct 1 b.benches))

  -- every bench in it is reached from one that passes ..
  pub closure_only : (y : ℕ) → In y (closure_of b p) → (x : ℕ) × T (within 1 b.benches x) × T (p x) × Reach (steps b) x y
  closure_only y i = closure_keeps b (λ set. (y : ℕ) → In y set → From y) next b.benches (kept b p) first y i
    where
      From : ℕ → Type 0
      From y = (x : ℕ) × T (within 1 b.benches x) × T (p x) × Reach (steps b) x y

      first : (y : ℕ) → In y (kept b p) → From y
      first y i =
          let k = filter_in p y (range 1 b.benches) i in
          (y, listed_bench b.benches y k.0, k.1, reach_here (steps b) y)

      next : (set : List ℕ) → ((y : ℕ) → In y set → From y) → (y : ℕ) → In y (closure_round b set) → From y
      next set f y i = go (round_in b set y i)
        where
          go : BringsIn b set y → From y
          go (inl j) = f y j
          go (inr (z, s, j, k, e)) = let r = f z j in rw e (r.0, r.1, r.2, reach_more (steps b) r.0 z s r.3 k)

  -- every bench that one which passes reaches is in it
  pub closure_every : Valid b → (x y : ℕ) → T (within 1 b.benches x) → T (p x) → Reach (steps b) x y → In y (closure_of b p)
  closure_every v x y t u w =
      let seed = in_filter p x (range 1 b.benches) (bench_listed b.benches x t) u in
      let start = closure_keeps b (In x) (λ set i. in_round b set x t (inl i)) b.benches (kept b p) seed in
      reach_all (steps b) (λ z. In z (closure_of b p)) (closure_closed b v b.benches p (omega arith)) x y start w

  -- if every bench above h passes and none below h comes in, they prove the excess above h
  pub closure_proves : Valid b → (h : ℕ) → ((x : ℕ) → T (within 1 b.benches x) → h < load b.holders x → T (p x)) → ((x y : ℕ) → T (within 1 b.benches x) → T (within 1 b.benches y) → T (p x) → Reach (steps b) x y → h ≤ load b.holders y) → Proves b (closure_of b p) h
  closure_proves v h above full =
      record {
        bench = closure_bench;
        once = closure_once;
        above = λ x t i. closure_every v x x t (above x t i) (reach_here (steps b) x);
        full = λ y i. let r = closure_only y i in full r.0 y r.1 (closure_bench y i) r.2 r.3;
        closed = λ y s i k. let r = closure_only y i in closure_every v r.0 s.to r.1 r.2 (reach_more (steps b) r.0 y s r.3 k);
      }

-- a bench is in the tight set exactly if one with load h or more reaches it ..
pub tight_reached : (b : Board) → Valid b → (h y : ℕ) → In y (tight_set b h) ↔ ((x : ℕ) × T (within 1 b.benches x) × (h ≤ load b.holders x) × Reach (steps b) x y)
unfolding tight_set
tight_reached b v h y = (forth, back)
  where
    high : ℕ → Bool
    high x = leb h (load b.holders x)

    forth : In y (closure_of b high) → (x : ℕ) × T (within 1 b.benches x) × (h ≤ load b.holders x) × Reach (steps b) x y
    forth i = let r = closure_only b high y i in (r.0, r.1, T-leb h (load b.holders r.0) r.2, r.3)

    back : (x : ℕ) × T (within 1 b.benches x) × (h ≤ load b.holders x) × Reach (steps b) x y → In y (closure_of b high)
    back (x, t, l, w) = closure_every b high v x y t (leb_T h (load b.holders x) l) w

-- a bench is in the tight set exactly if a path leads to it from a bench with load h or more
pub tight_set_lem : (b : Board) → Valid b → (h y : ℕ) → In y (tight_set b h) ↔ ((p : BenchPath) × IsPath b p × T (within 1 b.benches p.start) × (h ≤ load b.holders p.start) × (last p ≡ y))
tight_set_lem b v h y = (λ i. forth ((tight_reached b v h y).0 i), λ (p, w, t, l, e). (tight_reached b v h y).1 (p.start, t, l, (p.route, w.walk, e)))
  where
    forth : (x : ℕ) × T (within 1 b.benches x) × (h ≤ load b.holders x) × Reach (steps b) x y → (p : BenchPath) × IsPath b p × T (within 1 b.benches p.start) × (h ≤ load b.holders p.start) × (last p ≡ y)
    forth (x, t, l, w) = let r = reach_path b x y w in (r.0, r.1, rw r.2 t, rw r.2 l, r.3)

-- only benches of 1 to B are in it
pub tight_bench : (b : Board) (h y : ℕ) → In y (tight_set b h) → T (within 1 b.benches y)
unfolding tight_set
tight_bench b h y i = closure_bench b (λ x. leb h (load b.holders x)) y i

-- the jobs inside it are its benches' loads: no step leads out of it
pub tight_inside : (b : Board) → Valid b → (h : ℕ) → inside (tight_set b h) b.named ≡ held_in b.benches (tight_set b h) b.holders
tight_inside b v h =
    closed_inside b v (tight_set b h) (tight_bench b h)
    (λ x s i k. let (z, w, l, r) = (tight_reached b v h x).0 i in (tight_reached b v h s.to).1 (z, w, l, reach_more (steps b) z x s r k))

-- "the bench numbers, rising": the set is the list of its own benches in rising order
pub tight_rising : (b : Board) (h : ℕ) → tight_set b h ≡ filter (λ x. member x (tight_set b h)) (range 1 b.benches)
unfolding tight_set
tight_rising b h = closure_rising b (λ x. leb h (load b.holders x))

-- .. and they are at most all
pub tight_most : (b : Board) (h : ℕ) → length (tight_set b h) ≤ b.benches
tight_most b h =
    omega (arith, ap length (tight_rising b h), length_filter (λ x. member x (tight_set b h)) (range 1 b.benches), length_range 1 b.benches)

-- marks that are set exactly at what the benches with load h or more reach are the set
pub tight_marked : (b : Board) → Valid b → (h : ℕ) (mark : ℕ → Bool) → ((y : ℕ) → T (within 1 b.benches y) → T (mark y) ↔ ((x : ℕ) × T (within 1 b.benches x) × (h ≤ load b.holders x) × Reach (steps b) x y)) → tight_set b h ≡ filter mark (range 1 b.benches)
tight_marked b v h mark f = tight_rising b h ∙ filter_same (λ y. member y set) mark (range 1 b.benches) marked
  where
    set : List ℕ
    set = tight_set b h

    marked : (y : ℕ) → In y (range 1 b.benches) → member y set ≡ mark y
    marked y i =
        let g = f y (listed_bench b.benches y i) in
        let r = tight_reached b v h y in
        tests_same (member y set) (mark y) (λ t. g.1 (r.0 (member_in y set t)), λ t. in_member y set (r.1 (g.0 t)))
