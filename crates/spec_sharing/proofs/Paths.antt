-- Steps, paths and improving paths: the lists of the definitions hold exactly what they are to hold.
use Prim.Native.Nat.{ℕ, zero, suc, ◌+◌, ◌≤◌}
use native.Mathlib.Omega.{arith}
use mathlib.Core.Path.{◌≡◌, refl, sym, ap, subst, ◌∙◌}
use mathlib.Core.Logic.{inl, inr, ◌≢◌, ◌↔◌}
use mathlib.Core.Bool.{Bool, true, false, cond, not}
use mathlib.Core.List.{List, [], ◌∷◌, ◌++◌, map}
use lib.Dec.{T, eqb}
use lib.ListN.{length, get_or, length-map}
use borrow.Author.Tests.{eq-eqb}
use Rattle.spec_lists.specs.Lists.{within, member, distinct, range, filter, Each, In}
use Rattle.spec_table.specs.Board.{Board, Valid, names_of, holder_of, stands, load}
use Rattle.spec_sharing.specs.Paths.{Step, step_by, steps_from, steps, BenchPath, path_by, end_of, last, jobs, Walk, IsPath, routes, paths_from, improves, improving_from, improving, improving_to}
use Rattle.spec_sharing.specs.Sharing.{level}
use Rattle.spec_lists.proofs.Tests.{true→T, T→true, both, Compared, same, other, compared, T-eqb, eqb_T, T-leb, leb_T}
use Rattle.spec_lists.proofs.Elements.{in_left, in_right, in_either, in_filter, filter_in, empty_in, in_empty, some_in, in_map, map_in, in_flat_map, flat_map_in}
use Rattle.spec_lists.proofs.NumberLists.{bench_listed, listed_bench, not_member, member_not, distinct_head, distinct_tail, others_in}
use Rattle.spec_table.proofs.Named.{named_stands, named_bench, holder_bench}
use Rattle.spec_lists.proofs.Counting.{few, distinct_count}

-- steps

-- what a step by a job from j on is; i is how far behind j the job stands
abbrev StepFrom : ℕ → ℕ → List (List ℕ) → List ℕ → Step → Type 0
StepFrom j x named holders s =
    (i : ℕ) × (s.job ≡ j + i) × (get_or holders i 0 ≡ x) × In s.to (get_or named i []) × (s.to ≢ x)

steps_from_is : (j x : ℕ) (named : List (List ℕ)) (holders : List ℕ) (s : Step) → In s (steps_from j x named holders) → StepFrom j x named holders s
steps_from_is j x [] holders s i = absurd i
steps_from_is j x (names ∷ named) [] s i = absurd i
steps_from_is j x (names ∷ named) (h ∷ holders) s i = go (compared h x) (λ k. later (steps_from_is (suc j) x named holders s k)) i
  where
    others : List ℕ
    others = filter (λ y. not (eqb y x)) names

    rest : List Step
    rest = steps_from (suc j) x named holders

    later : StepFrom (suc j) x named holders s → StepFrom j x (names ∷ named) (h ∷ holders) s
    later r = (suc r.0, omega (arith, r.1), r.2, r.3, r.4)

    first : h ≡ x → In s (map (step_by j) others) → StepFrom j x (names ∷ named) (h ∷ holders) s
    first e k =
        let m = map_in (step_by j) s others k in
        let f = (others_in x names m.0).0 m.1 in
        let to : s.to ≡ m.0 = ap (λ (t : Step). t.to) m.2 in
        (0, omega (arith, ap (λ (t : Step). t.job) m.2), e, rw to f.1, λ d. f.0 (sym to ∙ d))

    go : {z : Bool} → Compared h x z → (In s rest → StepFrom j x (names ∷ named) (h ∷ holders) s) → In s (cond z (map (step_by j) others ++ rest) rest) → StepFrom j x (names ∷ named) (h ∷ holders) s
    go (same e) ih k = elim (in_either s (map (step_by j) others) rest k) [ inl m ↦ first e m | inr m ↦ ih m ]
    go (other d) ih k = ih k

-- what a step is: its job is held by the bench it leaves, and names the bench it leads to, which is another one
pub step_is : (b : Board) (x : ℕ) (s : Step) → In s (steps b x) → (holder_of b s.job ≡ x) × In s.to (names_of b s.job) × (s.to ≢ x)
unfolding steps
step_is b x s i = go (steps_from_is 1 x b.named b.holders s i)
  where
    go : StepFrom 1 x b.named b.holders s → (holder_of b s.job ≡ x) × In s.to (names_of b s.job) × (s.to ≢ x)
    go r = let e : s.job ≡ suc r.0 = omega (arith, r.1) in rw e (r.2, r.3, r.4)

steps_from_has : (j x i : ℕ) (named : List (List ℕ)) (holders : List ℕ) (s : Step) → length named ≡ length holders → s.job ≡ j + i → get_or holders i 0 ≡ x → In s.to (get_or named i []) → s.to ≢ x → In s (steps_from j x named holders)
steps_from_has j x i [] holders s l e h n d = absurd n
steps_from_has j x i (names ∷ named) [] s l e h n d = omega arith
steps_from_has j x zero (names ∷ named) (h₀ ∷ holders) s l e h n d =
    let others = filter (λ y. not (eqb y x)) names in
    let kept = (others_in x names s.to).1 (d, n) in
    let job : j ≡ s.job = omega arith in
    let first = subst (λ (i : ℕ). In (step_by i s.to) (map (step_by j) others)) job (in_map (step_by j) s.to others kept) in
    rw (eq-eqb h₀ x h) (in_left s (map (step_by j) others) (steps_from (suc j) x named holders) first)
steps_from_has j x (suc i) (names ∷ named) (h₀ ∷ holders) s l e h n d = later (eqb h₀ x) (steps_from_has (suc j) x i named holders s (omega arith) (omega arith) h n d)
  where
    others : List Step
    others = map (step_by j) (filter (λ y. not (eqb y x)) names)

    rest : List Step
    rest = steps_from (suc j) x named holders

    later : (z : Bool) → In s rest → In s (cond z (others ++ rest) rest)
    later true k = in_right s others rest k
    later false k = k

-- every job held by x makes a step from x to each other bench that it names
pub is_step : (b : Board) (x : ℕ) (s : Step) → holder_of b s.job ≡ x → In s.to (names_of b s.job) → s.to ≢ x → length b.named ≡ length b.holders → In s (steps b x)
unfolding steps
is_step b x s h n d l = go s.job refl h n
  where
    go : (j : ℕ) → s.job ≡ j → holder_of b j ≡ x → In s.to (names_of b j) → In s (steps_from 1 x b.named b.holders)
    go zero e h n = absurd n
    go (suc i) e h n = steps_from_has 1 x i b.named b.holders s l (omega arith) h n d

-- a step leads to a bench of 1 to B
pub step_bench : (b : Board) → Valid b → (x : ℕ) (s : Step) → In s (steps b x) → T (within 1 b.benches s.to)
step_bench b v x s i = named_bench b v s.job s.to (step_is b x s i).1

-- paths

-- the benches that a route comes to
abbrev pub benches_of : List Step → List ℕ
benches_of r = map (λ s. s.to) r

-- a route's jobs, in its order
abbrev pub jobs_of : List Step → List ℕ
jobs_of r = map (λ s. s.job) r

-- different benches, and none already seen
record Fresh (seen : List ℕ) (l : List ℕ) : Type 0 where
  once : T (distinct l)
  apart : (y : ℕ) → In y l → In y seen → ⊥

fresh_more : (seen : List ℕ) (x : ℕ) (l : List ℕ) → (In x seen → ⊥) → Fresh (x ∷ seen) l → Fresh seen (x ∷ l)
fresh_more seen x l f p =
    record { once = both (not (member x l)) (distinct l) (not_member x l (λ i. p.apart x i (inl refl))) p.once; apart = apart }
  where
    apart : (y : ℕ) → In y (x ∷ l) → In y seen → ⊥
    apart y (inl e) j = f (rw e at j)
    apart y (inr i) j = p.apart y i (inr j)

fresh_less : (seen : List ℕ) (x : ℕ) (l : List ℕ) → Fresh seen (x ∷ l) → Fresh (x ∷ seen) l
fresh_less seen x l p = record { once = distinct_tail x l p.once; apart = apart }
  where
    apart : (y : ℕ) → In y l → In y (x ∷ seen) → ⊥
    apart y i (inl e) = distinct_head x l p.once (rw e at i)
    apart y i (inr j) = p.apart y (inr i) j

-- the parts of `routes`: the test of a step, and the routes behind it
abbrev unseen : List ℕ → Step → Bool
unseen seen s = not (member s.to seen)

abbrev behind : (ℕ → List Step) → ℕ → List ℕ → Step → List (List Step)
behind out k seen s = routes out k (s.to ∷ seen) s.to

module _ (out : ℕ → List Step) where
  routes_only : (k : ℕ) (seen : List ℕ) (x : ℕ) (r : List Step) → In r (routes out k seen x) → Walk out x r × Fresh seen (benches_of r)
  routes_only zero seen x r (inl e) = rw e (tt, record { once = tt; apart = λ y i j. i })
  routes_only zero seen x r (inr i) = absurd i
  routes_only (suc k) seen x r (inl e) = rw e (tt, record { once = tt; apart = λ y i j. i })
  routes_only (suc k) seen x r (inr i) =
      let f = flat_map_in (λ s. map (λ t. s ∷ t) (behind out k seen s)) r (filter (unseen seen) (out x)) i in
      let s = f.0 in
      let m = map_in (λ t. s ∷ t) r (behind out k seen s) f.2 in
      let g = filter_in (unseen seen) s (out x) f.1 in
      let h = routes_only k (s.to ∷ seen) s.to m.0 m.1 in
      rw m.2 ((g.0, h.0), fresh_more seen s.to (benches_of m.0) (member_not s.to seen g.1) h.1)

  routes_every : (k : ℕ) (seen : List ℕ) (x : ℕ) (r : List Step) → length r ≤ k → Walk out x r → Fresh seen (benches_of r) → In r (routes out k seen x)
  routes_every zero seen x [] l w p = inl refl
  routes_every zero seen x (s ∷ r) l w p = inr (omega arith)
  routes_every (suc k) seen x [] l w p = inl refl
  routes_every (suc k) seen x (s ∷ r) l w p =
      let i = in_filter (unseen seen) s (out x) w.0 (not_member s.to seen (p.apart s.to (inl refl))) in
      let j = routes_every k (s.to ∷ seen) s.to r (omega arith) w.1 (fresh_less seen s.to (benches_of r) p) in
      inr (in_flat_map (λ s. map (λ t. s ∷ t) (behind out k seen s)) (s ∷ r) s (filter (unseen seen) (out x)) i (in_map (λ t. s ∷ t) r (behind out k seen s) j))

-- the list of the paths from x has only paths from x ..
pub listed_is_path : (b : Board) (x : ℕ) (p : BenchPath) → In p (paths_from b x) → IsPath b p × (p.start ≡ x)
unfolding paths_from
listed_is_path b x p i =
    let m = map_in (path_by x) p (routes (steps b) b.benches (x ∷ []) x) i in
    let h = routes_only (steps b) b.benches (x ∷ []) x m.0 m.1 in
    let f = fresh_more [] x (benches_of m.0) (λ i. i) h.1 in
    rw m.2 (record { walk = h.0; once = T→true (distinct (x ∷ benches_of m.0)) f.once }, refl)

pub walk_benches : (b : Board) → Valid b → (x : ℕ) (r : List Step) → Walk (steps b) x r → Each (λ y. T (within 1 b.benches y)) (benches_of r)
walk_benches b v x [] w = tt
walk_benches b v x (s ∷ r) w = (step_bench b v x s w.0, walk_benches b v s.to r w.1)

-- a path comes to no bench twice, so it has fewer jobs than there are benches
pub path_few : (b : Board) → Valid b → (p : BenchPath) → IsPath b p → T (within 1 b.benches p.start) → suc (length (jobs p)) ≤ b.benches
path_few b v p h s =
    let l = p.start ∷ benches_of p.route in
    let n = few b.benches l (distinct_count l (true→T (distinct l) h.once)) (s, walk_benches b v p.start p.route h.walk) in
    omega (arith, n, length-map p.route (λ (s : Step). s.to), length-map p.route (λ (s : Step). s.job))

-- .. and every path from x
pub path_is_listed : (b : Board) → Valid b → (p : BenchPath) → IsPath b p → In p (paths_from b p.start)
unfolding paths_from
path_is_listed b v p h =
    let x = p.start in
    let r = p.route in
    let t = true→T (distinct (x ∷ benches_of r)) h.once in
    let f = fresh_less [] x (benches_of r) (record { once = t; apart = λ y i j. j }) in
    let l = few b.benches (benches_of r) (distinct_count (benches_of r) f.once) (walk_benches b v x r h.walk) in
    in_map (path_by x) r (routes (steps b) b.benches (x ∷ []) x) (routes_every (steps b) b.benches (x ∷ []) x r (omega (arith, length-map r (λ (s : Step). s.to))) h.walk f)

-- the list of the improving paths from x has only improving paths from x ..
pub improving_from_only : (b : Board) (x : ℕ) (p : BenchPath) → In p (improving_from b x) → IsPath b p × (p.start ≡ x) × T (improves b p)
unfolding improving_from
improving_from_only b x p i =
    let k = filter_in (improves b) p (paths_from b x) i in
    let h = listed_is_path b x p k.0 in
    (h.0, h.1, k.1)

-- .. and every one
pub improving_from_every : (b : Board) → Valid b → (p : BenchPath) → IsPath b p → T (improves b p) → In p (improving_from b p.start)
unfolding improving_from
improving_from_every b v p h t = in_filter (improves b) p (paths_from b p.start) (path_is_listed b v p h) t

-- improving paths

-- what improving says of the loads, and back
pub improves_loads : (b : Board) (p : BenchPath) → T (improves b p) → load b.holders (last p) + 2 ≤ load b.holders p.start
unfolding improves
improves_loads b p t = T-leb (load b.holders (last p) + 2) (load b.holders p.start) t

pub loads_improve : (b : Board) (p : BenchPath) → load b.holders (last p) + 2 ≤ load b.holders p.start → T (improves b p)
unfolding improves
loads_improve b p h = leb_T (load b.holders (last p) + 2) (load b.holders p.start) h

-- on a valid board an improving path starts at a bench of 1 to B
pub improves_start : (b : Board) → Valid b → (p : BenchPath) → IsPath b p → T (improves b p) → T (within 1 b.benches p.start)
improves_start b v p h t = go p.route h.walk (improves_loads b p t)
  where
    go : (r : List Step) → Walk (steps b) p.start r → load b.holders (end_of p.start r) + 2 ≤ load b.holders p.start → T (within 1 b.benches p.start)
    go [] w l = absurd (omega arith)
    go (s ∷ r) w l =
        let k = step_is b p.start s w.0 in
        subst (λ (x : ℕ). T (within 1 b.benches x)) k.0 (holder_bench b v s.job (named_stands b s.job s.to k.1))

-- the list of all improving paths has only improving paths that start at a bench of 1 to B ..
pub improving_only : (b : Board) (p : BenchPath) → In p (improving b) → IsPath b p × T (within 1 b.benches p.start) × T (improves b p)
unfolding improving
improving_only b p i =
    let f = flat_map_in (improving_from b) p (range 1 b.benches) i in
    let h = improving_from_only b f.0 p f.2 in
    (h.0, rw h.1 (listed_bench b.benches f.0 f.1), h.2)

-- .. and every one
pub improving_every : (b : Board) → Valid b → (p : BenchPath) → IsPath b p → T (improves b p) → In p (improving b)
unfolding improving
improving_every b v p h t =
    let i = bench_listed b.benches p.start (improves_start b v p h t) in
    in_flat_map (improving_from b) p p.start (range 1 b.benches) i (improving_from_every b v p h t)

-- the list of the improving paths that end at x has only such paths ..
pub improving_to_only : (b : Board) (x : ℕ) (p : BenchPath) → In p (improving_to b x) → IsPath b p × T (within 1 b.benches p.start) × (last p ≡ x) × T (improves b p)
unfolding improving_to
improving_to_only b x p i =
    let k = filter_in (λ p. eqb (last p) x) p (improving b) i in
    let h = improving_only b p k.0 in
    (h.0, h.1, T-eqb (last p) x k.1, h.2)

-- .. and every one
pub improving_to_every : (b : Board) → Valid b → (p : BenchPath) → IsPath b p → T (improves b p) → In p (improving_to b (last p))
unfolding improving_to
improving_to_every b v p h t = in_filter (λ q. eqb (last q) (last p)) p (improving b) (improving_every b v p h t) (eqb_T (last p) (last p) refl)

-- a board is level exactly if no path improves
pub level_exact : (b : Board) → Valid b → T (level b) ↔ ((p : BenchPath) → IsPath b p → T (improves b p) → ⊥)
unfolding level
level_exact b v =
    (λ l p h t. empty_in p (improving b) l (improving_every b v p h t), λ f. in_empty (improving b) (λ p i. let h = improving_only b p i in f p h.0 h.2))

-- a board that is not level has an improving path
pub unlevel_improves : (b : Board) → T (not (level b)) → (p : BenchPath) × IsPath b p × T (improves b p)
unfolding level
unlevel_improves b t =
    let q = some_in (improving b) t in
    let h = improving_only b q.0 q.1 in
    (q.0, h.0, h.2)

-- a board on which no job stands is level
pub jobless_level : (b : Board) → Valid b → ((j : ℕ) → T (stands b j) → ⊥) → T (level b)
jobless_level b v n = (level_exact b v).1 (λ p h t. go p.start p.route h.walk (improves_loads b p t))
  where
    go : (x : ℕ) (r : List Step) → Walk (steps b) x r → load b.holders (end_of x r) + 2 ≤ load b.holders x → ⊥
    go x [] w l = omega arith
    go x (s ∷ r) w l = n s.job (named_stands b s.job s.to (step_is b x s w.0).1)
