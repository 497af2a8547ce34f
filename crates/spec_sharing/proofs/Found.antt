-- What a search finds is what the rules name: an arrival's end bench by the rule's order and the first list give the chosen path,
-- and levelling's is that of the bench that comes first among those that start one.
use Prim.Native.Nat.{ℕ, suc, ◌≤◌, ◌<◌}
use native.Mathlib.Omega.{arith}
use native.Mathlib.Decide.{dec_lt}
use mathlib.Core.Path.{◌≡◌, sym, ap, subst, ◌∙◌}
use mathlib.Core.Logic.{◌⊎◌, inl, inr, ◌↔◌}
use mathlib.Core.List.{List, ◌∷◌}
use mathlib.Core.Option.{none, some}
use lib.Dec.{T}
use lib.ListN.{length}
use Rattle.spec_lists.specs.Lists.{within, distinct, lex_le, In}
use Rattle.spec_table.specs.Board.{Board, Valid, load}
use Rattle.spec_sharing.specs.Paths.{Step, steps, BenchPath, path_by, end_of, last, jobs, Walk, IsPath, improves, improving_from, improving}
use Rattle.spec_sharing.specs.Sharing.{arrival_key, arrival_choice, levelling_choice, level}
use Rattle.spec_sharing.specs.Searches.{StartsOne, Lower, ArrivalEnd, FirstList}
use Rattle.spec_lists.proofs.Tests.{T→true}
use Rattle.spec_lists.proofs.Elements.{in_empty}
use Rattle.spec_sharing.proofs.Paths.{benches_of, jobs_of, improving_from_only, improving_from_every, improves_loads, loads_improve, improves_start, improving_only, improving_every, level_exact}
use Rattle.spec_sharing.proofs.Choice.{argmin_empty, ArrivalFirst, LevellingFirst, First, arrival_choice_lem, levelling_choice_lem}
use Rattle.spec_sharing.proofs.Walks.{fewest_once, path_reach, reach_bench, level_reach}
use Rattle.spec_sharing.proofs.Distances.{Away}

-- an order of ends by distance is one of paths by length: m and n are the distances, r and k the lengths
by_length : {A E D : Type 0} (m n r k y z : ℕ) → m ≡ suc r → n ≤ suc k → (r ≡ k → y ≡ z → D) → A ⊎ (E × ((m < n) ⊎ ((m ≡ n) × (y ≤ z)))) → A ⊎ (E × ((r < k) ⊎ ((r ≡ k) × ((y < z) ⊎ ((y ≡ z) × D)))))
by_length m n r k y z s t d (inl a) = inl a
by_length m n r k y z s t d (inr (e, inl h)) = inr (e, inl (omega arith))
by_length {A} {E} {D} m n r k y z s t d (inr (e, inr (h, l))) = inr (e, go (dec_lt r k) (dec_lt y z))
  where
    go : Dec (r < k) → Dec (y < z) → (r < k) ⊎ ((r ≡ k) × ((y < z) ⊎ ((y ≡ z) × D)))
    go (yes i) c = inl i
    go (no i) (yes j) = inr (omega arith, inl j)
    go (no i) (no j) = inr (omega arith, inr (omega arith, d (omega arith) (omega arith)))

module _ (b : Board) where
  -- the steps of a path from x are a walk from x with the same end
  walk_from : (x : ℕ) (q : BenchPath) → IsPath b q → q.start ≡ x → Walk (steps b) x q.route × (end_of x q.route ≡ last q)
  walk_from x q h s = (subst (λ (z : ℕ). Walk (steps b) z q.route) s h.walk, ap (λ (z : ℕ). end_of z q.route) (sym s))

  -- a first list is a path where no walk to its end has fewer steps
  first_path : (x y d : ℕ) (r : List Step) → FirstList b x y d r → ((q : List Step) → Walk (steps b) x q → end_of x q ≡ y → d ≤ suc (length q)) → IsPath b (path_by x r)
  first_path x y d r l f =
      let o = fewest_once (steps b) x r l.walk (λ q w e. omega (arith, l.long, f q w (e ∙ l.ends))) in
      record { walk = l.walk; once = T→true (distinct (x ∷ benches_of r)) o }

  -- and its list comes first to that of a path between the same benches with as many steps
  first_jobs : (x y d : ℕ) (r : List Step) → FirstList b x y d r → (q : BenchPath) → IsPath b q → q.start ≡ x → last q ≡ y → length r ≡ length q.route → T (lex_le (jobs_of r) (jobs q))
  first_jobs x y d r l q h s e n = let w = walk_from x q h s in l.first q.route w.0 (w.1 ∙ e) (sym n)

module _ (b : Board) (v : Valid b) where
  -- an improving path from x ends at a bench where one may end, and is no shorter than its distance
  lower_end : (x : ℕ) (f : ℕ → ℕ) → Away b.benches (steps b) x f → (q : BenchPath) → In q (improving_from b x) → Lower b x f (last q) × (f (last q) ≤ suc (length q.route))
  lower_end x f a q i =
      let h = improving_from_only b x q i in
      let w = reach_bench b v q.start (last q) (improves_start b v q h.0 h.2) (path_reach b q h.0) in
      let u = walk_from b x q h.0 h.1 in
      let s = a.short (last q) q.route w u.0 u.1 in
      (record { bench = w; reached = s.0; lower = omega (arith, improves_loads b q h.2, ap (load b.holders) h.1) }, s.1)

  -- an arrival at x chooses the first list to the end bench by the rule's order ..
  pub arrival_found : (x y : ℕ) (f : ℕ → ℕ) (r : List Step) → Away b.benches (steps b) x f → ArrivalEnd b x f y → FirstList b x y (f y) r → arrival_choice b x ≡ some (path_by x r)
  arrival_found x y f r a e l = (arrival_choice_lem b x (path_by x r)).1 (record { listed_is = listed; before = before })
    where
      path : IsPath b (path_by x r)
      path = first_path b x y (f y) r l (λ q w d. (a.short y q e.is.bench w d).1)

      listed : In (path_by x r) (improving_from b x)
      listed = improving_from_every b v (path_by x r) path (loads_improve b (path_by x r) (rw l.ends e.is.lower))

      before : (q : BenchPath) → In q (improving_from b x) → ArrivalFirst b (path_by x r) q
      before q i =
          let h = improving_from_only b x q i in
          let z = lower_end x f a q i in
          rw l.ends
          (by_length (f y) (f (last q)) (length r) (length q.route) y (last q) l.long z.1
          (λ n d. first_jobs b x y (f y) r l q h.0 h.1 (sym d) n)
          (e.first (last q) z.0))

  -- .. and nothing where there is none
  pub arrival_not_found : (x : ℕ) (f : ℕ → ℕ) → Away b.benches (steps b) x f → ((z : ℕ) → Lower b x f z → ⊥) → arrival_choice b x ≡ none
  unfolding arrival_choice
  arrival_not_found x f a n = argmin_empty (arrival_key b) (improving_from b x) (in_empty (improving_from b x) (λ q i. n (last q) (lower_end x f a q i).0))

  -- a board is level exactly if no bench starts an improving path
  pub level_starts : T (level b) ↔ ((x : ℕ) → T (within 1 b.benches x) → StartsOne b x → ⊥)
  level_starts =
      (λ l x t s. omega (arith, s.2, (level_reach b v).0 l x s.0 s.1), λ f. (level_exact b v).1 (λ p h t. f p.start (improves_start b v p h t) (last p, path_reach b p h, improves_loads b p t)))

  -- levelling flips what an arrival at z would, if z has the greatest load and then the lowest number among those that start one;
  -- where no bench starts one the board is level, and it flips none (level-choice)
  pub levelling_found : (z : ℕ) (p : BenchPath) → arrival_choice b z ≡ some p → ((w : ℕ) → T (within 1 b.benches w) → StartsOne b w → (load b.holders w < load b.holders z) ⊎ ((load b.holders z ≡ load b.holders w) × (z ≤ w))) → levelling_choice b ≡ some p
  levelling_found z p e first = (levelling_choice_lem b p).1 (record { listed_is = improving_every b v p h.0 h.2; before = before })
    where
      chosen : First (improving_from b z) (ArrivalFirst b) p
      chosen = (arrival_choice_lem b z p).0 e

      h : IsPath b p × (p.start ≡ z) × T (improves b p)
      h = improving_from_only b z p chosen.listed_is

      before : (q : BenchPath) → In q (improving b) → LevellingFirst b p q
      before q i = go (first q.start k.1 (last q, path_reach b q k.0, improves_loads b q k.2))
        where
          k : IsPath b q × T (within 1 b.benches q.start) × T (improves b q)
          k = improving_only b q i

          own : z ≡ q.start → ArrivalFirst b p q
          own d = chosen.before q (subst (λ (y : ℕ). In q (improving_from b y)) (sym d) (improving_from_every b v q k.0 k.2))

          tie : z ≤ q.start → Dec (p.start < q.start) → (p.start < q.start) ⊎ ((p.start ≡ q.start) × ArrivalFirst b p q)
          tie m (yes n) = inl n
          tie m (no n) = let d : z ≡ q.start = omega (arith, h.1) in inr (h.1 ∙ d, own d)

          go : (load b.holders q.start < load b.holders z) ⊎ ((load b.holders z ≡ load b.holders q.start) × (z ≤ q.start)) → LevellingFirst b p q
          go (inl l) = inl (omega (arith, ap (load b.holders) h.1))
          go (inr (l, m)) = inr (ap (load b.holders) h.1 ∙ l, tie m (dec_lt p.start q.start))
