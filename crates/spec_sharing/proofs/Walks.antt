-- Walks and paths: what can be reached, and that a walk shortens to a path.
use Prim.Native.Nat.{ℕ, suc, ◌+◌, ◌≤◌, ◌<◌}
use native.Mathlib.Omega.{arith}
use native.Mathlib.Decide.{dec_le}
use mathlib.Core.Path.{◌≡◌, refl, ap, subst, ◌∙◌}
use mathlib.Core.Logic.{inl, inr, ◌↔◌}
use mathlib.Core.Bool.{Bool, not}
use mathlib.Core.List.{List, [], ◌∷◌, ◌++◌}
use lib.Dec.{T}
use lib.ListN.{length}
use Rattle.spec_lists.specs.Lists.{within, member, distinct, In}
use Rattle.spec_table.specs.Board.{Board, Valid, load}
use Rattle.spec_sharing.specs.Paths.{Step, steps, BenchPath, path_by, end_of, last, Walk, IsPath}
use Rattle.spec_sharing.specs.Sharing.{level}
use Rattle.spec_sharing.specs.Searches.{Reach}
use Rattle.spec_lists.proofs.Tests.{T→true, both}
use Rattle.spec_lists.proofs.NumberLists.{not_member, Member, is_in, not_in, membered, distinct_tail}
use Rattle.spec_sharing.proofs.Paths.{step_bench, benches_of, improves_loads, loads_improve, level_exact}

module _ (out : ℕ → List Step) where
  -- a bench reaches itself
  pub reach_here : (x : ℕ) → Reach out x x
  reach_here x = ([], tt, refl)

  -- what a step's bench reaches, the bench that it leaves reaches
  pub reach_first : (x y : ℕ) (s : Step) → In s (out x) → Reach out s.to y → Reach out x y
  reach_first x y s i w = (s ∷ w.0, (i, w.1), w.2)

  -- a route behind another is a walk from where that ends ..
  pub walk_join : (x : ℕ) (r q : List Step) → Walk out x r → Walk out (end_of x r) q → Walk out x (r ++ q)
  walk_join x [] q v w = w
  walk_join x (s ∷ r) q v w = (v.0, walk_join s.to r q v.1 w)

  -- .. to its own end
  pub end_join : (x : ℕ) (r q : List Step) → end_of x (r ++ q) ≡ end_of (end_of x r) q
  end_join x [] q = refl
  end_join x (s ∷ r) q = end_join s.to r q

  -- a walk goes on where another ends
  pub reach_join : (x y z : ℕ) → Reach out x y → Reach out y z → Reach out x z
  reach_join x y z v w =
      let f : Walk out (end_of x v.0) w.0 = rw v.2 w.1 in
      (v.0 ++ w.0, walk_join x v.0 w.0 v.1 f, end_join x v.0 w.0 ∙ ap (λ (u : ℕ). end_of u w.0) v.2 ∙ w.2)

  -- a walk goes on by one step
  pub reach_more : (x y : ℕ) (s : Step) → Reach out x y → In s (out y) → Reach out x s.to
  reach_more x y s w i = reach_join x y s.to w (s ∷ [], (i, tt), refl)

  -- what holds of x and is handed on by every step holds of every bench that is reached from x
  pub reach_all : (P : ℕ → Type 0) → ((z : ℕ) (s : Step) → P z → In s (out z) → P s.to) → (x y : ℕ) → P x → Reach out x y → P y
  reach_all P next x y p w = subst P w.2 (go x w.0 p w.1)
    where
      go : (z : ℕ) (r : List Step) → P z → Walk out z r → P (end_of z r)
      go z [] q v = q
      go z (s ∷ r) q v = go s.to r (next z s q v.0) v.1

  -- a walk that comes to x goes on from there to its end: with fewer steps, and to no bench twice if the whole did not
  walk_cut : (x y : ℕ) (r : List Step) → Walk out y r → In x (benches_of r) → (q : List Step) × Walk out x q × (end_of x q ≡ end_of y r) × (length q < length r) × (T (distinct (benches_of r)) → T (distinct (x ∷ benches_of q)))
  walk_cut x y [] w i = absurd i
  walk_cut x y (s ∷ r) w (inl e) = rw e (r, w.1, refl, omega arith, λ t. t)
  walk_cut x y (s ∷ r) w (inr i) =
      let h = walk_cut x s.to r w.1 i in
      (h.0, h.1, h.2, omega (arith, h.3), λ t. h.4 (distinct_tail s.to (benches_of r) t))

  -- so a walk with the fewest steps to its end comes to no bench twice
  pub fewest_once : (x : ℕ) (r : List Step) → Walk out x r → ((q : List Step) → Walk out x q → end_of x q ≡ end_of x r → length r ≤ length q) → T (distinct (x ∷ benches_of r))
  fewest_once x [] w f = tt
  fewest_once x (s ∷ r) w f =
      both (not (member x (benches_of (s ∷ r)))) (distinct (benches_of (s ∷ r)))
      (not_member x (benches_of (s ∷ r)) (λ i. let h = walk_cut x x (s ∷ r) w i in omega (arith, h.3, f h.0 h.1 h.2)))
      (fewest_once s.to r w.1 (λ q u e. omega (arith, f (s ∷ q) (w.0, u) e)))

  -- a walk from x to z of at most k steps, no bench twice
  abbrev Short : ℕ → ℕ → ℕ → Type 0
  Short x z k = (q : List Step) × Walk out x q × T (distinct (x ∷ benches_of q)) × (end_of x q ≡ z) × (length q ≤ k)

  -- a step in front of such a walk, which is cut if it comes back
  short_first : (x : ℕ) (s : Step) (z k : ℕ) → In s (out x) → Short s.to z k → Short x z (suc k)
  short_first x s z k i (q, w, t, e, l) = go (membered x (benches_of (s ∷ q)))
    where
      go : {a : Bool} → Member x (benches_of (s ∷ q)) a → Short x z (suc k)
      go (is_in j) = let c = walk_cut x x (s ∷ q) (i, w) j in (c.0, c.1, c.4 t, c.2 ∙ e, omega (arith, c.3))
      go (not_in f) =
          let seen = benches_of (s ∷ q) in
          (s ∷ q, (i, w), both (not (member x seen)) (distinct seen) (not_member x seen f) t, e, omega arith)

  -- a walk shortens to one that comes to no bench twice
  pub walk_shortens : (x : ℕ) (r : List Step) → Walk out x r → (q : List Step) × Walk out x q × T (distinct (x ∷ benches_of q)) × (end_of x q ≡ end_of x r) × (length q ≤ length r)
  walk_shortens x [] w = ([], tt, tt, refl, omega arith)
  walk_shortens x (s ∷ r) w = short_first x s (end_of s.to r) (length r) w.0 (walk_shortens s.to r w.1)

-- what is reached is reached by a path ..
pub reach_path : (b : Board) (x y : ℕ) → Reach (steps b) x y → (p : BenchPath) × IsPath b p × (p.start ≡ x) × (last p ≡ y)
reach_path b x y w =
    let c = walk_shortens (steps b) x w.0 w.1 in
    (path_by x c.0, record { walk = c.1; once = T→true (distinct (x ∷ benches_of c.0)) c.2 }, refl, c.3 ∙ w.2)

-- .. and back
pub path_reach : (b : Board) (p : BenchPath) → IsPath b p → Reach (steps b) p.start (last p)
path_reach b p h = (p.route, h.walk, refl)

-- from a bench of 1 to B only such benches are reached
pub reach_bench : (b : Board) → Valid b → (x y : ℕ) → T (within 1 b.benches x) → Reach (steps b) x y → T (within 1 b.benches y)
reach_bench b v x y t w = reach_all (steps b) (λ z. T (within 1 b.benches z)) (λ z s u i. step_bench b v z s i) x y t w

-- a board is level exactly if no bench reaches one whose load is smaller by two or more
pub level_reach : (b : Board) → Valid b → T (level b) ↔ ((x y : ℕ) → Reach (steps b) x y → load b.holders x ≤ load b.holders y + 1)
level_reach b v =
    (λ l x y w. near l x y (reach_path b x y w), λ f. (level_exact b v).1 (λ p h t. omega (arith, improves_loads b p t, f p.start (last p) (path_reach b p h))))
  where
    hold : ℕ → ℕ
    hold x = load b.holders x

    near : T (level b) → (x y : ℕ) → (p : BenchPath) × IsPath b p × (p.start ≡ x) × (last p ≡ y) → hold x ≤ hold y + 1
    near l x y (p, h, e, f) = elim (dec_le (hold x) (hold y + 1)) [
      | yes g ↦ g
      | no g ↦ absurd ((level_exact b v).0 l p h (loads_improve b p (omega (arith, ap hold e, ap hold f))))
    ]
