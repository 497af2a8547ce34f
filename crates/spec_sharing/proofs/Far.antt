-- The distance of every bench from every other.
use Prim.Native.Nat.{ℕ, suc, ◌≤◌}
use native.Mathlib.Omega.{arith}
use mathlib.Core.Path.{◌≡◌, refl, sym, ap, subst, ◌∙◌}
use mathlib.Core.Logic.{◌⊎◌, inl, inr}
use mathlib.Core.Bool.{Bool, true, ◌&&◌}
use mathlib.Core.List.{List, [], ◌∷◌}
use mathlib.Core.Option.{Option, none, some}
use lib.Dec.{T, eqb, ltb, ltb→lt}
use lib.ListN.{length}
use Rattle.spec_lists.specs.Lists.{within, distinct, lex_le, In, argmin}
use Rattle.spec_table.specs.Board.{Board, Valid}
use Rattle.spec_sharing.specs.Paths.{Step, steps, BenchPath, path_by, end_of, last, Walk, paths_from}
use Rattle.spec_sharing.specs.Searches.{steps_key, far, paths_to, distance}
use Rattle.spec_lists.proofs.Tests.{T→true, left, either, T-eqb, eqb_T}
use Rattle.spec_lists.proofs.Elements.{in_filter, filter_in}
use Rattle.spec_sharing.proofs.Paths.{benches_of, listed_is_path, path_is_listed}
use Rattle.spec_sharing.proofs.Choice.{argmin_in, argmin_first, argmin_none}
use Rattle.spec_sharing.proofs.Walks.{walk_shortens}
use Rattle.spec_sharing.proofs.Distances.{To, Away}

-- of two keys of steps the first has the lower number, or the same
key_lower : (m n : ℕ) → T (lex_le (m ∷ []) (n ∷ [])) → m ≤ n
key_lower m n t = go (either (ltb m n) (eqb m n && true) t)
  where
    go : T (ltb m n) ⊎ T (eqb m n && true) → m ≤ n
    go (inl s) = let h = ltb→lt m n s in omega arith
    go (inr s) = let h = T-eqb m n (left (eqb m n) true s) in omega arith

-- a path ends at y
abbrev ends_at : ℕ → BenchPath → Bool
ends_at y p = eqb (last p) y

module _ (b : Board) where
  -- where a distance is not 0, a walk of so many steps leads there ..
  distance_walk : (x y n : ℕ) → distance b x y ≡ suc n → (r : List Step) × Walk (steps b) x r × (end_of x r ≡ y) × (length r ≡ n)
  unfolding distance
  distance_walk x y n e = go (argmin steps_key (paths_to b x y)) refl e
    where
      go : (o : Option BenchPath) → argmin steps_key (paths_to b x y) ≡ o → far o ≡ suc n → (r : List Step) × Walk (steps b) x r × (end_of x r ≡ y) × (length r ≡ n)
      go none k f = absurd (omega arith)
      go (some p) k f =
          let i = filter_in (ends_at y) p (paths_from b x) (argmin_in steps_key (paths_to b x y) p k) in
          let (h, s) = listed_is_path b x p i.0 in
          (p.route, subst (λ (z : ℕ). Walk (steps b) z p.route) s h.walk, ap (λ (z : ℕ). end_of z p.route) (sym s) ∙ T-eqb (last p) y i.1, omega arith)

  module _ (v : Valid b) where
    -- .. and no walk has fewer
    distance_short : (x y : ℕ) (r : List Step) → Walk (steps b) x r → end_of x r ≡ y → (1 ≤ distance b x y) × (distance b x y ≤ suc (length r))
    unfolding distance
    distance_short x y r w e = go (argmin steps_key (paths_to b x y)) refl
      where
        path : (q : List Step) × Walk (steps b) x q × T (distinct (x ∷ benches_of q)) × (end_of x q ≡ end_of x r) × (length q ≤ length r)
        path = walk_shortens (steps b) x r w

        listed : In (path_by x path.0) (paths_to b x y)
        listed =
            in_filter (ends_at y) (path_by x path.0) (paths_from b x)
            (path_is_listed b v (path_by x path.0) (record { walk = path.1; once = T→true (distinct (x ∷ benches_of path.0)) path.2 }))
            (eqb_T (end_of x path.0) y (path.3 ∙ e))

        go : (o : Option BenchPath) → argmin steps_key (paths_to b x y) ≡ o → (1 ≤ far o) × (far o ≤ suc (length r))
        go none n = absurd (subst (In (path_by x path.0)) (argmin_none steps_key (paths_to b x y) n) listed)
        go (some p) n =
            let h = key_lower (length p.route) (length path.0) (argmin_first steps_key (paths_to b x y) p n (path_by x path.0) listed) in
            (omega arith, omega (arith, path.4))

    -- it is the distance to y, of every bench ..
    pub distance_to : (y : ℕ) → To b.benches (steps b) y (λ x. distance b x y)
    distance_to y = record { walk = λ x n w e. distance_walk x y n e; short = λ x r w k e. distance_short x y r k e }

    -- .. and that from x
    pub distance_away : (x : ℕ) → T (within 1 b.benches x) → Away b.benches (steps b) x (distance b x)
    distance_away x w = record { walk = λ y n u e. distance_walk x y n e; short = λ y r u k e. distance_short x y r k e }
