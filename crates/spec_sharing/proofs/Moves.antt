-- 02, request 04: the jobs that an arrival and a closing move are the rule's path, the new job left out; that one, if it is on the
-- path, is its first step.
use Prim.Native.Nat.{ℕ}
use mathlib.Core.Path.{◌≡◌, refl, sym, subst, ◌∙◌}
use mathlib.Core.Logic.{◌⊎◌, inl, inr}
use mathlib.Core.Bool.{Bool, not}
use mathlib.Core.List.{List, [], ◌∷◌}
use mathlib.Core.Option.{none, some}
use lib.Dec.{T, eqb}
use lib.ListN.{length}
use Rattle.spec_lists.specs.Lists.{within, distinct, filter, In}
use Rattle.spec_table.specs.Board.{Board, Valid, holder_of, put}
use Rattle.spec_sharing.specs.Paths.{Step, BenchPath, path_by, jobs, IsPath}
use Rattle.spec_sharing.specs.Sharing.{lightest_named, arrival_choice, closing_choice, arrive, close}
use Rattle.spec_lists.proofs.Tests.{true→T, Compared, same, other, compared}
use Rattle.spec_lists.proofs.NumberLists.{distinct_head, others_all, others_rest}
use Rattle.spec_sharing.proofs.Paths.{benches_of, jobs_of, improving_from_only}
use Rattle.spec_sharing.proofs.Choice.{arrival_choice_lem}
use Rattle.spec_sharing.proofs.Flip.{walk_leaves}
use Rattle.spec_sharing.proofs.Changes.{put_holder}

-- a list of jobs but for j
abbrev but : ℕ → List ℕ → List ℕ
but j l = filter (λ i. not (eqb i j)) l

module _ (c : Board) (y j : ℕ) (e : holder_of c j ≡ y) where
  -- a job that the path's first bench holds is on no later step: a path comes to no bench twice
  pub held_first : (q : Step) (l : List Step) → IsPath c (path_by y (q ∷ l)) → In j (jobs_of l) → ⊥
  held_first q l h =
      let apart = distinct_head y (q.to ∷ benches_of l) (true→T (distinct (y ∷ q.to ∷ benches_of l)) h.once) in
      walk_leaves c q.to l h.walk.1 j (λ i. apart (subst (λ (z : ℕ). In z (q.to ∷ benches_of l)) e i))

  -- so the path but for that job is what comes after it ..
  pub but_first : (q : Step) (l : List Step) → IsPath c (path_by y (q ∷ l)) → q.job ≡ j → but j (jobs_of (q ∷ l)) ≡ jobs_of l
  but_first q l h f = others_rest j q.job (jobs_of l) f (held_first q l h)

  -- .. or the whole path
  path_but : (l : List Step) → IsPath c (path_by y l) → let m = but j (jobs_of l) in (jobs_of l ≡ j ∷ m) ⊎ ((jobs_of l ≡ m) × (In j (jobs_of l) → ⊥))
  path_but [] h = inr (refl, λ i. i)
  path_but (q ∷ l) h = go (compared q.job j)
    where
      go : {z : Bool} → Compared q.job j z → let m = but j (jobs_of (q ∷ l)) in (jobs_of (q ∷ l) ≡ j ∷ m) ⊎ ((jobs_of (q ∷ l) ≡ m) × (In j (jobs_of (q ∷ l)) → ⊥))
      go (same f) = let r = sym (but_first q l h f) in inl (λ i. f i ∷ r i)
      go (other d) =
          let n : In j (jobs_of (q ∷ l)) → ⊥ = λ i. elim i [ inl f ↦ d (sym f) | inr k ↦ held_first q l h k ] in
          inr (sym (others_all j (jobs_of (q ∷ l)) n), n)

-- an arrival

module _ (b : Board) (v : Valid b) (j : ℕ) (names : List ℕ) (t : T (within 1 (length b.named) j)) where
  -- "those that changed holder, the new job left out": the new job is the path's first, and the others are moved; or it is not on the
  -- path, and all are
  pub arrival_moves : (p : BenchPath) → let x = lightest_named b.holders names in arrival_choice (put b j names x) x ≡ some p → let m = (arrive b j names).moved in (jobs p ≡ j ∷ m) ⊎ ((jobs p ≡ m) × (In j (jobs p) → ⊥))
  unfolding arrive
  arrival_moves p q =
      let x = lightest_named b.holders names in
      let c = put b j names x in
      let only = improving_from_only c x p ((arrival_choice_lem c x p).0 q).listed_is in
      rw q (path_but c p.start j (put_holder b v j names x t ∙ sym only.1) p.route only.0)

  -- where the rule names no path, no job moves
  pub arrival_rests : let x = lightest_named b.holders names in arrival_choice (put b j names x) x ≡ none → (arrive b j names).moved ≡ []
  unfolding arrive
  arrival_rests q = rw q

-- a closing moves all of its path
pub closing_moves : (b : Board) (j : ℕ) (p : BenchPath) → closing_choice (put b j [] 0) (holder_of b j) ≡ some p → (close b j).moved ≡ jobs p
unfolding close
closing_moves b j p q = rw q

-- .. and none where there is no path
pub closing_rests : (b : Board) (j : ℕ) → closing_choice (put b j [] 0) (holder_of b j) ≡ none → (close b j).moved ≡ []
unfolding close
closing_rests b j q = rw q
