-- Writing a job anew keeps a board valid. Flipping a path does, too: the first bench's load falls by one and the last one's rises, and
-- only the path's jobs change holder.
use Prim.Native.Nat.{ℕ, zero, suc, ◌+◌, ◌≤◌}
use native.Mathlib.Omega.{arith}
use mathlib.Core.Path.{◌≡◌, refl, sym, ap, subst, ◌∙◌}
use mathlib.Core.Logic.{inl, inr, ◌≢◌}
use mathlib.Core.Bool.{not}
use mathlib.Core.List.{List, [], ◌∷◌}
use lib.Dec.{T, eqb}
use lib.ListN.{length}
use Rattle.spec_lists.specs.Lists.{bit, within, member, distinct, In, nth, update}
use Rattle.spec_table.specs.Board.{Board, Valid, names_of, holder_of, stands, put, load, may_hold, Shares, names_fit}
use Rattle.spec_sharing.specs.Paths.{Step, steps, BenchPath, end_of, last, jobs, Walk, IsPath, hand_over, flip}
use Rattle.spec_lists.proofs.Tests.{true→T, both, within_low, within_high}
use Rattle.spec_lists.proofs.Elements.{nth_update_same, nth_update_other, length_update, update_same, each_update, map_in}
use Rattle.spec_lists.proofs.NumberLists.{not_member, distinct_head, distinct_tail}
use Rattle.spec_table.proofs.Named.{length_shares, stands_within, named_stands, named_may}
use Rattle.spec_lists.proofs.Counting.{count_update}
use Rattle.spec_sharing.proofs.Paths.{step_is, benches_of, jobs_of}

-- writing a job's names and its bench anew leaves a sharing ..
pub shares_written : (named : List (List ℕ)) (holders : List ℕ) (j : ℕ) (names : List ℕ) (a : ℕ) → Shares named holders → T (may_hold names a) → Shares (update named j names) (update holders j a)
shares_written named holders zero names a s t = s
shares_written [] [] (suc i) names a s t = tt
shares_written [] (h ∷ holders) (suc i) names a s t = absurd s
shares_written (n ∷ named) [] (suc i) names a s t = absurd s
shares_written (n ∷ named) (h ∷ holders) (suc zero) names a s t = (t, s.1)
shares_written (n ∷ named) (h ∷ holders) (suc (suc i)) names a s t = (s.0, shares_written named holders (suc i) names a s.1 t)

-- .. a valid board ..
pub put_valid : (b : Board) → Valid b → (j : ℕ) (names : List ℕ) (a : ℕ) → T (names_fit b.benches names) → T (may_hold names a) → Valid (put b j names a)
put_valid b v j names a f t =
    record { names = each_update (λ l. T (names_fit b.benches l)) b.named j names f v.names; shares = shares_written b.named b.holders j names a v.shares t }

-- .. and giving the job to a bench that it names leaves a sharing
pub shares_given : (named : List (List ℕ)) (holders : List ℕ) (j a : ℕ) → Shares named holders → T (may_hold (nth named j []) a) → Shares named (update holders j a)
shares_given named holders j a s t = let w = shares_written named holders j (nth named j []) a s t in rw (update_same named j []) at w

-- a job that is not on the route stays where it is ..
hand_over_keeps : (holders : List ℕ) (r : List Step) (i : ℕ) → (In i (jobs_of r) → ⊥) → nth (hand_over holders r) i 0 ≡ nth holders i 0
hand_over_keeps holders [] i k = refl
hand_over_keeps holders (s ∷ r) i k =
    hand_over_keeps (update holders s.job s.to) r i (λ m. k (inr m)) ∙ nth_update_other holders s.job i s.to 0 (λ e. k (inl e))

-- .. and one that is on it once goes where its step leads
hand_over_gives : (holders : List ℕ) (r : List Step) (s : Step) → In s r → T (distinct (jobs_of r)) → 1 ≤ s.job → s.job ≤ length holders → nth (hand_over holders r) s.job 0 ≡ s.to
hand_over_gives holders [] s i d l u = absurd i
hand_over_gives holders (t ∷ r) s (inl e) d l u =
    rw e (hand_over_keeps (update holders t.job t.to) r t.job (distinct_head t.job (jobs_of r) d) ∙ nth_update_same holders t.job t.to 0 (rw e at l) (rw e at u))
hand_over_gives holders (t ∷ r) s (inr i) d l u =
    hand_over_gives (update holders t.job t.to) r s i (distinct_tail t.job (jobs_of r) d) l (omega (arith, length_update holders t.job t.to))

-- a sharing stays one if each step of the route leads to a bench that its job names
hand_over_shares : (named : List (List ℕ)) (holders : List ℕ) (r : List Step) → Shares named holders → ((s : Step) → In s r → T (may_hold (nth named s.job []) s.to)) → Shares named (hand_over holders r)
hand_over_shares named holders [] k f = k
hand_over_shares named holders (s ∷ r) k f =
    hand_over_shares named (update holders s.job s.to) r (shares_given named holders s.job s.to k (f s (inl refl))) (λ t i. f t (inr i))

-- a step of a walk is a step from some bench
walk_step : (out : ℕ → List Step) (x : ℕ) (r : List Step) → Walk out x r → (s : Step) → In s r → (y : ℕ) × In s (out y)
walk_step out x [] w s i = absurd i
walk_step out x (t ∷ r) w s (inl e) = (x, rw e w.0)
walk_step out x (t ∷ r) w s (inr i) = walk_step out t.to r w.1 s i

-- a bench that the walk does not come to holds none of its jobs ..
pub walk_leaves : (b : Board) (x : ℕ) (r : List Step) → Walk (steps b) x r → (j : ℕ) → (In (holder_of b j) (x ∷ benches_of r) → ⊥) → In j (jobs_of r) → ⊥
walk_leaves b x [] w j f i = i
walk_leaves b x (s ∷ r) w j f (inl e) = f (inl (ap (holder_of b) e ∙ (step_is b x s w.0).0))
walk_leaves b x (s ∷ r) w j f (inr i) = walk_leaves b s.to r w.1 j (λ k. f (inr k)) i

-- .. so a walk that comes to no bench twice has no job twice
walk_jobs : (b : Board) (x : ℕ) (r : List Step) → Walk (steps b) x r → T (distinct (x ∷ benches_of r)) → T (distinct (jobs_of r))
walk_jobs b x [] w d = tt
walk_jobs b x (s ∷ r) w d =
    let e = (step_is b x s w.0).0 in
    let f = walk_leaves b s.to r w.1 s.job (subst (λ y. In y (benches_of (s ∷ r)) → ⊥) (sym e) (distinct_head x (benches_of (s ∷ r)) d)) in
    both (not (member s.job (jobs_of r))) (distinct (jobs_of r)) (not_member s.job (jobs_of r) f) (walk_jobs b s.to r w.1 (distinct_tail x (benches_of (s ∷ r)) d))

module _ (b : Board) (v : Valid b) where
  step_within : (x : ℕ) (s : Step) → In s (steps b x) → T (within 1 (length b.holders) s.job)
  step_within x s i =
      rw (length_shares b.named b.holders v.shares) (stands_within b s.job (named_stands b s.job s.to (step_is b x s i).1))

  -- loads along a walk: the holders of its jobs are the board's, the others may be changed already
  walk_loads : (holders : List ℕ) → length holders ≡ length b.holders → (x : ℕ) (r : List Step) → Walk (steps b) x r → T (distinct (jobs_of r)) → ((i : ℕ) → In i (jobs_of r) → nth holders i 0 ≡ holder_of b i) → (y : ℕ) → load (hand_over holders r) y + bit (eqb x y) ≡ load holders y + bit (eqb (end_of x r) y)
  walk_loads holders l x [] w d same y = refl
  walk_loads holders l x (s ∷ r) w d same y =
      let j = s.job in
      let next = update holders j s.to in
      let long : length next ≡ length b.holders = length_update holders j s.to ∙ l in
      let unchanged : (i : ℕ) → In i (jobs_of r) → nth next i 0 ≡ holder_of b i = λ i k. nth_update_other holders j i s.to 0 (λ e. distinct_head j (jobs_of r) d (rw (sym e) k)) ∙ same i (inr k) in
      let ih = walk_loads next long s.to r w.1 (distinct_tail j (jobs_of r) d) unchanged y in
      let t = step_within x s w.0 in
      let one = count_update holders j s.to y (within_low 1 (length b.holders) j t) (omega (arith, within_high 1 (length b.holders) j t)) in
      omega (arith, ih, one, ap (λ (z : ℕ). bit (eqb z y)) (same j (inl refl) ∙ (step_is b x s w.0).0))

module _ (b : Board) (v : Valid b) (p : BenchPath) (h : IsPath b p) where
  path_step : (s : Step) → In s p.route → (y : ℕ) × In s (steps b y)
  path_step s i = walk_step (steps b) p.start p.route h.walk s i

  -- a path's jobs stand ..
  pub path_stands : (i : ℕ) → In i (jobs p) → T (stands b i)
  path_stands i k =
      let m = map_in (λ (s : Step). s.job) i p.route k in
      let s = m.0 in
      let w = path_step s m.1 in
      rw m.2 (named_stands b s.job s.to (step_is b w.0 s w.1).1)

  -- .. and none is on it twice
  pub path_jobs : T (distinct (jobs p))
  path_jobs = walk_jobs b p.start p.route h.walk (true→T (distinct (p.start ∷ benches_of p.route)) h.once)

  -- loads: one less at the path's first bench, one more at its last, none else
  pub flip_loads : (y : ℕ) → load (flip b p).holders y + bit (eqb p.start y) ≡ load b.holders y + bit (eqb (last p) y)
  unfolding flip
  flip_loads y = walk_loads b v b.holders refl p.start p.route h.walk path_jobs (λ i k. refl) y

  -- the flipped board is valid: each job of the path goes to a bench that it names
  pub flip_valid : Valid (flip b p)
  unfolding flip
  flip_valid = record { names = v.names; shares = hand_over_shares b.named b.holders p.route v.shares may }
    where
      may : (s : Step) → In s p.route → T (may_hold (names_of b s.job) s.to)
      may s i = let w = path_step s i in named_may (names_of b s.job) s.to (step_is b w.0 s w.1).1

  -- a job of the path goes where its step leads ..
  pub flip_gives : (s : Step) → In s p.route → holder_of (flip b p) s.job ≡ s.to
  unfolding flip
  flip_gives s i =
      let w = path_step s i in
      let t = step_within b v w.0 s w.1 in
      let n = length b.holders in
      hand_over_gives b.holders p.route s i path_jobs (within_low 1 n s.job t) (within_high 1 n s.job t)

  -- .. so it changes its holder ..
  pub flip_moves : (i : ℕ) → In i (jobs p) → holder_of (flip b p) i ≢ holder_of b i
  flip_moves i k e =
      let m = map_in (λ (s : Step). s.job) i p.route k in
      let s = m.0 in
      let w = path_step s m.1 in
      let is = step_is b w.0 s w.1 in
      is.2 (sym (flip_gives s m.1) ∙ (rw m.2 at e) ∙ is.0)

  -- .. and no other job does
  pub flip_keeps : (i : ℕ) → (In i (jobs p) → ⊥) → holder_of (flip b p) i ≡ holder_of b i
  unfolding flip
  flip_keeps i k = hand_over_keeps b.holders p.route i k
