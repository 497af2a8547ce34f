-- The trails of a search: by which path each bench was found. A breadth-first search that takes each bench's jobs in rising order finds
-- benches in the order of their first paths; here that is four facts of what it leaves (`Trails`), and the laws over them.
use Prim.Native.Nat.{ℕ, zero, suc, ◌+◌, ◌≤◌, ◌<◌}
use native.Mathlib.Omega.{arith}
use native.Mathlib.Decide.{dec_lt}
use mathlib.Core.Path.{◌≡◌, refl, sym, ap, subst, ◌∙◌}
use mathlib.Core.Logic.Iff
use mathlib.Core.Logic.{◌⊎◌, inl, inr, ◌↔◌}
use mathlib.Core.List.{List, [], ◌∷◌, ◌++◌, append-nil, append_assoc, map-append}
use mathlib.Core.Option.{none, some}
use lib.Dec.{T}
use lib.ListN.{length, length-append, length-map}
use Rattle.spec_lists.specs.Lists.{within, distinct, lex_le, In}
use Rattle.spec_table.specs.Board.{Board, Valid, load}
use Rattle.spec_sharing.specs.Paths.{Step, steps, BenchPath, path_by, end_of, last, jobs, Walk, IsPath, improving_to}
use Rattle.spec_sharing.specs.Sharing.{below, closing_key, closing_choice}
use Rattle.spec_sharing.specs.Searches.{Reach, distance, FirstList, further, search_key, NoLater, Sooner}
use Rattle.spec_lists.proofs.Tests.{T→true}
use Rattle.spec_lists.proofs.Elements.{in_empty}
use Rattle.spec_table.proofs.Loads.{load_heaviest}
use Rattle.spec_sharing.proofs.Paths.{benches_of, improves_loads, loads_improve, improving_to_only, improving_to_every}
use Rattle.spec_sharing.proofs.Choice.{lex_le_lower, lex_le_same, lex_le_either, lex_le_refl, lex_le_trans, lex_le_total, argmin_empty, decided, ClosingFirst, closing_first, closing_choice_lem}
use Rattle.spec_sharing.proofs.Walks.{reach_all, walk_join, end_join, fewest_once}
use Rattle.spec_sharing.proofs.Distances.{To}
use Rattle.spec_sharing.proofs.Far.{distance_to}

-- what a search over a set of starts leaves. Its benches may have one key: those that one job led to from benches with one key do, and form
-- a group
pub record Trails (out : ℕ → List Step) (rank : ℕ → ℕ) (Start Found Open : ℕ → Type 0) (trail : ℕ → BenchPath) : Type 0 where
  -- a start is found, at latest by itself
  pub own : (v : ℕ) → Start v → Found v × NoLater rank (trail v) (path_by v [])
  -- a bench's trail leads to it from a start
  pub walk : (y : ℕ) → Found y → Start (trail y).start × Walk out (trail y).start (trail y).route × (last (trail y) ≡ y)
  -- a step from a found bench leads to a bench that was found at latest by it, or the bench is still open
  pub on : (w : ℕ) (q : Step) → Found w → In q (out w) → (Found q.to × NoLater rank (trail q.to) (further (trail w) q)) ⊎ Open w
  -- what was found was found at latest by every step from an open bench
  pub later : (u : ℕ) (q : Step) → Open u → In q (out u) → (y : ℕ) → Found y → NoLater rank (trail y) (further (trail u) q)

-- a step from an open bench comes no later than the path p
pub record Beyond (out : ℕ → List Step) (rank : ℕ → ℕ) (Open : ℕ → Type 0) (trail : ℕ → BenchPath) (p : BenchPath) : Type 0 where
  pub bench : ℕ
  pub step : Step
  pub is_open : Open bench
  pub is : In step (out bench)
  pub no_later : NoLater rank (further (trail bench) step) p

-- lists one behind the other, in dictionary order

-- of two lists as long as each other what stands in front decides ..
pub lex_le_front : (k l m n : List ℕ) → length k ≡ length l → T (lex_le (k ++ m) (l ++ n)) → T (lex_le k l)
lex_le_front [] l m n e t = tt
lex_le_front (x ∷ k) [] m n e t = absurd (omega arith)
lex_le_front (x ∷ k) (y ∷ l) m n e t = go (lex_le_either x y (k ++ m) (l ++ n) t) (lex_le_front k l m n (omega arith))
  where
    go : (x < y) ⊎ ((x ≡ y) × T (lex_le (k ++ m) (l ++ n))) → (T (lex_le (k ++ m) (l ++ n)) → T (lex_le k l)) → T (lex_le (x ∷ k) (y ∷ l))
    go (inl h) ih = lex_le_lower x y k l h
    go (inr h) ih = lex_le_same x y k l h.0 (ih h.1)

-- .. so what comes first still does with lists behind that come in the same order ..
pub lex_le_append : (k l m n : List ℕ) → length k ≡ length l → T (lex_le k l) → T (lex_le m n) → T (lex_le (k ++ m) (l ++ n))
lex_le_append [] [] m n e t u = u
lex_le_append [] (y ∷ l) m n e t u = absurd (omega arith)
lex_le_append (x ∷ k) [] m n e t u = absurd t
lex_le_append (x ∷ k) (y ∷ l) m n e t u = go (lex_le_either x y k l t) (λ s. lex_le_append k l m n (omega arith) s u)
  where
    go : (x < y) ⊎ ((x ≡ y) × T (lex_le k l)) → (T (lex_le k l) → T (lex_le (k ++ m) (l ++ n))) → T (lex_le (x ∷ (k ++ m)) (y ∷ (l ++ n)))
    go (inl h) ih = lex_le_lower x y (k ++ m) (l ++ n) h
    go (inr h) ih = lex_le_same x y (k ++ m) (l ++ n) h.0 (ih h.1)

-- .. and behind one and the same list the rests decide
pub lex_le_behind : (k m n : List ℕ) → T (lex_le (k ++ m) (k ++ n)) → T (lex_le m n)
lex_le_behind [] m n t = t
lex_le_behind (x ∷ k) m n t = elim (lex_le_either x x (k ++ m) (k ++ n) t) [ inl h ↦ absurd (omega arith) | inr h ↦ lex_le_behind k m n h.1 ]

-- keys

-- a path with one step more has its job behind the others
pub further_jobs : (p : BenchPath) (q : Step) → jobs (further p q) ≡ jobs p ++ (q.job ∷ [])
further_jobs p q = map-append (λ s. s.job) p.route (q ∷ [])

-- and is longer by one
pub further_length : (p : BenchPath) (q : Step) → length (further p q).route ≡ suc (length p.route)
further_length p q = omega (arith, length-append p.route (q ∷ []))

-- routes of one length have as many jobs
jobs_length : (p q : BenchPath) → length p.route ≡ length q.route → length (jobs p) ≡ length (jobs q)
jobs_length p q e = length-map p.route (λ s. s.job) ∙ e ∙ sym (length-map q.route (λ s. s.job))

module _ (rank : ℕ → ℕ) where
  -- the order of the keys in words
  abbrev Precedes : BenchPath → BenchPath → Type 0
  Precedes p q =
      (rank p.start < rank q.start) ⊎
      ((rank p.start ≡ rank q.start) ×
      ((length p.route < length q.route) ⊎
      ((length p.route ≡ length q.route) ×
      ((p.start < q.start) ⊎ ((p.start ≡ q.start) × T (lex_le (jobs p) (jobs q)))))))

  -- the keys say those words
  no_later_words : (p q : BenchPath) → NoLater rank p q ↔ Precedes p q
  no_later_words p q =
      decided (rank p.start) (rank q.start) (length p.route ∷ p.start ∷ jobs p) (length q.route ∷ q.start ∷ jobs q) Iff.rfl Iff.rfl
      (decided (length p.route) (length q.route) (p.start ∷ jobs p) (q.start ∷ jobs q) Iff.rfl Iff.rfl
      (decided p.start q.start (jobs p) (jobs q) Iff.rfl Iff.rfl Iff.rfl))

  -- what comes sooner comes no later
  pub sooner_no_later : (p q : BenchPath) → Sooner rank p q → NoLater rank p q
  sooner_no_later p q s = elim (lex_le_total (search_key rank p) (search_key rank q)) [ inl t ↦ t | inr t ↦ absurd (s t) ]

  -- no path comes later than itself
  pub no_later_refl : (p : BenchPath) → NoLater rank p p
  no_later_refl p = lex_le_refl (search_key rank p)

  -- one after the other no later is no later
  pub no_later_trans : (p q r : BenchPath) → NoLater rank p q → NoLater rank q r → NoLater rank p r
  no_later_trans p q r s t = lex_le_trans (search_key rank p) (search_key rank q) (search_key rank r) s t

  -- no later means no higher rank of the start ..
  pub no_later_rank : (p q : BenchPath) → NoLater rank p q → rank p.start ≤ rank q.start
  no_later_rank p q t = go ((no_later_words p q).0 t)
    where
      go : Precedes p q → rank p.start ≤ rank q.start
      go (inl h) = omega arith
      go (inr h) = omega (arith, h.0)

  -- .. then no more jobs ..
  pub no_later_length : (p q : BenchPath) → NoLater rank p q → rank p.start ≡ rank q.start → length p.route ≤ length q.route
  no_later_length p q t e = go ((no_later_words p q).0 t)
    where
      go : Precedes p q → length p.route ≤ length q.route
      go (inl h) = absurd (omega arith)
      go (inr (d, inl h)) = omega arith
      go (inr (d, inr h)) = omega (arith, h.0)

  -- .. then no higher start ..
  pub no_later_start : (p q : BenchPath) → NoLater rank p q → rank p.start ≡ rank q.start → length p.route ≡ length q.route → p.start ≤ q.start
  no_later_start p q t e l = go ((no_later_words p q).0 t)
    where
      go : Precedes p q → p.start ≤ q.start
      go (inl h) = absurd (omega arith)
      go (inr (d, inl h)) = absurd (omega arith)
      go (inr (d, inr (m, inl h))) = omega arith
      go (inr (d, inr (m, inr h))) = omega (arith, h.0)

  -- .. then the first list
  pub no_later_jobs : (p q : BenchPath) → NoLater rank p q → p.start ≡ q.start → length p.route ≡ length q.route → T (lex_le (jobs p) (jobs q))
  no_later_jobs p q t e l = go ((no_later_words p q).0 t)
    where
      go : Precedes p q → T (lex_le (jobs p) (jobs q))
      go (inl h) = absurd (omega (arith, ap rank e))
      go (inr (d, inl h)) = absurd (omega arith)
      go (inr (d, inr (m, inl h))) = absurd (omega arith)
      go (inr (d, inr (m, inr h))) = h.1

  -- a path from a start of lower rank comes sooner ..
  pub rank_sooner : (p q : BenchPath) → rank p.start < rank q.start → Sooner rank p q
  rank_sooner p q h t = omega (arith, no_later_rank q p t)

  -- .. so does one with fewer jobs, from a start of no higher rank ..
  pub length_sooner : (p q : BenchPath) → rank p.start ≤ rank q.start → length p.route < length q.route → Sooner rank p q
  length_sooner p q h l t =
      let e : rank q.start ≡ rank p.start = omega (arith, no_later_rank q p t) in
      omega (arith, no_later_length q p t e)

  -- .. and of two starts the lower one, if its rank is no higher
  pub start_sooner : (v w : ℕ) → rank v ≤ rank w → v < w → Sooner rank (path_by v []) (path_by w [])
  start_sooner v w h l t =
      let e : rank w ≡ rank v = omega (arith, no_later_rank (path_by w []) (path_by v []) t) in
      omega (arith, no_later_start (path_by w []) (path_by v []) t e refl)

  -- one step more comes later
  pub further_later : (p : BenchPath) (q : Step) → Sooner rank p (further p q)
  further_later p q = length_sooner p (further p q) (omega arith) (omega (arith, further_length p q))

  -- of two steps from the end of one path the one by the lower job leads on sooner
  pub further_job : (p : BenchPath) (j k : Step) → j.job < k.job → Sooner rank (further p j) (further p k)
  further_job p j k h t =
      let l : length (further p k).route ≡ length (further p j).route = omega (arith, further_length p k, further_length p j) in
      let u = rw (further_jobs p k, further_jobs p j) at (no_later_jobs (further p k) (further p j) t refl l) in
      elim (lex_le_either k.job j.job [] [] (lex_le_behind (jobs p) (k.job ∷ []) (j.job ∷ []) u)) [ inl i ↦ omega arith | inr i ↦ omega (arith, i.0) ]

  -- what comes sooner still does with a step more each, whatever the steps
  pub further_sooner : (p q : BenchPath) → Sooner rank p q → (j k : Step) → Sooner rank (further p j) (further q k)
  further_sooner p q s j k t = s ((no_later_words q p).1 (go ((no_later_words (further q k) (further p j)).0 t)))
    where
      longer : (length (further q k).route ≡ suc (length q.route)) × (length (further p j).route ≡ suc (length p.route))
      longer = (further_length q k, further_length p j)

      go : Precedes (further q k) (further p j) → Precedes q p
      go (inl h) = inl h
      go (inr (d, inl h)) = inr (d, inl (omega (arith, longer)))
      go (inr (d, inr (m, inl h))) = inr (d, inr (omega (arith, longer), inl h))
      go (inr (d, inr (m, inr (e, u)))) =
          let l : length q.route ≡ length p.route = omega (arith, longer) in
          inr (d, inr (l, inr (e, lex_le_front (jobs q) (jobs p) (k.job ∷ []) (j.job ∷ []) (jobs_length q p l) (rw (further_jobs q k, further_jobs p j) at u))))

  -- and what comes no later still does with steps by one job
  pub further_no_later : (p q : BenchPath) → NoLater rank p q → (j k : Step) → j.job ≡ k.job → NoLater rank (further p j) (further q k)
  further_no_later p q s j k e = (no_later_words (further p j) (further q k)).1 (go ((no_later_words p q).0 s))
    where
      longer : (length (further p j).route ≡ suc (length p.route)) × (length (further q k).route ≡ suc (length q.route))
      longer = (further_length p j, further_length q k)

      go : Precedes p q → Precedes (further p j) (further q k)
      go (inl h) = inl h
      go (inr (d, inl h)) = inr (d, inl (omega (arith, longer)))
      go (inr (d, inr (m, inl h))) = inr (d, inr (omega (arith, longer), inl h))
      go (inr (d, inr (m, inr (f, u)))) =
          inr (d, inr (omega (arith, longer), inr (f, rw (further_jobs p j, further_jobs q k) (lex_le_append (jobs p) (jobs q) (j.job ∷ []) (k.job ∷ []) (jobs_length p q m) u (lex_le_same j.job k.job [] [] e tt)))))

-- the law of trails

module _ {out : ℕ → List Step} {rank : ℕ → ℕ} {Start Found Open : ℕ → Type 0} {trail : ℕ → BenchPath} (h : Trails out rank Start Found Open trail) where
  -- a walk has come to y by the path p: y was found at latest by p, or a step from an open bench comes no later than p
  abbrev Come : BenchPath → ℕ → Type 0
  Come p y = (Found y × NoLater rank (trail y) p) ⊎ Beyond out rank Open trail p

  -- it goes on by one step ..
  come_further : (p : BenchPath) (y : ℕ) (q : Step) → In q (out y) → Come p y → Come (further p q) q.to
  come_further p y q i (inl (f, l)) = go (h.on y q f i) (further_no_later rank (trail y) p l q q refl)
    where
      go : (Found q.to × NoLater rank (trail q.to) (further (trail y) q)) ⊎ Open y → NoLater rank (further (trail y) q) (further p q) → Come (further p q) q.to
      go (inl (g, m)) n = inl (g, no_later_trans rank (trail q.to) (further (trail y) q) (further p q) m n)
      go (inr o) n = inr (record { bench = y; step = q; is_open = o; is = i; no_later = n })
  come_further p y q i (inr b) =
      let n = sooner_no_later rank p (further p q) (further_later rank p q) in
      inr (record { bench = b.bench; step = b.step; is_open = b.is_open; is = b.is; no_later = no_later_trans rank (further (trail b.bench) b.step) p (further p q) b.no_later n })

  -- .. and by all steps of a walk
  come_along : (p : BenchPath) (y : ℕ) (r : List Step) → Walk out y r → Come p y → Come (path_by p.start (p.route ++ r)) (end_of y r)
  come_along p y [] w c = rw (append-nil p.route) c
  come_along p y (q ∷ r) w c = rw (append_assoc p.route (q ∷ []) r) at (come_along (further p q) q.to r w.1 (come_further p y q w.0 c))

  -- the bench where a walk from a start ends was found at latest by that walk, or a step from an open bench comes no later than it
  pub trail_first : (v : ℕ) (r : List Step) → Start v → Walk out v r → (Found (end_of v r) × NoLater rank (trail (end_of v r)) (path_by v r)) ⊎ Beyond out rank Open trail (path_by v r)
  trail_first v r s w = come_along (path_by v []) v r w (inl (h.own v s))

  -- so a bench that was found was found at latest by every walk to it from a start
  pub found_first : (v : ℕ) (r : List Step) → Start v → Walk out v r → Found (end_of v r) → NoLater rank (trail (end_of v r)) (path_by v r)
  found_first v r s w f = go (trail_first v r s w)
    where
      go : Come (path_by v r) (end_of v r) → NoLater rank (trail (end_of v r)) (path_by v r)
      go (inl (g, n)) = n
      go (inr b) = no_later_trans rank (trail (end_of v r)) (further (trail b.bench) b.step) (path_by v r) (h.later b.bench b.step b.is_open b.is (end_of v r) f) b.no_later

  -- the same for a bench y that is its end
  pub found_by : (v : ℕ) (r : List Step) → Start v → Walk out v r → (y : ℕ) → end_of v r ≡ y → Found y → NoLater rank (trail y) (path_by v r)
  found_by v r s w y e = subst (λ (z : ℕ). Found z → NoLater rank (trail z) (path_by v r)) e (found_first v r s w)

  -- a bench that was found is reached from a start, that of its trail
  pub trail_reach : (y : ℕ) → Found y → Start (trail y).start × Reach out (trail y).start y
  trail_reach y f = let (s, w, e) = h.walk y f in (s, ((trail y).route, w, e))

  -- where no bench is open, what is reached from a found bench was found
  pub trails_shut : ((u : ℕ) → Open u → ⊥) → (w y : ℕ) → Found w → Reach out w y → Found y
  trails_shut shut = reach_all out Found on
    where
      on : (z : ℕ) (s : Step) → Found z → In s (out z) → Found s.to
      on z s f i = elim (h.on z s f i) [ inl g ↦ g.0 | inr o ↦ absurd (shut z o) ]

-- one start

module _ (b : Board) (valid : Valid b) (v : ℕ) (bench : T (within 1 b.benches v)) {rank : ℕ → ℕ} {Found Open : ℕ → Type 0} {trail : ℕ → BenchPath} (h : Trails (steps b) rank (λ z. z ≡ v) Found Open trail) where
  -- a trail starts at v, and is a walk from there
  trail_walk : (y : ℕ) → Found y → ((trail y).start ≡ v) × Walk (steps b) v (trail y).route × (end_of v (trail y).route ≡ y)
  trail_walk y f =
      let (s, w, e) = h.walk y f in
      (s, subst (λ (z : ℕ). Walk (steps b) z (trail y).route) s w, ap (λ (z : ℕ). end_of z (trail y).route) (sym s) ∙ e)

  -- a trail has as many steps as the distance says ..
  pub trail_distance : (y : ℕ) → Found y → distance b v y ≡ suc (length (trail y).route)
  trail_distance y f = go (distance b v y) refl
    where
      to : To b.benches (steps b) y (λ z. distance b z y)
      to = distance_to b valid y

      own : ((trail y).start ≡ v) × Walk (steps b) v (trail y).route × (end_of v (trail y).route ≡ y)
      own = trail_walk y f

      near : (1 ≤ distance b v y) × (distance b v y ≤ suc (length (trail y).route))
      near = to.short v (trail y).route bench own.1 own.2

      go : (n : ℕ) → distance b v y ≡ n → distance b v y ≡ suc (length (trail y).route)
      go zero e = absurd (omega (arith, near.0))
      go (suc n) e =
          let (r, w, d, l) = to.walk v n bench e in
          let m = no_later_length rank (trail y) (path_by v r) (found_by h v r refl w y d f) (ap rank own.0) in
          omega (arith, near.1)

  -- .. and the first list among so many
  pub trail_list : (y : ℕ) → Found y → FirstList b v y (distance b v y) (trail y).route
  trail_list y f =
      let (s, w, e) = trail_walk y f in
      record {
        walk = w;
        ends = e;
        long = trail_distance y f;
        first = λ q u d l. no_later_jobs rank (trail y) (path_by v q) (found_by h v q refl u y d f) s (sym l);
      }

  -- a bench that is reached but was not found is further away than an open one, by a step at least
  pub beyond_open : (e : ℕ) → (Found e → ⊥) → 1 ≤ distance b v e → (u : ℕ) × Open u × (suc (suc (length (trail u).route)) ≤ distance b v e)
  beyond_open e n i = far (distance b v e) refl i
    where
      -- v was found no later than by a step from an open bench, so that step's path has v's rank, and its length counts
      short : (r : List Step) → Beyond (steps b) rank Open trail (path_by v r) → (u : ℕ) × Open u × (suc (length (trail u).route) ≤ length r)
      short r c =
          let p = further (trail c.bench) c.step in
          let f = (h.own v refl).0 in
          let k = no_later_rank rank (trail v) p (h.later c.bench c.step c.is_open c.is v f) in
          let m : rank p.start ≡ rank v = omega (arith, no_later_rank rank p (path_by v r) c.no_later, ap rank (h.walk v f).0) in
          (c.bench, c.is_open, omega (arith, no_later_length rank p (path_by v r) c.no_later m, further_length (trail c.bench) c.step))

      far : (d : ℕ) → distance b v e ≡ d → 1 ≤ d → (u : ℕ) × Open u × (suc (suc (length (trail u).route)) ≤ d)
      far zero k l = absurd (omega arith)
      far (suc d) k l =
          let (r, w, g, m) = (distance_to b valid e).walk v d bench k in
          elim (trail_first h v r refl w) [
            | inl f ↦ absurd (n (subst Found g f.0))
            | inr c ↦ let (u, o, q) = short r c in (u, o, omega arith)
          ]

-- the closing

module _ (b : Board) (valid : Valid b) (x : ℕ) {Start Found Open : ℕ → Type 0} {trail : ℕ → BenchPath} (h : Trails (steps b) (below b) Start Found Open trail) where
  -- the closing at x chooses the trail to x, if every start is as heavy as an improving path to x asks, and every bench that is no lighter
  -- than the trail's start is a start too or was found from a bench heavier than itself
  pub closing_trail : Found x → ((v : ℕ) → Start v → T (within 1 b.benches v) × (load b.holders x + 2 ≤ load b.holders v)) → ((z : ℕ) → T (within 1 b.benches z) → load b.holders (trail x).start ≤ load b.holders z → Found z × (Start z ⊎ (load b.holders z < load b.holders (trail z).start))) → closing_choice b x ≡ some (trail x)
  closing_trail f starts heavy = (closing_choice_lem b x (trail x)).1 (record { listed_is = listed; before = before })
    where
      hold : ℕ → ℕ
      hold z = load b.holders z

      p : BenchPath
      p = trail x

      is : Start p.start × Walk (steps b) p.start p.route × (last p ≡ x)
      is = h.walk x f

      start : T (within 1 b.benches p.start) × (hold x + 2 ≤ hold p.start)
      start = starts p.start is.0

      -- no walk from the trail's start to x has fewer steps
      fewest : (q : List Step) → Walk (steps b) p.start q → end_of p.start q ≡ last p → length p.route ≤ length q
      fewest q w e = no_later_length (below b) p (path_by p.start q) (found_by h p.start q is.0 w x (e ∙ is.2) f) refl

      path : IsPath b p
      path =
          record {
            walk = is.1;
            once = T→true (distinct (p.start ∷ benches_of p.route)) (fewest_once (steps b) p.start p.route is.1 fewest);
          }

      listed : In p (improving_to b x)
      listed = subst (λ (y : ℕ). In p (improving_to b y)) is.2 (improving_to_every b valid p path (loads_improve b p (rw is.2 start.1)))

      -- a bench that reaches x and was found from a bench heavier than itself is lighter than the trail's start
      lighter : (z : ℕ) (r : List Step) → Walk (steps b) z r → end_of z r ≡ x → Found z → hold z < hold (trail z).start → hold z < hold p.start
      lighter z r w e g l =
          let (s, u, k) = h.walk z g in
          let v = (trail z).start in
          let way = walk_join (steps b) v (trail z).route r u (rw k w) in
          let end = end_join (steps b) v (trail z).route r ∙ ap (λ (y : ℕ). end_of y r) k ∙ e in
          let m = no_later_rank (below b) p (path_by v ((trail z).route ++ r)) (found_by h v ((trail z).route ++ r) s way x end f) in
          omega (arith, load_heaviest b p.start start.0, load_heaviest b v (starts v s).0)

      -- the trail comes no later than any walk to x from a bench of 1 to B
      no_later : (z : ℕ) (r : List Step) → T (within 1 b.benches z) → Walk (steps b) z r → end_of z r ≡ x → NoLater (below b) p (path_by z r)
      no_later z r t w e = go (dec_lt (hold z) (hold p.start))
        where
          found : hold p.start ≤ hold z → Found z × (Start z ⊎ (hold z < hold (trail z).start)) → NoLater (below b) p (path_by z r)
          found l (g, inl s) = found_by h z r s w x e f
          found l (g, inr k) = absurd (omega (arith, lighter z r w e g k))

          go : Dec (hold z < hold p.start) → NoLater (below b) p (path_by z r)
          go (yes l) =
              sooner_no_later (below b) p (path_by z r) (rank_sooner (below b) p (path_by z r) (omega (arith, load_heaviest b p.start start.0, load_heaviest b z t)))
          go (no l) = let m : hold p.start ≤ hold z = omega arith in found m (heavy z t m)

      before : (q : BenchPath) → In q (improving_to b x) → ClosingFirst b p q
      before q i =
          let (k, t, e, u) = improving_to_only b x q i in
          (closing_first b p q start.0 t).0 (no_later q.start q.route t k.walk e)

  -- it chooses none if x was not found, no bench is open, and every bench that is heavy enough for an improving path to x was found
  pub closing_trail_none : (Found x → ⊥) → ((u : ℕ) → Open u → ⊥) → ((z : ℕ) → T (within 1 b.benches z) → load b.holders x + 2 ≤ load b.holders z → Found z) → closing_choice b x ≡ none
  unfolding closing_choice
  closing_trail_none n shut heavy = argmin_empty (closing_key b) (improving_to b x) (in_empty (improving_to b x) never)
    where
      never : (q : BenchPath) → In q (improving_to b x) → ⊥
      never q i =
          let (k, t, e, u) = improving_to_only b x q i in
          let l : load b.holders x + 2 ≤ load b.holders q.start = omega (arith, improves_loads b q u, ap (load b.holders) e) in
          n (trails_shut h shut q.start x (heavy q.start t l) (q.route, k.walk, e))
