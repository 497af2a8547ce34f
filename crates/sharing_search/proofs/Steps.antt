-- A breadth-first search along jobs, step by step: what it knows at its start, after each step, each bench, each level and each start, and
-- that it leaves trails.
use Prim.Native.Nat.{ℕ, zero, suc, ◌+◌, ◌≤◌, ◌<◌}
use native.Mathlib.Omega.{arith}
use native.Mathlib.Decide.{ℕ_discrete, dec_lt}
use mathlib.Core.Path.{◌≡◌, refl, sym, ap, subst, ◌∙◌}
use mathlib.Core.Logic.{◌⊎◌, inl, inr, ◌≢◌}
use mathlib.Core.Bool.{cond}
use mathlib.Core.List.{List, [], ◌∷◌}
use lib.Dec.{T, eqb}
use lib.ListN.{length, set, replicate, length-set}
use lib.Seq.{get_or-set_same, get_or-set_other}
use borrow.Author.Tests.{ne_eqb}
use Rattle.spec_lists.specs.Lists.{within, In}
use Rattle.spec_table.specs.Board.{Board}
use Rattle.spec_table.specs.Table.{most_benches, most_jobs, Storable}
use Rattle.spec_sharing.specs.Paths.{Step, step_by, steps, BenchPath, path_by, last, Walk}
use Rattle.spec_sharing.specs.Searches.{further, NoLater, Sooner}
use Rattle.spec_lists.proofs.Tests.{eqb_refl, within_low, within_high}
use Rattle.spec_sharing.proofs.Distances.{storable_one_other, storable_steps}
use Rattle.spec_sharing.proofs.Walks.{walk_join, end_join}
use Rattle.spec_sharing.proofs.Trails.{Trails, further_length, sooner_no_later, no_later_refl, further_sooner, further_job, start_sooner, rank_sooner, length_sooner}
use Rattle.graph_lists.specs.Arrays.{at}
use Rattle.graph_lists.proofs.Listing.{array_at, array_long}
use Rattle.sharing_search.specs.Searching.{started, Course, at_place, at_level, at_round, Taken, Searching, Discovered, Open}
use Rattle.sharing_search.proofs.Queue.{found_none, found_more, found_few, discovered_had, discovered_new}

-- paths that are said in two ways
no_later_as : (rank : ℕ → ℕ) {p p' q q' : BenchPath} → p ≡ p' → q ≡ q' → NoLater rank p q → NoLater rank p' q'
no_later_as rank {p} {p'} {q} {q'} e f h =
    subst (λ (u : BenchPath). NoLater rank u q') e (subst (λ (u : BenchPath). NoLater rank p u) f h)

sooner_as : (rank : ℕ → ℕ) {p p' : BenchPath} (q : BenchPath) → p ≡ p' → Sooner rank p q → Sooner rank p' q
sooner_as rank q e h k = h (subst (λ (u : BenchPath). NoLater rank q u) (sym e) k)

-- where nothing is found yet, a search over a board that can be stored can begin
pub search_none : {c : Course} {benches : ℕ} {queue came : List ℕ} (b : Board) → Storable b → b.benches ≡ benches → c.out ≡ steps b → c.done ≡ 0 → c.end ≡ 0 → benches ≤ most_benches → length queue ≡ most_benches + 1 → came ≡ replicate (most_benches + 1) 0 → Searching c benches 0 0 queue came
search_none {c} {benches} {queue} {came} b storable same out done end few long e = record {
  trail = λ y. path_by y [];
  steps_in = λ z q i. rw same at (storable_steps b storable z q (rw out at i));
  one = λ z p q i j. storable_one_other b storable z p q (rw out at i) (rw out at j);
  few = few;
  queue_long = long;
  came_long = array_long 0 e;
  counted = sym (found_none most_benches e);
  bench = λ i h. absurd (omega arith);
  listed = λ y h. absurd (omega (arith, none y));
  marks = λ y. omega (arith, none y);
  sorted = λ i k l h. absurd (omega arith);
  own = λ v h. refl;
  from = λ y h d. absurd (omega (arith, none y));
  on = λ i q h. absurd (omega arith);
  place = omega arith;
  places = omega arith;
  ranked = λ i h. absurd (omega arith);
  round = λ i l h. absurd (omega arith);
  near = λ i l h. absurd (omega arith);
  far = λ i l h. absurd (omega arith);
}
  where
    none : (y : ℕ) → at came y ≡ 0
    none = array_at (most_benches + 1) e

-- the course at other places
abbrev moved : Course → ℕ → ℕ → ℕ → ℕ → Course
moved c now done end level = record { out = c.out; rank = c.rank; now = now; done = done; end = end; level = level }

module _ {c : Course} {benches low found : ℕ} {queue came : List ℕ} (S : Searching c benches low found queue came) where
  -- what was found is a bench
  pub found_bench : (y : ℕ) → 1 ≤ at came y → T (within 1 benches y)
  found_bench y h = let (i, l, e) = S.listed y h in subst (λ (y : ℕ). T (within 1 benches y)) e (S.bench i l).0

  found_high : (y : ℕ) → 1 ≤ at came y → y ≤ benches
  found_high y h = within_high 1 benches y (found_bench y h)

  -- no more benches are found than there are ..
  pub search_few : found ≤ benches
  search_few = rw S.counted (found_few most_benches benches came found_high)

  -- .. nor than there can be
  pub search_most : found ≤ most_benches
  search_most = omega (arith, search_few, S.few)

  -- the rank of no start is above that of the starts now searched from
  found_ranked : (y : ℕ) → 1 ≤ at came y → c.rank (S.trail y).start ≤ c.now
  found_ranked y h = let (i, l, e) = S.listed y h in subst (λ (y : ℕ). c.rank (S.trail y).start ≤ c.now) e (S.ranked i l)

  -- what was found was found before every step that is still to be taken
  before_step : (k : ℕ) (q : Step) → c.done ≤ k → k < found → (k ≡ c.done → low ≤ q.job) → (y : ℕ) → 1 ≤ at came y → Sooner c.rank (S.trail y) (further (S.trail (at queue k)) q)
  before_step k q l h above y m = elim (ℕ_discrete (at came y) started) [
    | yes e ↦ first e
    | no d ↦ let (i, _, t, _, e) = S.from y m d in sooner_as c.rank (further p q) (sym e) (later i t)
  ]
    where
      -- the trail of the bench that the step leaves
      p : BenchPath
      p = S.trail (at queue k)

      first : at came y ≡ started → Sooner c.rank (S.trail y) (further p q)
      first e =
          let o = S.own y e in
          length_sooner c.rank (S.trail y) (further p q) (omega (arith, found_ranked y m, S.round k l h)) (omega (arith, ap (λ (u : BenchPath). length u.route) o, further_length p q))

      later : (i : ℕ) → Taken c low i (at came y) → Sooner c.rank (further (S.trail (at queue i)) (step_by (at came y) y)) (further p q)
      later i (inl u) = further_sooner c.rank (S.trail (at queue i)) p (S.sorted i k (omega arith) h) (step_by (at came y) y) q
      later i (inr (e, u)) = elim (ℕ_discrete k c.done) [
        | yes f ↦
            sooner_as c.rank (further p q) (ap (λ (n : ℕ). further (S.trail (at queue n)) (step_by (at came y) y)) (f ∙ sym e)) (further_job c.rank p (step_by (at came y) y) q (omega (arith, above f)))
        | no d ↦ further_sooner c.rank (S.trail (at queue i)) p (S.sorted i k (omega arith) h) (step_by (at came y) y) q
      ]

  -- a step was taken, or leads to a bench that was found, at latest by it
  abbrev Known : ℕ → Step → Type 0
  Known i q = Taken c low i q.job ⊎ ((1 ≤ at came q.to) × NoLater c.rank (S.trail q.to) (further (S.trail (at queue i)) q))

  -- with nothing more found the search is at another place, where every step counts as taken that was, and no other that is not known
  search_at : (high now done end level : ℕ) → ((i j : ℕ) → Taken c low i j → Taken (moved c now done end level) high i j) → ((i : ℕ) (q : Step) → i < found → Taken (moved c now done end level) high i q.job → In q (c.out (at queue i)) → Known i q) → done ≤ end → end ≤ found → c.now ≤ now → ((i : ℕ) → done ≤ i → i < found → (c.done ≤ i) × (c.now ≡ now)) → ((i : ℕ) → done ≤ i → i < end → length (S.trail (at queue i)).route ≡ level) → ((i : ℕ) → end ≤ i → i < found → length (S.trail (at queue i)).route ≡ suc level) → Searching (moved c now done end level) benches high found queue came
  search_at high now done end level forth back place places later round near far = record {
    trail = S.trail;
    steps_in = S.steps_in;
    one = S.one;
    few = S.few;
    queue_long = S.queue_long;
    came_long = S.came_long;
    counted = S.counted;
    bench = S.bench;
    listed = S.listed;
    marks = S.marks;
    sorted = S.sorted;
    own = S.own;
    from = λ y h d. let (i, l, t, s, e) = S.from y h d in (i, l, forth i (at came y) t, s, e);
    on = λ i q l t s. on i q l s (back i q l t s);
    place = place;
    places = places;
    ranked = λ i l. omega (arith, S.ranked i l);
    round = λ i l h. let (m, e) = round i l h in S.round i m h ∙ e;
    near = near;
    far = far;
  }
    where
      on : (i : ℕ) (q : Step) → i < found → In q (c.out (at queue i)) → Known i q → (1 ≤ at came q.to) × NoLater c.rank (S.trail q.to) (further (S.trail (at queue i)) q)
      on i q l s (inl t) = S.on i q l t s
      on i q l s (inr k) = k

  -- where every step from the bench below a higher limit leads to a bench that was found, the search is at that limit
  search_raise : (high : ℕ) → low ≤ high → ((q : Step) → low ≤ q.job → q.job < high → In q (c.out (at queue c.done)) → 1 ≤ at came q.to) → Searching c benches high found queue came
  search_raise high rises known =
      search_at high c.now c.done c.end c.level forth back S.place S.places (omega arith) (λ i l h. (l, refl)) S.near S.far
    where
      forth : (i j : ℕ) → Taken c low i j → Taken c high i j
      forth i j (inl l) = inl l
      forth i j (inr (e, l)) = inr (e, omega arith)

      back : (i : ℕ) (q : Step) → i < found → Taken c high i q.job → In q (c.out (at queue i)) → Known i q
      back i q l (inl t) s = inl (inl t)
      back i q l (inr (e, t)) s = elim (dec_lt q.job low) [
        | yes u ↦ inl (inr (e, u))
        | no u ↦
            let m = known q (omega arith) t (subst (λ (n : ℕ). In q (c.out (at queue n))) e s) in
            inr (m, sooner_no_later c.rank (S.trail q.to) (further (S.trail (at queue i)) q) (before_step i q (omega arith) l (λ _. omega arith) q.to m))
      ]

  -- where no step is by a job from one limit to another, the search goes on to that
  pub search_skip : {x : ℕ} (high : ℕ) → at queue c.done ≡ x → low ≤ high → ((q : Step) → In q (c.out x) → low ≤ q.job → q.job < high → ⊥) → Searching c benches high found queue came
  search_skip high here rises none = search_raise high rises (λ q l h s. absurd (none q (subst (λ (n : ℕ). In q (c.out n)) here s) l h))

-- one bench more

-- bench y, found by job j along the path p, comes behind everything that was found; with it the search is at the limit `high`, and the level
-- or the round ends at `end`
record Behind {c : Course} {benches low found : ℕ} {queue came : List ℕ} (S : Searching c benches low found queue came) (y j high end : ℕ) (p : BenchPath) : Type 0 where
  bench : T (within 1 benches y)
  new : at came y ≡ 0
  least : 1 ≤ j
  most : j ≤ started
  behind : (z : ℕ) → 1 ≤ at came z → Sooner c.rank (S.trail z) p
  own : j ≡ started → p ≡ path_by y []
  from : j ≢ started → (i : ℕ) × (i < found) × Taken c high i j × In (step_by j y) (c.out (at queue i)) × (p ≡ further (S.trail (at queue i)) (step_by j y))
  rises : low ≤ high
  on : (i : ℕ) (q : Step) → i < found → Taken c high i q.job → In q (c.out (at queue i)) → Taken c low i q.job ⊎ ((q.to ≡ y) × NoLater c.rank p (further (S.trail (at queue i)) q))
  untaken : (c.done < found) ⊎ (high ≡ 0)
  ranked : c.rank p.start ≡ c.now
  ends : ((end ≡ c.end) × (length p.route ≡ suc c.level)) ⊎ ((c.end ≡ found) × (end ≡ found + 1) × (length p.route ≡ c.level))

module _ {c : Course} {benches low found : ℕ} {queue came : List ℕ} (S : Searching c benches low found queue came) {y j high end : ℕ} {p : BenchPath} (b : Behind S y j high end p) where
  -- the trails with the new one
  abbrev grown_trail : ℕ → BenchPath
  grown_trail z = cond (eqb z y) p (S.trail z)

  y_high : y ≤ most_benches
  y_high = omega (arith, within_high 1 benches y b.bench, S.few)

  trail_new : grown_trail y ≡ p
  trail_new = rw (eqb_refl y) refl

  came_new : at (set came y j) y ≡ j
  came_new = get_or-set_same came y j 0 (omega (arith, S.came_long, y_high))

  queue_new : at (set queue found y) found ≡ y
  queue_new = get_or-set_same queue found y 0 (omega (arith, S.queue_long, search_most S))

  -- what was found is another bench, and as it was
  not_new : (z : ℕ) → 1 ≤ at came z → z ≢ y
  not_new z h e = omega (arith, b.new, ap (at came) e)

  trail_old : (z : ℕ) → z ≢ y → grown_trail z ≡ S.trail z
  trail_old z d = rw (ne_eqb z y d) refl

  came_old : (z : ℕ) → z ≢ y → at (set came y j) z ≡ at came z
  came_old z d = get_or-set_other came y z j 0 d

  queue_old : (i : ℕ) → i < found → at (set queue found y) i ≡ at queue i
  queue_old i h = get_or-set_other queue found i y 0 (λ d. absurd (omega arith))

  -- so are the trails at the places of the queue
  place_old : (i : ℕ) → i < found → grown_trail (at (set queue found y) i) ≡ S.trail (at queue i)
  place_old i h = ap grown_trail (queue_old i h) ∙ trail_old (at queue i) (not_new (at queue i) (S.bench i h).1)

  place_new : (i : ℕ) → i ≡ found → grown_trail (at (set queue found y) i) ≡ p
  place_new i e = ap (λ (i : ℕ). grown_trail (at (set queue found y) i)) e ∙ ap grown_trail queue_new ∙ trail_new

  -- what is known of the old places' trails and of the new one is known of all
  at_places : (P : BenchPath → Type 0) (i : ℕ) → i < found + 1 → (i < found → P (S.trail (at queue i))) → (i ≡ found → P p) → P (grown_trail (at (set queue found y) i))
  at_places P i h old new = elim (dec_lt i found) [
    | yes u ↦ subst P (sym (place_old i u)) (old u)
    | no u ↦ let e : i ≡ found = omega arith in subst P (sym (place_new i e)) (new e)
  ]

  -- from the new bench no step was taken
  taken_old : (i k : ℕ) → i < found + 1 → Taken c high i k → i < found
  taken_old i k h (inl l) = omega (arith, S.place, S.places)
  taken_old i k h (inr (e, l)) = elim b.untaken [ inl m ↦ omega arith | inr z ↦ absurd (omega arith) ]

  -- the search with the new bench
  search_grow : Searching (moved c c.now c.done end c.level) benches high (found + 1) (set queue found y) (set came y j)
  search_grow = record {
    trail = grown_trail;
    steps_in = S.steps_in;
    one = S.one;
    few = S.few;
    queue_long = length-set queue found y ∙ S.queue_long;
    came_long = length-set came y j ∙ S.came_long;
    counted = found_more most_benches found y j came S.counted (within_low 1 benches y b.bench) y_high (omega (arith, S.came_long, y_high)) b.new b.least;
    bench = bench;
    listed = listed;
    marks = λ z. elim (ℕ_discrete z y) [ yes e ↦ omega (arith, b.most, came_new, ap (at (set came y j)) e) | no d ↦ omega (arith, S.marks z, came_old z d) ];
    sorted = sorted;
    own = own;
    from = from;
    on = λ i q h t s. let u = taken_old i q.job h t in on i q u (b.on i q u t (subst (λ (w : ℕ). In q (c.out w)) (queue_old i u) s)) (subst (λ (w : ℕ). In q (c.out w)) (queue_old i u) s);
    place = elim b.ends [ inl e ↦ omega (arith, S.place, e.0) | inr e ↦ omega (arith, S.place, e.0, e.1) ];
    places = places;
    ranked = λ i h. at_places (λ q. c.rank q.start ≤ c.now) i h (S.ranked i) (λ _. omega (arith, b.ranked));
    round = λ i l h. at_places (λ q. c.rank q.start ≡ c.now) i h (S.round i l) (λ _. b.ranked);
    near = λ i l h. at_places (λ q. length q.route ≡ c.level) i (omega (arith, places)) (near i l h) (λ e. near_new (omega arith));
    far = λ i l h. at_places (λ q. length q.route ≡ suc c.level) i h (far i l) (λ e. far_new (omega arith));
  }
    where
      bench : (i : ℕ) → i < found + 1 → T (within 1 benches (at (set queue found y) i)) × (1 ≤ at (set came y j) (at (set queue found y) i))
      bench i h = elim (dec_lt i found) [
        | yes u ↦
            let (w, k) = S.bench i u in
            rw (queue_old i u) (w, omega (arith, came_old (at queue i) (not_new (at queue i) k)))
        | no u ↦ let e : i ≡ found = omega arith in rw (e, queue_new) (b.bench, omega (arith, came_new, b.least))
      ]

      listed : (z : ℕ) → 1 ≤ at (set came y j) z → (i : ℕ) × (i < found + 1) × (at (set queue found y) i ≡ z)
      listed z h = elim (ℕ_discrete z y) [
        | yes e ↦ (found, omega arith, queue_new ∙ sym e)
        | no d ↦ let (i, l, e) = S.listed z (omega (arith, came_old z d)) in (i, omega arith, queue_old i l ∙ e)
      ]

      sorted : (i k : ℕ) → i < k → k < found + 1 → Sooner c.rank (grown_trail (at (set queue found y) i)) (grown_trail (at (set queue found y) k))
      sorted i k l h =
          let u : i < found = omega arith in
          sooner_as c.rank (grown_trail (at (set queue found y) k)) (sym (place_old i u))
          (at_places (λ q. Sooner c.rank (S.trail (at queue i)) q) k h (S.sorted i k l) (λ _. b.behind (at queue i) (S.bench i u).1))

      own : (v : ℕ) → at (set came y j) v ≡ started → grown_trail v ≡ path_by v []
      own v e = elim (ℕ_discrete v y) [
        | yes f ↦ ap grown_trail f ∙ trail_new ∙ b.own (sym came_new ∙ ap (at (set came y j)) (sym f) ∙ e) ∙ ap (λ (v : ℕ). path_by v []) (sym f)
        | no d ↦ trail_old v d ∙ S.own v (sym (came_old v d) ∙ e)
      ]

      -- z was found by job k from a bench of the queue
      By : ℕ → ℕ → Type 0
      By z k = (i : ℕ) × (i < found + 1) × Taken c high i k × In (step_by k z) (c.out (at (set queue found y) i)) × (grown_trail z ≡ further (grown_trail (at (set queue found y) i)) (step_by k z))

      by : (z k : ℕ) → (i : ℕ) × (i < found) × Taken c high i k × In (step_by k z) (c.out (at queue i)) × (grown_trail z ≡ further (S.trail (at queue i)) (step_by k z)) → By z k
      by z k (i, l, t, s, e) =
          (i, omega arith, t, subst (λ (w : ℕ). In (step_by k z) (c.out w)) (sym (queue_old i l)) s, e ∙ ap (λ (u : BenchPath). further u (step_by k z)) (sym (place_old i l)))

      wider : (i k : ℕ) → Taken c low i k → Taken c high i k
      wider i k (inl l) = inl l
      wider i k (inr (e, l)) = inr (e, omega (arith, b.rises))

      from : (z : ℕ) → 1 ≤ at (set came y j) z → at (set came y j) z ≢ started → By z (at (set came y j) z)
      from z m d = elim (ℕ_discrete z y) [
        | yes e ↦
            let f = ap (at (set came y j)) e ∙ came_new in
            let (i, l, t, s, g) = b.from (λ h. d (f ∙ h)) in
            subst (By z) (sym f) (subst (λ (z : ℕ). By z j) (sym e) (by y j (i, l, t, s, trail_new ∙ g)))
        | no n ↦
            let f = came_old z n in
            let (i, l, t, s, g) = S.from z (omega arith) (λ h. d (f ∙ h)) in
            subst (By z) (sym f) (by z (at came z) (i, l, wider i (at came z) t, s, trail_old z n ∙ g))
      ]

      on : (i : ℕ) (q : Step) → i < found → Taken c low i q.job ⊎ ((q.to ≡ y) × NoLater c.rank p (further (S.trail (at queue i)) q)) → In q (c.out (at queue i)) → (1 ≤ at (set came y j) q.to) × NoLater c.rank (grown_trail q.to) (further (grown_trail (at (set queue found y) i)) q)
      on i q u (inl t) s =
          let (m, k) = S.on i q u t s in
          let d = not_new q.to m in
          (omega (arith, came_old q.to d), no_later_as c.rank (sym (trail_old q.to d)) (ap (λ (w : BenchPath). further w q) (sym (place_old i u))) k)
      on i q u (inr (e, k)) s =
          (omega (arith, b.least, came_new, ap (at (set came y j)) e), no_later_as c.rank (sym trail_new ∙ ap grown_trail (sym e)) (ap (λ (w : BenchPath). further w q) (sym (place_old i u))) k)

      places : end ≤ found + 1
      places = elim b.ends [ inl e ↦ omega (arith, S.places, e.0) | inr e ↦ omega (arith, e.1) ]

      near : (i : ℕ) → c.done ≤ i → i < end → i < found → length (S.trail (at queue i)).route ≡ c.level
      near i l h u = elim b.ends [ inl e ↦ S.near i l (omega (arith, e.0)) | inr e ↦ S.near i l (omega (arith, e.0)) ]

      near_new : found < end → length p.route ≡ c.level
      near_new h = elim b.ends [ inl e ↦ absurd (omega (arith, S.places, e.0)) | inr e ↦ e.2 ]

      far : (i : ℕ) → end ≤ i → i < found → length (S.trail (at queue i)).route ≡ suc c.level
      far i l h = elim b.ends [ inl e ↦ S.far i (omega (arith, e.0)) h | inr e ↦ absurd (omega (arith, e.1)) ]

      far_new : end ≤ found → length p.route ≡ suc c.level
      far_new h = elim b.ends [ inl e ↦ e.1 | inr e ↦ absurd (omega (arith, e.1)) ]

  -- the trails so far are kept
  grow_kept : (i : ℕ) → i < found → search_grow.trail (at (set queue found y) i) ≡ S.trail (at queue i)
  unfolding search_grow
  grow_kept = place_old

module _ {c : Course} {benches low found : ℕ} {queue came : List ℕ} (S : Searching c benches low found queue came) {x y j found' : ℕ} {queue' came' : List ℕ} where
  -- the step by job j is taken, which is the lowest of those left from the bench
  pub search_turn : c.done < c.end → at queue c.done ≡ x → In (step_by j y) (c.out x) → low ≤ j → ((q : Step) → In q (c.out x) → low ≤ q.job → j ≤ q.job) → Discovered y j found queue came found' queue' came' → Searching c benches (suc j) found' queue' came'
  search_turn short here is rises least f = elim (ℕ_discrete (at came y) 0) [
    | yes z ↦ let (n, q, k) = discovered_new f z in rw (n, q, k) (search_grow S (behind z))
    | no d ↦
        let (n, q, k) = discovered_had f d in
        rw (n, q, k) (search_raise S (suc j) (omega arith) (λ q l h s. omega (arith, ap (at came) (leads q s l h))))
  ]
    where
      step : In (step_by j y) (c.out (at queue c.done))
      step = subst (λ (w : ℕ). In (step_by j y) (c.out w)) (sym here) is

      -- a step by no higher job is that step
      same : (q : Step) → In q (c.out (at queue c.done)) → low ≤ q.job → q.job < suc j → q.job ≡ j
      same q s l h = omega (arith, least q (subst (λ (w : ℕ). In q (c.out w)) here s) l)

      leads : (q : Step) → In q (c.out (at queue c.done)) → low ≤ q.job → q.job < suc j → q.to ≡ y
      leads q s l h = S.one (at queue c.done) q (step_by j y) s step (same q s l h)

      p : BenchPath
      p = further (S.trail (at queue c.done)) (step_by j y)

      on : (i : ℕ) (q : Step) → i < found → Taken c (suc j) i q.job → In q (c.out (at queue i)) → Taken c low i q.job ⊎ ((q.to ≡ y) × NoLater c.rank p (further (S.trail (at queue i)) q))
      on i q u (inl t) s = inl (inl t)
      on i q u (inr (e, t)) s = elim (dec_lt q.job low) [
        | yes l ↦ inl (inr (e, l))
        | no l ↦
            let r = subst (λ (n : ℕ). In q (c.out (at queue n))) e s in
            let f = same q r (omega arith) t in
            let g = leads q r (omega arith) t in
            let w : step_by j y ≡ q = λ i. record { job = sym f i; to = sym g i } in
            inr (g, no_later_as c.rank {p = p} refl (ap (further (S.trail (at queue c.done))) w ∙ ap (λ (n : ℕ). further (S.trail (at queue n)) q) (sym e)) (no_later_refl c.rank p))
      ]

      behind : at came y ≡ 0 → Behind S y j (suc j) c.end p
      behind z =
          let (job, to) = S.steps_in (at queue c.done) (step_by j y) step in
          let reached : c.done < found = omega (arith, S.places) in
          let most = within_high 1 most_jobs j job in
          record {
            bench = to;
            new = z;
            least = within_low 1 most_jobs j job;
            most = omega arith;
            behind = before_step S c.done (step_by j y) (omega arith) reached (λ _. rises);
            own = λ e. absurd (omega arith);
            from = λ _. (c.done, reached, inr (refl, omega arith), step, refl);
            rises = omega arith;
            on = on;
            untaken = inl reached;
            ranked = S.round c.done (omega arith) reached;
            ends = inl (refl, omega (arith, further_length (S.trail (at queue c.done)) (step_by j y), S.near c.done (omega arith) short));
          }

-- every step from the bench was taken: the next place
pub search_leave : {c : Course} {benches found : ℕ} {queue came : List ℕ} → Searching c benches started found queue came → c.done < c.end → Searching (at_place c (suc c.done)) benches 0 found queue came
search_leave {c} {benches} {found} {queue} {came} S h =
    search_at S 0 c.now (suc c.done) c.end c.level forth back h S.places (omega arith) (λ i l m. (omega arith, refl)) (λ i l. S.near i (omega arith)) S.far
  where
    forth : (i j : ℕ) → Taken c started i j → Taken (at_place c (suc c.done)) 0 i j
    forth i j (inl l) = inl (omega arith)
    forth i j (inr (e, l)) = inl (omega arith)

    back : (i : ℕ) (q : Step) → i < found → Taken (at_place c (suc c.done)) 0 i q.job → In q (c.out (at queue i)) → Known S i q
    back i q l (inl t) s = elim (dec_lt i c.done) [
      | yes u ↦ inl (inl u)
      | no u ↦ inl (inr (omega arith, omega (arith, within_high 1 most_jobs q.job (S.steps_in (at queue i) q s).0)))
    ]
    back i q l (inr (e, t)) s = absurd (omega arith)

module _ {c : Course} {benches found : ℕ} {queue came : List ℕ} (S : Searching c benches 0 found queue came) where
  -- the same place, said in another way, in another level or round
  search_still : (now done end level : ℕ) → c.done ≡ done → done ≤ end → end ≤ found → c.now ≤ now → (done < found → c.now ≡ now) → ((i : ℕ) → done ≤ i → i < end → length (S.trail (at queue i)).route ≡ level) → ((i : ℕ) → end ≤ i → i < found → length (S.trail (at queue i)).route ≡ suc level) → Searching (moved c now done end level) benches 0 found queue came
  search_still now done end level e place places later round =
      search_at S 0 now done end level forth back place places later (λ i l h. (omega arith, round (omega arith)))
    where
      forth : (i j : ℕ) → Taken c 0 i j → Taken (moved c now done end level) 0 i j
      forth i j (inl l) = inl (omega arith)
      forth i j (inr (f, l)) = absurd (omega arith)

      back : (i : ℕ) (q : Step) → i < found → Taken (moved c now done end level) 0 i q.job → In q (c.out (at queue i)) → Known S i q
      back i q l (inl t) s = inl (inl (omega arith))
      back i q l (inr (f, t)) s = absurd (omega arith)

  -- a level is done: the next one ends where the benches found so far do
  pub search_level : c.done ≡ c.end → Searching (at_level c found) benches 0 found queue came
  search_level e =
      search_still c.now c.end found (suc c.level) e S.places (omega arith) (omega arith) (λ _. refl) S.far (λ i l h. absurd (omega arith))

  -- no bench is open: the next round can begin
  pub search_round : (now : ℕ) → c.done ≡ found → c.now ≤ now → Searching (at_round c now found found) benches 0 found queue came
  search_round now e later =
      search_still now found found 0 e (omega arith) (omega arith) later (λ h. absurd (omega arith)) (λ i l h. absurd (omega arith)) (λ i l h. absurd (omega arith))

  -- .. with the trails so far
  pub search_rounded : (now : ℕ) → c.done ≡ found → c.now ≤ now → (R : Searching (at_round c now found found) benches 0 found queue came) × ((y : ℕ) → R.trail y ≡ S.trail y)
  unfolding search_round search_still search_at
  search_rounded now e later = (search_round now e later, λ y. refl)

  -- a round begins at one more bench, behind its lower starts, with the trails so far
  pub search_seeded : {v found' : ℕ} {queue' came' : List ℕ} → c.level ≡ 0 → c.end ≡ found → T (within 1 benches v) → at came v ≡ 0 → c.rank v ≡ c.now → ((i : ℕ) → c.done ≤ i → i < found → (at came (at queue i) ≡ started) × (at queue i < v)) → ((i : ℕ) → i < c.done → c.rank (S.trail (at queue i)).start < c.now) → Discovered v started found queue came found' queue' came' → (R : Searching (at_round c c.now c.done found') benches 0 found' queue' came') × ((i : ℕ) → i < found → R.trail (at queue' i) ≡ S.trail (at queue i))
  search_seeded {v} {found'} {queue'} {came'} level end bench new ranked starts before f =
      let (n, q, k) = discovered_new f new in
      rw (n, q, k) (subst (λ (l : ℕ). (R : Searching (moved c c.now c.done (found + 1) l) benches 0 (found + 1) (set queue found v) (set came v started)) × ((i : ℕ) → i < found → R.trail (at (set queue found v) i) ≡ S.trail (at queue i))) level (search_grow S next, grow_kept S next))
    where
      behind : (z : ℕ) → 1 ≤ at came z → Sooner c.rank (S.trail z) (path_by v [])
      behind z m =
          let (i, l, e) = S.listed z m in
          sooner_as c.rank (path_by v []) (ap S.trail e) (elim (dec_lt i c.done) [
            | yes h ↦ rank_sooner c.rank (S.trail (at queue i)) (path_by v []) (omega (arith, before i h))
            | no h ↦
                let w = at queue i in
                let (s, u) = starts i (omega arith) l in
                let o = S.own w s in
                sooner_as c.rank (path_by v []) (sym o) (start_sooner c.rank w v (omega (arith, S.ranked i l, ap (λ (p : BenchPath). c.rank p.start) o)) u)
          ])

      next : Behind S v started 0 (found + 1) (path_by v [])
      next = record {
        bench = bench;
        new = new;
        least = omega arith;
        most = omega arith;
        behind = behind;
        own = λ _. refl;
        from = λ d. absurd (d refl);
        rises = omega arith;
        on = λ i q l t s. inl t;
        untaken = inr refl;
        ranked = ranked;
        ends = inr (end, refl, sym level);
      }

  -- .. which need not be said
  pub search_seed : {v found' : ℕ} {queue' came' : List ℕ} → c.level ≡ 0 → c.end ≡ found → T (within 1 benches v) → at came v ≡ 0 → c.rank v ≡ c.now → ((i : ℕ) → c.done ≤ i → i < found → (at came (at queue i) ≡ started) × (at queue i < v)) → ((i : ℕ) → i < c.done → c.rank (S.trail (at queue i)).start < c.now) → Discovered v started found queue came found' queue' came' → Searching (at_round c c.now c.done found') benches 0 found' queue' came'
  search_seed level end bench new ranked starts before f = (search_seeded level end bench new ranked starts before f).0

  -- p leads from a start to y
  abbrev LeadsTo : ℕ → BenchPath → Type 0
  LeadsTo y p = (at came p.start ≡ started) × Walk c.out p.start p.route × (last p ≡ y)

  own_leads : (y : ℕ) → at came y ≡ started → LeadsTo y (S.trail y)
  own_leads y s = subst (LeadsTo y) (sym (S.own y s)) (s, tt, refl)

  further_leads : (w : ℕ) (p : BenchPath) (q : Step) → In q (c.out w) → LeadsTo w p → LeadsTo q.to (further p q)
  further_leads w p q i (s, k, e) =
      (s, walk_join c.out p.start p.route (q ∷ []) k (subst (λ (w : ℕ). In q (c.out w)) (sym e) i, tt), end_join c.out p.start p.route (q ∷ []))

  -- what was found has a trail from a start to it
  trail_leads : (n y : ℕ) → 1 ≤ at came y → length (S.trail y).route ≤ n → LeadsTo y (S.trail y)
  trail_leads zero y m e = elim (ℕ_discrete (at came y) started) [
    | yes s ↦ own_leads y s
    | no d ↦
        let (i, l, t, s, f) = S.from y m d in
        absurd (omega (arith, ap (λ (p : BenchPath). length p.route) f, further_length (S.trail (at queue i)) (step_by (at came y) y)))
  ]
  trail_leads (suc n) y m e = go (λ w. trail_leads n w)
    where
      go : ((w : ℕ) → 1 ≤ at came w → length (S.trail w).route ≤ n → LeadsTo w (S.trail w)) → LeadsTo y (S.trail y)
      go ih = elim (ℕ_discrete (at came y) started) [
        | yes s ↦ own_leads y s
        | no d ↦
            let (i, l, t, s, f) = S.from y m d in
            let w = at queue i in
            let q = step_by (at came y) y in
            let short : length (S.trail w).route ≤ n = omega (arith, ap (λ (p : BenchPath). length p.route) f, further_length (S.trail w) q) in
            subst (LeadsTo y) (sym f) (further_leads w (S.trail w) q s (ih w (S.bench i l).1 short))
      ]

  -- what the search leaves is trails, from the starts to the benches that were found
  pub search_trails : Trails c.out c.rank (λ v. at came v ≡ started) (λ y. 1 ≤ at came y) (Open c found queue) S.trail
  search_trails = record {
    own = λ v e. (omega arith, no_later_as c.rank {q = path_by v []} (sym (S.own v e)) refl (no_later_refl c.rank (path_by v [])));
    walk = λ y m. trail_leads (length (S.trail y).route) y m (omega arith);
    on = on;
    later = λ u q (i, l, h, e) s y m.
        subst (λ (u : ℕ). NoLater c.rank (S.trail y) (further (S.trail u) q)) e
        (sooner_no_later c.rank (S.trail y) (further (S.trail (at queue i)) q) (before_step S i q l h (λ _. omega arith) y m));
  }
    where
      on : (w : ℕ) (q : Step) → 1 ≤ at came w → In q (c.out w) → ((1 ≤ at came q.to) × NoLater c.rank (S.trail q.to) (further (S.trail w) q)) ⊎ Open c found queue w
      on w q m s =
          let (i, l, e) = S.listed w m in
          elim (dec_lt i c.done) [
            | yes h ↦
                inl (subst (λ (w : ℕ). (1 ≤ at came q.to) × NoLater c.rank (S.trail q.to) (further (S.trail w) q)) e
                (S.on i q l (inl h) (subst (λ (w : ℕ). In q (c.out w)) (sym e) s)))
            | no h ↦ inr (i, omega arith, l, e)
          ]
