-- The search from bench x level by level. Of the benches found so far the best one is kept. No bench is lighter than `goal`: a search that has
-- found it may stop within a level, and once a bench of its load is found, those that are not cannot come before it.
use Prim.Native.Nat.{ℕ, suc, ◌+◌, ◌-◌, ◌≤◌, ◌<◌}
use native.Mathlib.Omega.{arith}
use native.Mathlib.Numerals.{add-one}
use native.Mathlib.Decide.{ℕ_discrete, dec_lt}
use mathlib.Core.Path.{◌≡◌, refl, sym, ap, subst, ◌∙◌}
use mathlib.Core.Logic.{◌⊎◌, inl, inr, ◌≢◌}
use mathlib.Core.List.{List}
use Rattle.spec_table.specs.Board.{Board}
use Rattle.spec_table.specs.Table.{most_benches}
use Rattle.spec_sharing.specs.Searches.{distance, Lower}
use Rattle.table_size.specs.declared.Size.{Size}
use Rattle.graph_lists.specs.Arrays.{at, LoadsIn}
use Rattle.sharing_loads.specs.LoadRanks.{LightestAt}
use Rattle.sharing_search.specs.Searching.{Searching, AtLevel, Level, Grown}
use Rattle.sharing_search.proofs.Steps.{search_most, search_level}
use Rattle.sharing_paths.specs.declared.FoundPath.{FoundPath}
use Rattle.sharing_paths_from.specs.ArrivalSearch.{course_from, FromBench, FirstLevel, Weighed, EndFound}
use Rattle.sharing_paths_from.proofs.JoinedBoard.{jobs_most, in_size}
use Rattle.sharing_paths_from.proofs.BestEnd.{Earlier, Best, from_grown, found_distance, start_distance, open_distance, goal_least, place_bench, best_low, best_under, best_kept, best_goal, best_end}

-- the level at places `begin` to `end` is whole, or the search stopped when it had found `goal`
abbrev pub Reached : Board → ℕ → ℕ → ℕ → ℕ → ℕ → ℕ → List ℕ → List ℕ → Type 0
Reached c benches x goal begin end level queue came =
    FromBench c benches x begin end level end queue came ⊎
    ((done lower : ℕ) × (suc lower ≡ level) × (1 ≤ at came goal) × FromBench c benches x done begin lower end queue came)

-- a bench z that was not found is farther than the level; or the goal was found, and it is as far at least
abbrev Farther : Board → ℕ → ℕ → ℕ → ℕ → ℕ → List ℕ → ℕ → Type 0
Farther c x goal begin end level came z =
    ((begin < end) × (level + 2 ≤ distance c x z)) ⊎ ((1 ≤ at came goal) × (level + 1 ≤ distance c x z))

-- the levels up to place `begin` were looked at; the next one's benches, to which `level` jobs lead, stand there
pub record Levels (c : Board) (benches : ℕ) (loads : List ℕ) (x goal : ℕ) (best : FoundPath) (bound begin end level : ℕ) (queue came : List ℕ) : Type 0 where
  pub reached : Reached c benches x goal begin end level queue came
  pub kept : Best c loads x best bound level begin queue
  pub least : 1 ≤ level
  pub count : level ≤ begin

-- that level was looked at too
pub record Looked (c : Board) (benches : ℕ) (loads : List ℕ) (x goal : ℕ) (best : FoundPath) (bound begin end level : ℕ) (queue came : List ℕ) : Type 0 where
  pub reached : Reached c benches x goal begin end level queue came
  pub kept : Best c loads x best bound (level + 1) end queue
  pub least : 1 ≤ level
  pub count : level ≤ begin
  pub more : begin < end

module _ {b c : Board} {s : Size} {loads : List ℕ} {x job other goal end₀ : ℕ} {queue₀ came₀ : List ℕ} (k : FirstLevel b c s loads x job other goal end₀ queue₀ came₀) where
  -- what is known at a level, whether it is whole or not
  record Known (begin end level : ℕ) (queue came : List ℕ) : Type 0 where
    done : ℕ
    mid : ℕ
    lower : ℕ
    from : FromBench c s.benches x done mid lower end queue came
    rises : begin ≤ end
    distances : (i : ℕ) → begin ≤ i → i < end → distance c x (at queue i) ≡ suc level
    beyond : (z : ℕ) → at came z ≡ 0 → 1 ≤ distance c x z → Farther c x goal begin end level came z

  known : {begin end level : ℕ} {queue came : List ℕ} → Reached c s.benches x goal begin end level queue came → Known begin end level queue came
  known {begin} {end} {level} (inl f) = record {
    done = begin;
    mid = end;
    lower = level;
    from = f;
    rises = f.searching.place;
    distances = λ i l u. omega (arith, found_distance k f i u, f.searching.near i l u);
    beyond = λ z e l. let (i, d, u, m) = open_distance k f z e l in inl (omega arith, omega (arith, f.searching.near i d u));
  }
  known {begin} {end} {level} (inr (done, lower, e, g, f)) = record {
    done = done;
    mid = begin;
    lower = lower;
    from = f;
    rises = f.searching.places;
    distances = λ i l u. omega (arith, found_distance k f i u, f.searching.far i l u);
    beyond = λ z n l.
        let (i, d, u, m) = open_distance k f z n l in
        inr (g, elim (dec_lt i begin) [ yes v ↦ omega (arith, f.searching.near i d v) | no v ↦ omega (arith, f.searching.far i (omega arith) u) ]);
  }

  -- before any level x alone was found
  pub levels_start : Levels c s.benches loads x goal (record { bench = x; jobs = 0 }) (at loads x - 1) 1 end₀ 1 queue₀ came₀
  levels_start =
      let far = start_distance k k.from in
      let heavier = k.heavier in
      record {
        reached = inl k.from;
        kept = record {
          place = (0, omega arith, k.from.first);
          far = far;
          fewer = omega arith;
          near = λ i l. let e : i ≡ 0 = omega arith in rw (e, k.from.first) (omega arith);
          first = λ i l. let e : i ≡ 0 = omega arith in rw (e, k.from.first) (inl (omega arith));
          none = λ _. (refl, omega arith);
          some = λ d. absurd (d refl);
        };
        least = omega arith;
        count = omega arith;
      }

  module _ {best : FoundPath} {bound begin end level : ℕ} {queue came : List ℕ} (h : Levels c s.benches loads x goal best bound begin end level queue came) where
    r : Known begin end level queue came
    r = known h.reached

    -- no bench up to the level's end is farther than it
    levels_near : (i : ℕ) → i < end → Dec (i < begin) → distance c x (at queue i) ≤ level + 1
    levels_near i v (yes w) = omega (arith, h.kept.near i w)
    levels_near i v (no w) = omega (arith, r.distances i (omega arith) v)

    -- the benches of the level have loads of the board
    pub levels_weighed : LoadsIn s loads → begin < end → Weighed queue begin end loads
    levels_weighed m l =
        record {
          some = l;
          most = search_most r.from.searching;
          bench = λ i v u.
              let w = place_bench k r.from i u in
              (omega (arith, w.most, r.from.searching.few), omega (arith, m.most (at queue i) w.least, jobs_most k.joined));
        }

    -- its lightest bench is one of the arrays
    pub levels_small : {y : ℕ} → LightestAt loads (at queue) begin end y → y ≤ most_benches
    levels_small m = let (i, v, u, e) = m.is in omega (arith, (place_bench k r.from i u).most, r.from.searching.few, e)

    -- the level's lightest bench is the best one, if it is lighter ..
    pub levels_lower : {y : ℕ} → begin < end → LightestAt loads (at queue) begin end y → at loads y < bound → Looked c s.benches loads x goal (record { bench = y; jobs = level }) (at loads y) begin end level queue came
    levels_lower {y} l m u = record {
      reached = h.reached;
      kept = record {
        place = let (i, v, w, e) = m.is in (i, w, e);
        far = let (i, v, w, e) = m.is in subst (λ (z : ℕ). distance c x z ≡ suc level) e (r.distances i v w);
        fewer = omega arith;
        near = λ i v. levels_near i v (dec_lt i begin);
        first = λ i v. first i v (dec_lt i begin);
        none = λ e. absurd (omega (arith, h.least));
        some = λ d. (refl, omega (arith, best_under k h.kept));
      };
      least = h.least;
      count = h.count;
      more = l;
    }
      where
        first : (i : ℕ) → i < end → Dec (i < begin) → Earlier c loads x (record { bench = y; jobs = level }) (at loads y) (at queue i)
        first i v (yes w) = inl (omega (arith, best_low k h.kept i w))
        first i v (no w) =
            let (j, a, d, e) = m.is in
            elim (m.least i (omega arith) v) [
              | inl q ↦ inl q
              | inr q ↦ inr (q.0, inr (subst (λ (z : ℕ). distance c x z ≡ suc level) e (r.distances j a d) ∙ sym (r.distances i (omega arith) v), q.1))
            ]

    -- .. else the one before stays
    pub levels_same : {y : ℕ} → begin < end → LightestAt loads (at queue) begin end y → bound ≤ at loads y → Looked c s.benches loads x goal best bound begin end level queue came
    levels_same {y} l m u = record {
      reached = h.reached;
      kept = record {
        place = let (i, v, e) = h.kept.place in (i, omega (arith, r.rises), e);
        far = h.kept.far;
        fewer = omega (arith, h.kept.fewer);
        near = λ i v. levels_near i v (dec_lt i begin);
        first = λ i v. first i v (dec_lt i begin);
        none = h.kept.none;
        some = h.kept.some;
      };
      least = h.least;
      count = h.count;
      more = l;
    }
      where
        first : (i : ℕ) → i < end → Dec (i < begin) → Earlier c loads x best bound (at queue i)
        first i v (yes w) = h.kept.first i w
        first i v (no w) =
            let low : bound ≤ at loads (at queue i) = elim (m.least i (omega arith) v) [ inl q ↦ omega arith | inr q ↦ omega (arith, q.0) ] in
            elim (ℕ_discrete bound (at loads (at queue i))) [
              | yes e ↦ inr (e, inl (omega (arith, h.kept.far, h.kept.fewer, r.distances i (omega arith) v)))
              | no d ↦ inl (omega arith)
            ]

    -- where the level is empty no more benches can be found, and the best one is the end
    pub levels_end : end ≤ begin → EndFound b c s.benches x queue came best
    levels_end l =
        let e : begin ≡ end = omega (arith, r.rises) in
        let kept = subst (λ (n : ℕ). Best c loads x best bound level n queue) e h.kept in
        best_end k kept r.from (λ z w n. beyond kept z w (r.beyond z n w.reached))
      where
        beyond : Best c loads x best bound level end queue → (z : ℕ) → Lower c x (distance c x) z → Farther c x goal begin end level came z → Earlier c loads x best bound z
        beyond kept z w (inl (v, d)) = absurd (omega arith)
        beyond kept z w (inr (g, d)) =
            let e = best_goal k kept r.from g in
            let low = goal_least k (in_size k.joined z w.bench) in
            elim (ℕ_discrete bound (at loads z)) [ yes q ↦ inr (q, inl (omega (arith, kept.far, kept.fewer))) | no q ↦ inl (omega arith) ]

  module _ {best : FoundPath} {bound begin end level : ℕ} {queue came : List ℕ} (h : Looked c s.benches loads x goal best bound begin end level queue came) where
    q : Known begin end level queue came
    q = known h.reached

    -- there are more places than levels
    pub looked_few : (level < end) × (end ≤ most_benches)
    looked_few = (omega (arith, h.count, h.more), search_most q.from.searching)

    -- the level is whole where the best bench is not as light as the goal
    looked_whole : bound ≢ at loads goal → FromBench c s.benches x begin end level end queue came
    looked_whole d = elim h.reached [ inl f ↦ f | inr f ↦ absurd (d (best_goal k h.kept f.4 f.3)) ]

    -- where it is as light as the goal, it is the end
    pub looked_end : bound ≡ at loads goal → EndFound b c s.benches x queue came best
    looked_end e =
        best_end k h.kept q.from (λ z w n. beyond z w (ℕ_discrete bound (at loads z)) (q.beyond z n w.reached))
      where
        beyond : (z : ℕ) → Lower c x (distance c x) z → Dec (bound ≡ at loads z) → Farther c x goal begin end level came z → Earlier c loads x best bound z
        beyond z w (no d) m = inl (omega (arith, goal_least k (in_size k.joined z w.bench)))
        beyond z w (yes d) (inl m) = inr (d, inl (omega (arith, m.1, h.kept.far, h.kept.fewer)))
        beyond z w (yes d) (inr (g, m)) =
            let (i, l, p) = q.from.searching.listed goal g in
            let near = subst (λ (y : ℕ). distance c x y ≤ level + 1) p (h.kept.near i l) in
            let goal_first : goal ≤ z = elim (k.lightest.least z (in_size k.joined z w.bench)) [ inl v ↦ absurd (omega arith) | inr v ↦ v.1 ] in
            inr (d, tie near goal_first (ℕ_discrete (distance c x best.bench) (distance c x z)) (subst (Earlier c loads x best bound) p (h.kept.first i l)))
          where
            tie : distance c x goal ≤ level + 1 → goal ≤ z → Dec (distance c x best.bench ≡ distance c x z) → Earlier c loads x best bound goal → (distance c x best.bench < distance c x z) ⊎ ((distance c x best.bench ≡ distance c x z) × (best.bench ≤ z))
            tie near v (no a) u = inl (omega (arith, h.kept.far, h.kept.fewer))
            tie near v (yes a) (inl u) = absurd (omega arith)
            tie near v (yes a) (inr (_, inl u)) = absurd (omega arith)
            tie near v (yes a) (inr (_, inr u)) = inr (a, omega (arith, u.1))

    -- else the level is whole, and the search goes on from it ..
    pub looked_level : bound ≢ at loads goal → AtLevel (course_from c begin end level) b s begin end end queue came
    looked_level d = record {
      searching = whole.searching;
      at_done = refl;
      at_end = refl;
      agree = λ i l u q v w. k.joined.elsewhere (at queue i) (apart i l u) q;
    }
      where
        whole : FromBench c s.benches x begin end level end queue came
        whole = looked_whole d

        apart : (i : ℕ) → begin ≤ i → i < end → at queue i ≢ x
        apart i l u e =
            omega (arith, q.distances i l u, ap (distance c x) e, start_distance k whole, h.least)

    -- .. to the next
    pub looked_turn : {more : ℕ} {queue' came' : List ℕ} → bound ≢ at loads goal → Grown end queue came more queue' came' → Level (course_from c begin end level) s.benches goal more queue' came' → Levels c s.benches loads x goal best bound end more (level + 1) queue' came'
    looked_turn {more} {queue'} {came'} d g m = record {
      reached = reached m.whole;
      kept = best_kept k h.kept g.before;
      least = omega arith;
      count = omega (arith, h.count, h.more);
    }
      where
        whole : FromBench c s.benches x begin end level end queue came
        whole = looked_whole d

        next : (m.place ≡ end) → Searching (course_from c end more (suc level)) s.benches 0 more queue' came'
        next e = search_level m.searching e

        reached : (m.place ≡ end) ⊎ (1 ≤ at came' goal) → Reached c s.benches x goal end more (level + 1) queue' came'
        reached (inl e) =
            inl (rw add-one (from_grown whole g (next e) (λ i l u z. omega (arith, (next e).near i l u))))
        reached (inr f) = inr (m.place, level, sym (add-one level), f, from_grown whole g m.searching (λ i l u z. omega (arith, m.searching.far i l u)))
