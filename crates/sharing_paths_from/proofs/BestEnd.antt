-- The best bench that a search from x has found: by load, then distance, then number, as the arrival's order names the end of its path. Trails
-- tell distances; and where no other bench can come before it, it is that end.
use Prim.Native.Nat.{ℕ, suc, ◌+◌, ◌≤◌, ◌<◌}
use native.Mathlib.Omega.{arith}
use native.Mathlib.Decide.{ℕ_discrete, dec_lt}
use mathlib.Core.Path.{◌≡◌, sym, ap, subst, ◌∙◌}
use mathlib.Core.Logic.{◌⊎◌, inl, inr, ◌≢◌}
use mathlib.Core.List.{List}
use lib.Dec.{T}
use lib.ListN.{length}
use Rattle.spec_lists.specs.Lists.{within}
use Rattle.spec_table.specs.Board.{Board, Valid, load}
use Rattle.spec_sharing.specs.Paths.{steps, BenchPath}
use Rattle.spec_sharing.specs.Searches.{distance, Lower}
use Rattle.spec_lists.proofs.Tests.{within_low, within_high}
use Rattle.spec_sharing.proofs.Trails.{Trails, trail_distance, trail_list, beyond_open}
use Rattle.table_size.specs.Sizes.{BenchIn}
use Rattle.table_size.specs.declared.Size.{Size}
use Rattle.graph_lists.specs.Arrays.{at}
use Rattle.sharing_search.specs.Searching.{started, Searching, Open, Grown}
use Rattle.sharing_search.proofs.Steps.{search_trails}
use Rattle.sharing_paths.specs.declared.FoundPath.{FoundPath}
use Rattle.sharing_paths_from.specs.ArrivalSearch.{course_from, FromBench, FirstLevel, EndFound}
use Rattle.sharing_paths_from.proofs.JoinedBoard.{on_board, in_size, load_at}

-- the trails of a search from x alone

module _ {c : Board} {benches x done mid level found : ℕ} {queue came : List ℕ} (h : FromBench c benches x done mid level found queue came) where
  -- they all start at x
  pub from_trails : Trails (steps c) (λ v. 0) (λ z. z ≡ x) (λ y. 1 ≤ at came y) (Open (course_from c done mid level) found queue) h.searching.trail
  from_trails =
      let t = search_trails h.searching in
      record {
        own = λ v e. t.own v (ap (at came) e ∙ h.start);
        walk = λ y m. let (s, w, e) = t.walk y m in (h.only (h.searching.trail y).start s, w, e);
        on = t.on;
        later = t.later;
      }

  -- where it goes on, and what is new is no start, it is the search from x
  pub from_grown : {done' mid' level' found' : ℕ} {queue' came' : List ℕ} → Grown found queue came found' queue' came' → (S : Searching (course_from c done' mid' level') benches 0 found' queue' came') → ((i : ℕ) → found ≤ i → i < found' → length (S.trail (at queue' i)).route ≢ 0) → FromBench c benches x done' mid' level' found' queue' came'
  from_grown {queue' = queue'} {came'} g S new = record {
    searching = S;
    first = let (_, l, _) = h.searching.listed x (omega (arith, h.start)) in g.before 0 (omega arith) ∙ h.first;
    start = g.kept x (omega (arith, h.start)) ∙ h.start;
    only = only;
  }
    where
      only : (v : ℕ) → at came' v ≡ started → v ≡ x
      only v e =
          let (i, l, p) = S.listed v (omega arith) in
          elim (dec_lt i found) [
            | yes u ↦
                let old = sym (g.before i u) ∙ p in
                let was = subst (λ (y : ℕ). 1 ≤ at came y) old (h.searching.bench i u).1 in
                h.only v (sym (g.kept v was) ∙ e)
            | no u ↦ absurd (new i (omega arith) l (ap (λ (y : ℕ). length (S.trail y).route) p ∙ ap (λ (w : BenchPath). length w.route) (S.own v e)))
          ]

  module _ (valid : Valid c) (on : T (within 1 c.benches x)) where
    -- a trail is as long as its bench is far ..
    pub from_distance : (y : ℕ) → 1 ≤ at came y → distance c x y ≡ suc (length (h.searching.trail y).route)
    from_distance = trail_distance c valid x on from_trails

    -- .. and x has none
    pub from_here : distance c x x ≡ 1
    from_here =
        omega (arith, from_distance x (omega (arith, h.start)), ap (λ (p : BenchPath). length p.route) (h.searching.own x h.start))

-- the best bench so far

-- the bench `best`, whose load is `bound`, comes before z by load, distance and number
abbrev pub Earlier : Board → List ℕ → ℕ → FoundPath → ℕ → ℕ → Type 0
Earlier c loads x best bound z =
    (bound < at loads z) ⊎
    ((bound ≡ at loads z) ×
    ((distance c x best.bench < distance c x z) ⊎ ((distance c x best.bench ≡ distance c x z) × (best.bench ≤ z))))

-- of the benches at places before `end`, to which fewer than `level` jobs lead, `best` comes before all others; x and 0 where none is lighter by
-- two than x, and `bound` is then the load that is lighter by one
pub record Best (c : Board) (loads : List ℕ) (x : ℕ) (best : FoundPath) (bound level end : ℕ) (queue : List ℕ) : Type 0 where
  pub place : (i : ℕ) × (i < end) × (at queue i ≡ best.bench)
  pub far : distance c x best.bench ≡ suc best.jobs
  pub fewer : best.jobs < level
  pub near : (i : ℕ) → i < end → distance c x (at queue i) ≤ level
  pub first : (i : ℕ) → i < end → Earlier c loads x best bound (at queue i)
  pub none : best.jobs ≡ 0 → (best.bench ≡ x) × (suc bound ≡ at loads x)
  pub some : best.jobs ≢ 0 → (bound ≡ at loads best.bench) × (bound + 2 ≤ at loads x)

module _ {b c : Board} {s : Size} {loads : List ℕ} {x job other goal end₀ : ℕ} {queue₀ came₀ : List ℕ} (k : FirstLevel b c s loads x job other goal end₀ queue₀ came₀) where
  -- x is a bench of the board
  start_on : T (within 1 c.benches x)
  start_on = on_board k.joined k.bench

  -- a bench's load stands at its number
  weight : {z : ℕ} → BenchIn s z → at loads z ≡ load c.holders z
  weight = load_at k.joined k.loaded

  -- a bench that was found is as far as its trail is long ..
  pub found_distance : {done mid lower end : ℕ} {queue came : List ℕ} (f : FromBench c s.benches x done mid lower end queue came) (i : ℕ) → i < end → distance c x (at queue i) ≡ suc (length (f.searching.trail (at queue i)).route)
  found_distance {queue = queue} f i l = from_distance f k.joined.storable.valid start_on (at queue i) (f.searching.bench i l).1

  -- .. x has none ..
  pub start_distance : {done mid lower end : ℕ} {queue came : List ℕ} → FromBench c s.benches x done mid lower end queue came → distance c x x ≡ 1
  start_distance f = from_here f k.joined.storable.valid start_on

  -- .. and one that was not is farther than one from which steps are still to be taken
  pub open_distance : {done mid lower end : ℕ} {queue came : List ℕ} (f : FromBench c s.benches x done mid lower end queue came) (z : ℕ) → at came z ≡ 0 → 1 ≤ distance c x z → (i : ℕ) × (done ≤ i) × (i < end) × (length (f.searching.trail (at queue i)).route + 2 ≤ distance c x z)
  open_distance f z e l =
      let (w, (i, d, u, q), m) = beyond_open c k.joined.storable.valid x start_on (from_trails f) z (λ g. omega arith) l in
      (i, d, u, omega (arith, ap (λ (y : ℕ). length (f.searching.trail y).route) q))

  -- no bench is lighter than the goal
  pub goal_least : {z : ℕ} → BenchIn s z → at loads goal ≤ at loads z
  goal_least {z} w = elim (k.lightest.least z w) [ inl h ↦ omega arith | inr h ↦ omega (arith, h.0) ]

  -- a bench that stands in the queue is one of the board
  pub place_bench : {done mid lower end : ℕ} {queue came : List ℕ} → FromBench c s.benches x done mid lower end queue came → (i : ℕ) → i < end → BenchIn s (at queue i)
  place_bench {queue = queue} f i l =
      let t = (f.searching.bench i l).0 in
      record { least = within_low 1 s.benches (at queue i) t; most = within_high 1 s.benches (at queue i) t }

  module _ {best : FoundPath} {bound level end : ℕ} {queue : List ℕ} (h : Best c loads x best bound level end queue) where
    -- the best bench's load is at most that of the others ..
    pub best_low : (i : ℕ) → i < end → bound ≤ at loads (at queue i)
    best_low i l = elim (h.first i l) [ inl e ↦ omega arith | inr e ↦ omega (arith, e.0) ]

    -- .. and below that of x
    pub best_under : bound + 1 ≤ at loads x
    best_under = elim (ℕ_discrete best.jobs 0) [ yes e ↦ omega (arith, (h.none e).1) | no d ↦ omega (arith, (h.some d).1) ]

    -- where other benches stand behind these in another queue, it is the best one there
    pub best_kept : {queue' : List ℕ} → ((i : ℕ) → i < end → at queue' i ≡ at queue i) → Best c loads x best bound level end queue'
    best_kept {queue'} same = record {
      place = let (i, l, e) = h.place in (i, l, same i l ∙ e);
      far = h.far;
      fewer = h.fewer;
      near = λ i l. rw (same i l) (h.near i l);
      first = λ i l. rw (same i l) (h.first i l);
      none = h.none;
      some = h.some;
    }

    module _ {done mid lower : ℕ} {came : List ℕ} (f : FromBench c s.benches x done mid lower end queue came) where
      -- the best one was found
      best_bench : BenchIn s best.bench × (1 ≤ at came best.bench)
      best_bench =
          let (i, l, e) = h.place in
          (subst (BenchIn s) e (place_bench f i l), subst (λ (z : ℕ). 1 ≤ at came z) e (f.searching.bench i l).1)

      -- it is as light as the goal, if that was found
      pub best_goal : 1 ≤ at came goal → bound ≡ at loads goal
      best_goal m =
          let (i, l, e) = f.searching.listed goal m in
          let low = best_low i l in
          let high : at loads goal ≤ bound = elim (ℕ_discrete best.jobs 0) [ yes z ↦ omega (arith, (h.none z).1, k.heavier) | no d ↦ omega (arith, (h.some d).0, goal_least best_bench.0) ] in
          omega (arith, ap (at loads) e)

      -- it is the end that the arrival's order names, if no bench comes before it that was not found
      pub best_end : ((z : ℕ) → Lower c x (distance c x) z → at came z ≡ 0 → Earlier c loads x best bound z) → EndFound b c s.benches x queue came best
      best_end beyond = record {
        none = λ e. ((h.none e).0, λ z l. omega (arith, low z l, (h.none e).1, l.lower, weight (in_size k.joined z l.bench), weight k.bench));
        some = λ d. record { is = is_lower d; first = λ z l. loaded d z l (every z l) };
        course = course_from c done mid lower;
        found = end;
        behind = record {
          searching = f.searching;
          reached = best_bench.1;
          jobs = omega (arith, from_distance f k.joined.storable.valid start_on best.bench best_bench.1, h.far);
          agree = λ w m d e q l u. k.joined.elsewhere w (λ i. d (ap (at came) i ∙ f.start)) q;
        };
        list = trail_list c k.joined.storable.valid x start_on (from_trails f) best.bench best_bench.1;
      }
        where
          every : (z : ℕ) → Lower c x (distance c x) z → Earlier c loads x best bound z
          every z l = elim (ℕ_discrete (at came z) 0) [
            | yes e ↦ beyond z l e
            | no d ↦ let (i, u, e) = f.searching.listed z (omega arith) in subst (Earlier c loads x best bound) e (h.first i u)
          ]

          low : (z : ℕ) → Lower c x (distance c x) z → bound ≤ at loads z
          low z l = elim (every z l) [ inl e ↦ omega arith | inr e ↦ omega (arith, e.0) ]

          is_lower : best.jobs ≢ 0 → Lower c x (distance c x) best.bench
          is_lower d = record {
            bench = on_board k.joined best_bench.0;
            reached = omega (arith, h.far);
            lower = omega (arith, (h.some d).0, (h.some d).1, weight best_bench.0, weight k.bench);
          }

          loaded : best.jobs ≢ 0 → (z : ℕ) → Lower c x (distance c x) z → Earlier c loads x best bound z → (load c.holders best.bench < load c.holders z) ⊎ ((load c.holders best.bench ≡ load c.holders z) × ((distance c x best.bench < distance c x z) ⊎ ((distance c x best.bench ≡ distance c x z) × (best.bench ≤ z))))
          loaded d z l (inl e) = inl (omega (arith, (h.some d).0, weight best_bench.0, weight (in_size k.joined z l.bench)))
          loaded d z l (inr (e, m)) = inr (omega (arith, (h.some d).0, weight best_bench.0, weight (in_size k.joined z l.bench)), m)
