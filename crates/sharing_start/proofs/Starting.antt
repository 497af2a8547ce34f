-- Levelling's first bench: one search after the other, by falling load and rising number. What was found before is handed on by every step and
-- has at least the load less one, so nothing of it starts an improving path, and nothing of it is searched again.
use Prim.Native.Nat.{ℕ, suc, ◌+◌, ◌-◌, ◌*◌, ◌≤◌, ◌<◌}
use native.Mathlib.Omega.{arith}
use Rattle.std.specs.Prelude.{Option, None, Some, is_some, true, false}
use native.Mathlib.Decide.{ℕ_discrete, dec_lt, dec_le}
use native.Mathlib.Numerals.{add-one}
use mathlib.Core.Path.{◌≡◌, refl, sym, ap, subst, ◌∙◌}
use mathlib.Core.Logic.{◌⊎◌, inl, inr, ⊎_elim, ◌≢◌}
use mathlib.Core.List.{List}
use lib.Dec.{T}
use lib.ListN.{length, replicate, set}
use lib.Seq.{get_or-set_same, get_or-set_other}
use Rattle.spec_lists.specs.Lists.{within, greatest}
use Rattle.spec_table.specs.Board.{Board, load}
use Rattle.spec_table.specs.Table.{most_benches, most_jobs, decode}
use Rattle.spec_sharing.specs.Paths.{BenchPath, steps}
use Rattle.spec_sharing.specs.Searches.{Reach, StartsOne}
use Rattle.table_size.specs.Sizes.{BenchIn}
use Rattle.table_size.specs.declared.Size.{Size}
use Rattle.table_board.specs.BoardView.{HoldsBoard, Loaded}
use Rattle.graph_lists.specs.Arrays.{at}
use Rattle.graph_lists.specs.Keys.{QueuedIn, WantedIn}
use Rattle.sharing_loads.specs.LoadRanks.{Lightest, NextLower}
use Rattle.sharing_search.specs.Searching.{started, Course, Searching, Discovered, Grown, AtLevel, Level}
use Rattle.sharing_start.specs.PathStart.{FirstStart, StartOf, rank_at, start_rank, course_of, StartsFrom, Searched, SearchedTo}
use Rattle.sharing_start.specs.declared.Search.{Search}
use Rattle.spec_lists.proofs.Tests.{within_high, within_both}
use Rattle.spec_lists.proofs.Counting.{greatest_above, greatest_most}
use Rattle.spec_sharing.proofs.Found.{level_starts}
use Rattle.spec_sharing.proofs.Trails.{trail_reach, trails_shut}
use Rattle.spec_sharing.proofs.Walks.{reach_bench}
use Rattle.table_size.proofs.Sizes.{board_bench, bench_in}
use Rattle.sharing_steps.proofs.AsSteps.{loads_in, load_at}
use Rattle.graph_lists.proofs.Listing.{array_at}
use Rattle.sharing_search.proofs.Queue.{discovered_had, discovered_new}
use Rattle.sharing_search.proofs.Steps.{found_bench, search_none, search_most, search_level, search_rounded, search_seed, search_trails}

-- a rank is that of one bench only
rank_same : (k l x y : ℕ) → x ≤ most_benches → y ≤ most_benches → k * (most_benches + 1) + x ≡ l * (most_benches + 1) + y → x ≡ y
rank_same k l x y u v e = elim (dec_lt k l) [
  | yes h ↦ absurd (omega arith)
  | no h ↦ elim (dec_lt l k) [ yes g ↦ absurd (omega arith) | no g ↦ omega arith ]
]

-- one search

-- the search from x, of load n, has come to place `begin` of the queue, where a level begins that ends at `end`: no bench found is lighter than
-- n - 1, and no bench that comes before x starts an improving path
pub record Seeking (b : Board) (s : Size) (n x begin end : ℕ) (queue came : List ℕ) : Type 0 where
  pub level : ℕ
  pub searching : Searching (course_of b (rank_at n x) begin end level) s.benches 0 end queue came
  pub here : 1 ≤ at came x
  pub few : n ≤ most_jobs
  pub high : (y : ℕ) → 1 ≤ at came y → n ≤ load b.holders y + 1
  pub first : StartsFrom b s n x

module _ {b : Board} {s : Size} {loads : List ℕ} {x : ℕ} (loaded : Loaded b loads) (bench : BenchIn s x) where
  -- the load of a bench stands at its number
  weighs : (y : ℕ) → BenchIn s y → s.benches ≤ most_benches → at loads y ≡ load b.holders y
  weighs y i few = loaded.bench y i.least (omega (arith, i.most))

  -- x is found, if it was not before
  pub seeking_start : {found end : ℕ} {queue came queue' came' : List ℕ} → Searched b s (at loads x) x found queue came → Discovered x started found queue came end queue' came' → Seeking b s (at loads x) x found end queue' came'
  seeking_start {found} {end} {queue} {came} {queue'} {came'} h f = elim (ℕ_discrete (at came x) 0) [
    | no d ↦
        let (m, q, k) = discovered_had f d in
        rw (m, q, k) (record { level = 0; searching = round.0; here = omega arith; few = h.few; high = h.high; first = h.first })
    | yes z ↦ fresh z (discovered_new f z).2
  ]
    where
      few : s.benches ≤ most_benches
      few = h.searching.few

      round : (R : Searching (course_of b (rank_at (at loads x) x) found found 0) s.benches 0 found queue came) × ((y : ℕ) → R.trail y ≡ h.searching.trail y)
      round = search_rounded h.searching (rank_at (at loads x) x) refl (omega (arith, h.before))

      before : (i : ℕ) → i < found → start_rank b (round.0.trail (at queue i)).start < rank_at (at loads x) x
      before i l =
          omega (arith, ap (λ (p : BenchPath). start_rank b p.start) (round.1 (at queue i)), h.searching.ranked i l, h.before)

      fresh : at came x ≡ 0 → came' ≡ set came x started → Seeking b s (at loads x) x found end queue' came'
      fresh z k =
          record {
            level = 0;
            searching = search_seed round.0 refl refl (within_both 1 s.benches x bench.least bench.most) z (ap (λ (m : ℕ). rank_at m x) (sym (weighs x bench few))) (λ i l m. absurd (omega arith)) before f;
            here = rw k (omega (arith, get_or-set_same came x started 0 (omega (arith, h.searching.came_long, bench.most, few))));
            few = h.few;
            high = λ y m. elim (ℕ_discrete y x) [
              | yes e ↦ omega (arith, ap (load b.holders) e, weighs x bench few)
              | no d ↦ h.high y (omega (arith, ap (λ (l : List ℕ). at l y) k, get_or-set_other came x y started 0 d))
            ];
            first = h.first;
          }

  module _ {begin end : ℕ} {queue came : List ℕ} (h : Seeking b s (at loads x) x begin end queue came) where
    few : s.benches ≤ most_benches
    few = h.searching.few

    -- the course leads along the board's steps
    pub seeking_level : AtLevel (course_of b (rank_at (at loads x) x) begin end h.level) b s begin end end queue came
    seeking_level =
        record { searching = h.searching; at_done = refl; at_end = refl; agree = λ i l m q u v. (λ k. k, λ k. k) }

    -- at the end x starts no improving path: what it reaches is found, and not light enough
    pub seeking_end : end ≤ begin → Searched b s (at loads x) (suc x) end queue came
    seeking_end done =
        record {
          now = rank_at (at loads x) x;
          level = h.level;
          searching = subst (λ (m : ℕ). Searching (course_of b (rank_at (at loads x) x) m end h.level) s.benches 0 end queue came) whole h.searching;
          before = omega arith;
          least = omega arith;
          most = omega (arith, bench.most);
          few = h.few;
          high = h.high;
          first = λ w k o. ⊎_elim inl (λ p. inr (p.0, above w o p.1)) (h.first w k o);
        }
      where
        whole : begin ≡ end
        whole = omega (arith, h.searching.place)

        none : StartsOne b x → ⊥
        none (y, r, d) =
            omega (arith, weighs x bench few, h.high y (trails_shut (search_trails h.searching) (λ u (i, l, m, e). omega arith) x y h.here r))

        above : (w : ℕ) → StartsOne b w → x ≤ w → suc x ≤ w
        above w o l = elim (ℕ_discrete w x) [ yes e ↦ absurd (none (subst (StartsOne b) e o)) | no d ↦ omega arith ]

    module _ {more : ℕ} {queue' came' : List ℕ} (grown : Grown end queue came more queue' came') (level : (c : Course) → AtLevel c b s begin end end queue came → Level c s.benches 0 more queue' came') where
      -- one level more: the whole of it, as no bench has the number 0
      level_next : Searching (course_of b (rank_at (at loads x) x) end more (suc h.level)) s.benches 0 more queue' came'
      level_next =
          let v = level (course_of b (rank_at (at loads x) x) begin end h.level) seeking_level in
          let whole : v.place ≡ end = ⊎_elim (λ e. e) (λ z. absurd (found_bench v.searching 0 z)) v.whole in
          search_level (subst (λ (m : ℕ). Searching (course_of b (rank_at (at loads x) x) m end h.level) s.benches 0 more queue' came') whole v.searching) refl

      -- what is new has places in the arrays
      pub level_queued : QueuedIn queue' end more
      level_queued =
          record {
            most = search_most level_next;
            bench = λ i l u. omega (arith, within_high 1 s.benches (at queue' i) (level_next.bench i u).0, few);
          }

      -- the queue is as long as before
      pub level_long : length queue' ≡ most_benches + 1
      level_long = level_next.queue_long

      -- a load that is lower by two or more was found: x is the first that starts an improving path
      pub level_first : 2 ≤ at loads x → WantedIn queue' end more loads (at loads x - 2) → FirstStart b s x
      level_first least (i, l, u, w) =
          record { bench = bench; starts = (y, subst (λ (v : ℕ). Reach (steps b) v y) same reach.1, omega (arith, weighs x bench few, weighs y (bench_in s y (found_bench level_next y mark)) few)); first = rw (weighs x bench few) at h.first }
        where
          y : ℕ
          y = at queue' i

          mark : 1 ≤ at came' y
          mark = (level_next.bench i u).1

          v : ℕ
          v = (level_next.trail y).start

          reach : (at came' v ≡ started) × Reach (steps b) v y
          reach = trail_reach (search_trails level_next) y mark

          -- it was found from x, which has the rank of the present start
          same : v ≡ x
          same =
              rank_same (most_jobs - load b.holders v) (most_jobs - at loads x) v x (omega (arith, (bench_in s v (found_bench level_next v (omega (arith, reach.0)))).most, few)) (omega (arith, bench.most, few)) (level_next.round i l u)

      -- none was found: the next level is searched
      pub level_turn : (WantedIn queue' end more loads (at loads x - 2) → ⊥) → Seeking b s (at loads x) x end more queue' came'
      level_turn none =
          record {
            level = suc h.level;
            searching = level_next;
            here = omega (arith, h.here, grown.kept x h.here);
            few = h.few;
            high = high;
            first = h.first;
          }
        where
          high : (y : ℕ) → 1 ≤ at came' y → at loads x ≤ load b.holders y + 1
          high y m =
              let (i, u, e) = level_next.listed y m in
              elim (dec_lt i end) [
                | yes l ↦
                    let d = sym (grown.before i l) ∙ e in
                    h.high y (subst (λ (z : ℕ). 1 ≤ at came z) d (h.searching.bench i l).1)
                | no l ↦ elim (dec_le (at loads y) (at loads x - 2)) [
                  | yes w ↦ absurd (none (i, omega arith, u, rw e w))
                  | no w ↦ omega (arith, weighs y (bench_in s y (found_bench level_next y m)) few)
                ]
              ]

-- whether a bench is told

pub is_told : (o : Option ℕ) → is_some o ≡ true → o ≢ None
is_told None t e = cc
is_told (Some v) t e = cc

pub is_untold : (o : Option ℕ) → is_some o ≡ false → o ≡ None
is_untold None e = refl
is_untold (Some v) e = cc

-- what a search tells

module _ {b : Board} {s : Size} {n x : ℕ} {queue came : List ℕ} where
  -- the first bench that starts an improving path is known ..
  pub searched_some : {r found : ℕ} → FirstStart b s r → length queue ≡ most_benches + 1 → SearchedTo b s n x (record { start = Some r; found = found }) queue came
  searched_some {r} f m = record { none = λ e. absurd (cc); some = λ v e. let same : r ≡ v = cc in rw (← same) f; long = m }

  -- .. or no bench up to there does
  pub searched_none : {found : ℕ} → Searched b s n x found queue came → SearchedTo b s n x (record { start = None; found = found }) queue came
  searched_none h = record { none = λ _. h; some = λ v e. absurd (cc); long = h.searching.queue_long }

module _ {b : Board} {s : Size} {n x found : ℕ} {queue came : List ℕ} (h : Searched b s n x found queue came) where
  -- a bench of another load is passed over
  pub searched_past : {loads : List ℕ} → Loaded b loads → x ≤ s.benches → at loads x ≢ n → Searched b s n (x + 1) found queue came
  searched_past {loads} loaded u d =
      record {
        now = h.now;
        level = h.level;
        searching = h.searching;
        before = omega (arith, h.before);
        least = omega arith;
        most = omega arith;
        few = h.few;
        high = h.high;
        first = λ w k o. ⊎_elim inl (λ p. inr (p.0, above w p.0 p.1)) (h.first w k o);
      }
    where
      above : (w : ℕ) → n ≡ load b.holders w → x ≤ w → x + 1 ≤ w
      above w e l = elim (ℕ_discrete w x) [
        | yes i ↦ absurd (d (loaded.bench x h.least (omega (arith, h.searching.few)) ∙ ap (load b.holders) (sym i) ∙ sym e))
        | no i ↦ omega arith
      ]

  -- behind the last bench all of this load were searched from
  pub searched_all : s.benches < x → Searched b s n (suc s.benches) found queue came
  searched_all u = let e : x ≡ suc s.benches = omega (arith, h.most) in subst (λ (x : ℕ). Searched b s n x found queue came) e h

module _ {b : Board} {s : Size} {n x : ℕ} {r : Search} {queue came : List ℕ} (h : SearchedTo b s n (suc x) r queue came) where
  -- the search from x met no load that is low enough: the next bench is next ..
  pub searched_turn : {m : ℕ} → n ≡ m → r.start ≡ None → Searched b s m (x + 1) r.found queue came
  searched_turn e z = rw (add-one x, sym e) (h.none z)

  -- .. or x starts an improving path, and is the first that does
  pub searched_stop : {m y : ℕ} → r.start ≢ None → SearchedTo b s m y r queue came
  searched_stop d = record { none = λ e. absurd (d e); some = h.some; long = h.long }

-- every load in turn

-- what is known to be the first is levelling's first bench
pub start_some : {b : Board} {s : Size} {n x : ℕ} {r : Search} {queue came : List ℕ} → SearchedTo b s n x r queue came → r.start ≢ None → StartOf b s r.start
start_some h d = record { none = λ e. absurd (d e); some = h.some }

-- one load less, the next that a bench has
pub falling_turn : {b : Board} {s : Size} {n r : ℕ} {loads : List ℕ} {x : Search} {queue came : List ℕ} → Loaded b loads → SearchedTo b s n (suc s.benches) x queue came → x.start ≡ None → 1 ≤ n → NextLower s loads n r → Searched b s r 1 x.found queue came
falling_turn {b} {s} {n} {r} {loads} {x} {queue} {came} loaded h z least next =
    record {
      now = o.now;
      level = o.level;
      searching = o.searching;
      before = omega (arith, o.before, o.few, o.searching.few, less);
      least = omega arith;
      most = omega arith;
      few = omega (arith, o.few, less);
      high = λ y m. omega (arith, o.high y m, less);
      first = λ w k q. lower w k (o.first w k q);
    }
  where
    o : Searched b s n (suc s.benches) x.found queue came
    o = h.none z

    less : r < n
    less = next.lower least

    lower : (w : ℕ) → BenchIn s w → (load b.holders w < n) ⊎ ((n ≡ load b.holders w) × (suc s.benches ≤ w)) → (load b.holders w < r) ⊎ ((r ≡ load b.holders w) × (1 ≤ w))
    lower w k (inr (e, l)) = absurd (omega (arith, k.most))
    lower w k (inl l) =
        let e = loaded.bench w k.least (omega (arith, k.most, o.searching.few)) in
        let m = next.most w k (omega arith) in
        elim (dec_lt (load b.holders w) r) [ yes i ↦ inl i | no i ↦ inr (omega arith, k.least) ]

module _ {t : List ℕ} {s : Size} {loads : List ℕ} (k : HoldsBoard t s) (loaded : Loaded (decode t) loads) where
  -- at the greatest load no bench was searched from
  pub falling_start : {n : ℕ} {queue came : List ℕ} → n ≡ greatest s.benches (at loads) → length queue ≡ most_benches + 1 → came ≡ replicate (most_benches + 1) 0 → Searched (decode t) s n 1 0 queue came
  falling_start {n} {queue} {came} e long m =
      record {
        now = 0;
        level = 0;
        searching = search_none (decode t) k.storable k.size.board_benches refl refl refl k.size.limits.benches_most long m;
        before = omega arith;
        least = omega arith;
        most = omega arith;
        few = omega (arith, greatest_most s.benches (at loads) most_jobs (λ x l u. omega (arith, (loads_in k loaded).most x l, k.size.limits.jobs_most)));
        high = λ y h. absurd (omega (arith, array_at (most_benches + 1) m y));
        first = λ w i o.
            let f = greatest_above s.benches (at loads) w i.least i.most in
            let g = load_at k loaded i in
            elim (dec_lt (load (decode t).holders w) n) [ yes h ↦ inl h | no h ↦ inr (omega arith, i.least) ];
      }

  -- no bench is left whose load is the least and two, or more: none starts an improving path
  pub falling_end : {goal n found : ℕ} {queue came : List ℕ} → Lightest s loads goal → Searched (decode t) s n 1 found queue came → n < at loads goal + 2 → StartOf (decode t) s None
  falling_end {goal} {n} low h u = record { none = λ _. (level_starts (decode t) k.storable.valid).1 none; some = λ v e. absurd (cc) }
    where
      none : (x : ℕ) → T (within 1 (decode t).benches x) → StartsOne (decode t) x → ⊥
      none x w (y, r, d) =
          let v = board_bench x k.size w in
          let i = board_bench y k.size (reach_bench (decode t) k.storable.valid x y w r) in
          let e = load_at k loaded i in
          let l : at loads goal ≤ at loads y = ⊎_elim (λ p. omega arith) (λ p. omega (arith, p.0)) (low.least y i) in
          ⊎_elim (λ p. omega arith) (λ p. omega (arith, p.0)) (h.first x v (y, r, d))
