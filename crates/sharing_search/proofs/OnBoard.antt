-- The search on a board: a bench's steps are the jobs on its chain, taken one by one from the lowest, and the benches of a level one by one.
use Prim.Native.Nat.{ℕ, suc, ◌+◌, ◌≤◌, ◌<◌}
use native.Mathlib.Omega.{arith}
use native.Mathlib.Decide.{ℕ_discrete, dec_lt}
use mathlib.Core.Path.{◌≡◌, refl, sym, ap, subst, ◌∙◌}
use mathlib.Core.Logic.{◌⊎◌, inl, inr, ⊎_elim, ◌≢◌}
use mathlib.Core.List.{List}
use lib.Dec.{T}
use Rattle.spec_lists.specs.Lists.{In}
use Rattle.spec_table.specs.Board.{Board, holder_of, stands}
use Rattle.spec_table.specs.Table.{most_benches, most_jobs, decode}
use Rattle.spec_sharing.specs.Paths.{Step, step_by, steps}
use Rattle.spec_lists.proofs.Tests.{within_low, within_high}
use Rattle.table_size.specs.Sizes.{JobIn, BenchIn}
use Rattle.table_size.specs.declared.Size.{Size}
use Rattle.table_board.specs.BoardView.{HoldsBoard}
use Rattle.table_board.proofs.RecordsAsBoard.{sound_holds_board, held_stands, stands_job}
use Rattle.table_order.specs.InOrder.{InOrder, FirstFrom}
use Rattle.graph_lists.specs.Arrays.{at}
use Rattle.graph_lists.proofs.Listing.{left, left_less}
use Rattle.sharing_steps.specs.Others.{OtherOf}
use Rattle.sharing_steps.proofs.AsSteps.{job_step, step_job}
use Rattle.sharing_search.specs.Searching.{started, Course, at_place, Searching, Discovered, Grown, Agree, AtBench, AtLevel, Level}
use Rattle.sharing_search.proofs.Queue.{grown_none, grown_more, grown_one}
use Rattle.sharing_search.proofs.Steps.{search_most, search_turn, search_skip, search_leave}

-- steps and jobs

module _ {t : List ℕ} {s : Size} (order : InOrder t s) where
  -- its records hold a board
  pub order_holds : HoldsBoard t s
  order_holds = sound_holds_board t s order.sound

  module _ {x : ℕ} (bench : BenchIn s x) {c : Course} {j low high found : ℕ} {queue came : List ℕ} (a : AtBench c (decode t) s x j low high found queue came) where
    -- from the lowest job on that the bench holds there are its steps, and before it none
    steps_from_lem : (q : Step) → In q (c.out x) → low ≤ q.job → q.job < high → (j ≢ 0) × (j ≤ q.job)
    steps_from_lem q i l h =
        let (p, e, _) = step_job order_holds x q ((a.agree q l h).0 i) in
        a.next.least q.job l (stands_job t s q.job order.sound.size p) e

    -- the bench's lowest job is one of the board, and it holds it ..
    pub bench_job : j ≢ 0 → JobIn s j × (holder_of (decode t) j ≡ x)
    bench_job d = let (_, i, e) = a.next.found d in (i, e)

    -- .. the step by it is taken, and the next job is the lowest
    pub bench_turn : {y next found' : ℕ} {queue' came' : List ℕ} → j ≢ 0 → j < high → OtherOf (decode t) s j y → Discovered y j found queue came found' queue' came' → FirstFrom (decode t) s (holder_of (decode t) j) (suc j) next → AtBench c (decode t) s x next (suc j) high found' queue' came'
    bench_turn {y} {next} {found'} {queue'} {came'} d h o f n =
        let (l, i, e) = a.next.found d in
        let g = grown_one f in
        record {
          searching = search_turn a.searching a.reached a.here (step l e) l least f;
          reached = a.reached;
          here = g.before c.done (omega (arith, a.reached, a.searching.places)) ∙ a.here;
          next = subst (λ (x : ℕ). FirstFrom (decode t) s x (suc j) next) e n;
          agree = λ q k. a.agree q (omega arith);
          rises = h;
          most = a.most;
        }
      where
        step : low ≤ j → holder_of (decode t) j ≡ x → In (step_by j y) (c.out x)
        step l e = (a.agree (step_by j y) l h).1 (subst (λ (y : ℕ). In (step_by j y) (steps (decode t) x)) (sym o.value) (job_step order_holds j x bench.least e))

        least : (q : Step) → In q (c.out x) → low ≤ q.job → j ≤ q.job
        least q i l = elim (dec_lt q.job high) [ yes u ↦ (steps_from_lem q i l u).1 | no u ↦ omega arith ]

    -- after it, fewer jobs are left
    pub bench_less : {next : ℕ} → j ≢ 0 → FirstFrom (decode t) s (holder_of (decode t) j) (suc j) next → left most_jobs next < left most_jobs j
    bench_less {next} d n =
        let most = order.sound.size.limits.jobs_most in
        left_less most_jobs j next d (omega (arith, (bench_job d).0.most)) (elim (ℕ_discrete next 0) [
          | yes z ↦ inl z
          | no z ↦ let (l, i, _) = n.found z in inr (l, omega (arith, i.most))
        ])

    -- past the limit every step below it was taken
    pub bench_end : (j ≡ 0) ⊎ (high ≤ j) → FirstFrom (decode t) s x high j × Searching c s.benches high found queue came
    bench_end past =
        (record { found = found_past; least = λ k l. a.next.least k (omega (arith, a.rises)) }, search_skip a.searching high a.here a.rises none)
      where
        found_past : j ≢ 0 → (high ≤ j) × JobIn s j × (holder_of (decode t) j ≡ x)
        found_past d = let (i, e) = bench_job d in (⊎_elim (λ z. absurd (d z)) (λ u. u) past, i, e)

        none : (q : Step) → In q (c.out x) → low ≤ q.job → q.job < high → ⊥
        none q i l h = let (d, m) = steps_from_lem q i l h in ⊎_elim (λ z. d z) (λ u. omega arith) past

-- the jobs of a bench, one after the other: every search that was to take them has taken those before j, and found more
pub record Expanding (b : Board) (s : Size) (x job high found : ℕ) (queue came : List ℕ) (j found' : ℕ) (queue' came' : List ℕ) : Type 0 where
  pub grown : Grown found queue came found' queue' came'
  pub at_bench : (c : Course) (low : ℕ) → AtBench c b s x job low high found queue came → (l : ℕ) × AtBench c b s x j l high found' queue' came'

module _ {t : List ℕ} {s : Size} {x : ℕ} (order : InOrder t s) (bench : BenchIn s x) {job high found : ℕ} {queue came : List ℕ} (begun : (c : Course) × (low : ℕ) × AtBench c (decode t) s x job low high found queue came) {j found' : ℕ} {queue' came' : List ℕ} (e : Expanding (decode t) s x job high found queue came j found' queue' came') where
  -- one search that is there
  one_bench : (low : ℕ) × AtBench begun.0 (decode t) s x j low high found' queue' came'
  one_bench = e.at_bench begun.0 begun.1 begun.2

  -- .. no more benches are found than there can be ..
  pub expand_few : found' ≤ most_benches
  expand_few = search_most one_bench.1.searching

  -- .. the next job is one of the board, and the bench holds it ..
  pub expand_job : j ≢ 0 → JobIn s j × (holder_of (decode t) j ≡ x)
  expand_job = bench_job order bench one_bench.1

  -- .. it stands ..
  pub expand_stands : j ≢ 0 → T (stands (decode t) j)
  expand_stands d = let (i, h) = expand_job d in held_stands t s j (order_holds order) (λ z. omega (arith, h, bench.least))

  -- .. after it fewer are left ..
  pub expand_less : {next : ℕ} → j ≢ 0 → FirstFrom (decode t) s (holder_of (decode t) j) (suc j) next → left most_jobs next < left most_jobs j
  expand_less = bench_less order bench one_bench.1

  -- .. the step by it is taken ..
  pub expand_turn : {y next found₂ : ℕ} {queue₂ came₂ : List ℕ} → j ≢ 0 → j < high → OtherOf (decode t) s j y → Discovered y j found' queue' came' found₂ queue₂ came₂ → FirstFrom (decode t) s (holder_of (decode t) j) (suc j) next → Expanding (decode t) s x job high found queue came next found₂ queue₂ came₂
  expand_turn d h o f n = record {
    grown = grown_more e.grown (grown_one f);
    at_bench = λ c low a. (suc j, bench_turn order bench (e.at_bench c low a).1 d h o f n);
  }

  -- .. and past the limit all are
  pub expand_end : (j ≡ 0) ⊎ (high ≤ j) → FirstFrom (decode t) s x high j × (Grown found queue came found' queue' came' × ((c : Course) (low : ℕ) → AtBench c (decode t) s x job low high found queue came → Searching c s.benches high found' queue' came'))
  expand_end past =
      ((bench_end order bench one_bench.1 past).0, (e.grown, λ c low a. (bench_end order bench (e.at_bench c low a).1 past).1))

-- the benches of a level

module _ {c : Course} {b : Board} {s : Size} {done end found : ℕ} {queue came : List ℕ} (a : AtLevel c b s done end found queue came) where
  -- the level begins
  pub level_start : AtLevel (at_place c done) b s done end found queue came
  level_start = record {
    searching = subst (λ (n : ℕ). Searching (at_place c n) s.benches 0 found queue came) a.at_done a.searching;
    at_done = refl;
    at_end = a.at_end;
    agree = a.agree;
  }

  -- a bench stands at the place
  pub level_bench : done < end → BenchIn s (at queue done)
  level_bench h =
      let w = (a.searching.bench done (omega (arith, a.at_end, a.searching.places))).0 in
      record { least = within_low 1 s.benches (at queue done) w; most = within_high 1 s.benches (at queue done) w }

  -- the search is at that bench, and comes to its lowest job
  pub level_job : {job : ℕ} → done < end → FirstFrom b s (at queue done) 1 job → AtBench c b s (at queue done) job 0 started found queue came
  level_job h f = record {
    searching = a.searching;
    reached = omega (arith, a.at_done, a.at_end);
    here = ap (at queue) a.at_done;
    next = record { found = λ d. let (l, i, e) = f.found d in (omega arith, i, e); least = λ j l i. f.least j i.least i };
    agree = a.agree done (omega arith) h;
    rises = omega arith;
    most = omega arith;
  }

  -- all its steps were taken: the next place
  pub level_turn : {found' : ℕ} {queue' came' : List ℕ} → done < end → Grown found queue came found' queue' came' → Searching c s.benches started found' queue' came' → AtLevel (at_place c (done + 1)) b s (done + 1) end found' queue' came'
  level_turn {found'} {queue'} {came'} h g r = record {
    searching = subst (λ (n : ℕ). Searching (at_place c n) s.benches 0 found' queue' came') (omega (arith, a.at_done)) (search_leave r (omega (arith, a.at_done, a.at_end)));
    at_done = refl;
    at_end = a.at_end;
    agree = λ i l u.
        subst (λ (z : ℕ). Agree c b z 0 started) (sym (g.before i (omega (arith, a.at_end, a.searching.places)))) (a.agree i (omega arith) u);
  }

-- a level ends with its last bench, or where the goal was found
pub level_end : {c : Course} {b : Board} {s : Size} {done end found : ℕ} {queue came : List ℕ} (goal : ℕ) → AtLevel (at_place c done) b s done end found queue came → (end ≤ done) ⊎ (at came goal ≢ 0) → Level c s.benches goal found queue came
level_end {c} {done = done} goal a past =
    record { place = done; searching = a.searching; whole = ⊎_elim (λ h. inl (omega (arith, a.at_end, a.searching.place))) (λ d. inr (omega arith)) past }

-- the benches of a level, one after the other: every search that is at the level has taken the steps from those before `done`, and found
-- more
pub record Sweeping (b : Board) (s : Size) (begin end : ℕ) (queue came : List ℕ) (done found : ℕ) (queue' came' : List ℕ) : Type 0 where
  pub grown : Grown end queue came found queue' came'
  pub at_level_lem : (c : Course) → AtLevel c b s begin end end queue came → AtLevel (at_place c done) b s done end found queue' came'

-- at the first bench nothing more is found ..
pub sweep_start : {b : Board} {s : Size} {begin end : ℕ} {queue came : List ℕ} → Sweeping b s begin end queue came begin end queue came
sweep_start = record { grown = grown_none; at_level_lem = λ c a. level_start a }

module _ {b : Board} {s : Size} {begin end : ℕ} {queue came : List ℕ} (begun : (c : Course) × AtLevel c b s begin end end queue came) {done found : ℕ} {queue' came' : List ℕ} (e : Sweeping b s begin end queue came done found queue' came') where
  -- one search that is there
  one_level : AtLevel (at_place begun.0 done) b s done end found queue' came'
  one_level = e.at_level_lem begun.0 begun.1

  -- .. the level ends among the benches ..
  pub sweep_few : end ≤ most_benches
  sweep_few = let a = one_level.searching in omega (arith, one_level.at_end, a.places, search_most a)

  -- .. a bench stands at the next place ..
  pub sweep_bench : done < end → BenchIn s (at queue' done)
  sweep_bench = level_bench one_level

  -- .. the search comes to its lowest job ..
  pub sweep_job : {job : ℕ} → done < end → FirstFrom b s (at queue' done) 1 job → (c : Course) × (low : ℕ) × AtBench c b s (at queue' done) job low started found queue' came'
  sweep_job h f = (at_place begun.0 done, 0, level_job one_level h f)

  -- .. takes all its steps ..
  pub sweep_turn : {job found₂ : ℕ} {queue₂ came₂ : List ℕ} → done < end → FirstFrom b s (at queue' done) 1 job → Grown found queue' came' found₂ queue₂ came₂ → ((c : Course) (low : ℕ) → AtBench c b s (at queue' done) job low started found queue' came' → Searching c s.benches started found₂ queue₂ came₂) → Sweeping b s begin end queue came (done + 1) found₂ queue₂ came₂
  sweep_turn h f g r = record {
    grown = grown_more e.grown g;
    at_level_lem = λ c a. let l = e.at_level_lem c a in level_turn l h g (r (at_place c done) 0 (level_job l h f));
  }

  -- .. and is at the end of the level, or has found the goal
  pub sweep_end : (goal : ℕ) → (end ≤ done) ⊎ (at came' goal ≢ 0) → Grown end queue came found queue' came' × ((c : Course) → AtLevel c b s begin end end queue came → Level c s.benches goal found queue' came')
  sweep_end goal past = (e.grown, λ c a. level_end goal (e.at_level_lem c a) past)
