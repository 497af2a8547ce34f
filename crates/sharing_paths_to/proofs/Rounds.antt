-- The rounds, by falling load, and the path that the closing's order names.
use Prim.Native.Nat.{ℕ, suc, ◌+◌, ◌-◌, ◌≤◌, ◌<◌}
use native.Mathlib.Omega.{arith}
use native.Mathlib.Decide.{dec_lt}
use mathlib.Core.Path.{◌≡◌, refl, sym, ap, subst, ◌∙◌}
use mathlib.Core.Logic.{◌≢◌}
use mathlib.Core.List.{List, [], ◌∷◌}
use mathlib.Core.Option.{none, some}
use lib.Dec.{T}
use lib.ListN.{length, take, replicate, length-map}
use lib.Seq.{get_or-take}
use Rattle.spec_lists.specs.Lists.{within}
use Rattle.spec_table.specs.Board.{Board, holder_of, stands, load, heaviest}
use Rattle.spec_table.specs.Table.{most_benches, decode}
use Rattle.spec_sharing.specs.Paths.{Step, path_by, jobs}
use Rattle.spec_sharing.specs.Sharing.{closing_choice}
use Rattle.spec_table.proofs.Loads.{load_heaviest}
use Rattle.spec_sharing.proofs.Paths.{improves_loads, improving_to_only}
use Rattle.spec_sharing.proofs.Choice.{closing_choice_lem}
use Rattle.spec_sharing.proofs.Trails.{closing_trail_none}
use Rattle.table_size.specs.Sizes.{JobIn, BenchIn}
use Rattle.table_size.specs.declared.Size.{Size}
use Rattle.table_size.proofs.Sizes.{bench_in}
use Rattle.table_board.specs.BoardView.{HoldsBoard, HolderOf, Loaded}
use Rattle.table_board.proofs.RecordsAsBoard.{stands_job}
use Rattle.graph_lists.specs.Arrays.{at}
use Rattle.graph_lists.proofs.Listing.{array_at}
use Rattle.sharing_steps.proofs.AsSteps.{bench_load, step_job}
use Rattle.sharing_loads.specs.LoadRanks.{NextLower}
use Rattle.sharing_search.specs.Searching.{Searching}
use Rattle.sharing_search.proofs.Steps.{search_none, search_round, search_trails}
use Rattle.sharing_paths.specs.FoundPaths.{start_of, PathFound}
use Rattle.sharing_paths.proofs.Following.{trail_few}
use Rattle.sharing_paths_to.specs.ClosingSearch.{WithoutJob, course_to, FromHeavier, Rounds, GoalFound}
use Rattle.sharing_paths_to.proofs.Keeping.{heavier_kept}

-- from the heaviest load on there is no bench above: the rounds begin
pub rounds_begin : {b c : Board} {s : Size} {loads : List ℕ} {x h : ℕ} {queue came : List ℕ} → WithoutJob b c s x → Loaded c loads → BenchIn s x → s.benches ≤ most_benches → heaviest c ≤ h → length queue ≡ most_benches + 1 → came ≡ replicate (most_benches + 1) 0 → Rounds b c s loads x h 0 queue came
rounds_begin {b} {c} {s} {loads} {x} {h} {queue} {came} without loaded bench few e q z = record {
  without = without;
  loaded = loaded;
  bench = bench;
  searching = search_none c without.storable without.benches refl refl refl few q z;
  missed = none_found x;
  heavier = record {
    heavy = λ z t l. absurd (omega (arith, load_heaviest c z t));
    starts = λ v d. absurd (omega (arith, none_found v));
  };
}
  where
    none_found : (y : ℕ) → at came y ≡ 0
    none_found = array_at (most_benches + 1) z

module _ {b c : Board} {s : Size} {loads : List ℕ} {x h found : ℕ} {queue came : List ℕ} where
  -- loads that no bench has are left out
  pub rounds_lower : {r : ℕ} → Rounds b c s loads x (h - 1) found queue came → 1 ≤ h → NextLower s loads h r → Rounds b c s loads x r found queue came
  rounds_lower {r} k l n = record {
    without = k.without;
    loaded = k.loaded;
    bench = k.bench;
    searching = after;
    missed = k.missed;
    heavier = record { heavy = heavy; starts = λ v e. omega (arith, k.heavier.starts v e, n.lower l) };
  }
    where
      after : Searching (course_to c r found found 0) s.benches 0 found queue came
      after = search_round k.searching (heaviest c - r) refl (omega (arith, n.lower l))

      heavy : (z : ℕ) → T (within 1 c.benches z) → suc r ≤ load c.holders z → FromHeavier c came after.trail z
      heavy z t g =
          let bench : BenchIn s z = bench_in s z (subst (λ (n : ℕ). T (within 1 n z)) k.without.benches t) in
          let its_load = bench_load k.searching.few k.loaded bench in
          heavier_kept c k.searching refl after refl (λ y m. refl) z (k.heavier.heavy z t (elim (dec_lt (at loads z) h) [
            | yes u ↦ absurd (omega (arith, n.most z bench u))
            | no u ↦ omega arith
          ]))

  -- where no bench is left that is heavy enough, there is no path
  pub rounds_none : Rounds b c s loads x h found queue came → h < at loads x + 2 → closing_choice c x ≡ none
  rounds_none k l =
      closing_trail_none c k.without.storable.valid x (search_trails k.searching) (λ m. omega (arith, k.missed)) (λ u (i, m, n, e). omega arith)
      (λ z t g. (k.heavier.heavy z t (omega (arith, bench_load k.searching.few k.loaded k.bench))).0)

-- no path is x itself, and no job
pub path_none : (c : Board) {x : ℕ} {path : List ℕ} → closing_choice c x ≡ none → length path ≡ most_benches + 1 → PathFound (closing_choice c x) (start_of x (closing_choice c x)) path (record { bench = x; jobs = 0 })
path_none c e long = rw e (record { bench = refl; count = refl; listed = refl; few = omega arith; long = long })

-- a path that was found, and followed back into an array
module _ {t : List ℕ} {c : Board} {s : Size} {x n found : ℕ} {queue came : List ℕ} (path : List ℕ) (holds_board : HoldsBoard t s) (without : WithoutJob (decode t) c s x) (k : GoalFound (decode t) c s x n found queue came) (some-jobs : n ≢ 0) (listed : take n path ≡ jobs (k.behind.searching.trail x)) where
  -- its first job stands in the table, held by its first bench ..
  first_held_lem : T (stands (decode t) (at path 0)) × (holder_of (decode t) (at path 0) ≡ (k.behind.searching.trail x).start)
  first_held_lem = go (k.behind.searching.trail x).start (k.behind.searching.trail x).route k.choice k.behind.jobs listed
    where
      go : (v : ℕ) (r : List Step) → closing_choice c x ≡ some (path_by v r) → length r ≡ n → take n path ≡ jobs (path_by v r) → T (stands (decode t) (at path 0)) × (holder_of (decode t) (at path 0) ≡ v)
      go v [] e l m = absurd (omega arith)
      go v (q ∷ r) e l m =
          let (is, _, ends, improves) = improving_to_only c x (path_by v (q ∷ r)) ((closing_choice_lem c x (path_by v (q ∷ r))).0 e).listed_is in
          let far = improves_loads c (path_by v (q ∷ r)) improves in
          let apart : v ≢ x = λ d. omega (arith, ap (load c.holders) d, ap (load c.holders) ends) in
          let (p, held, _) = step_job holds_board v q ((without.elsewhere v apart q).0 is.walk.0) in
          let same : at path 0 ≡ q.job = sym (get_or-take n path 0 0 (omega arith)) ∙ ap (λ (l : List ℕ). at l 0) m in
          rw same (p, held)

  -- .. so it is one of 1 to J ..
  pub path_job : JobIn s (at path 0)
  path_job = stands_job t s (at path 0) holds_board.size first_held_lem.0

  -- .. and the path is the one that the closing's order names
  pub path_found : {y : ℕ} → length path ≡ most_benches + 1 → HolderOf t s (at path 0) y → PathFound (closing_choice c x) (start_of x (closing_choice c x)) path (record { bench = y; jobs = n })
  path_found {y} long e = rw k.choice (record {
    bench = e.value ∙ first_held_lem.1;
    count = sym (length-map (k.behind.searching.trail x).route (λ q. q.job) ∙ k.behind.jobs);
    listed = listed;
    few = omega (arith, trail_few k.behind.searching x k.behind.reached, k.behind.jobs);
    long = long;
  })
