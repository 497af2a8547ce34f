-- The path that the arrival's order names: the first list to the end that the search found, or none.
use Prim.Native.Nat.{ℕ, ◌+◌, ◌≤◌, ◌<◌}
use native.Mathlib.Omega.{arith}
use native.Mathlib.Decide.{ℕ_discrete}
use mathlib.Core.Path.{◌≡◌, refl, sym, ap, ◌∙◌}
use mathlib.Core.Logic.{inl, inr, ◌≢◌}
use mathlib.Core.List.{List}
use lib.ListN.{length, take, length-map}
use Rattle.spec_table.specs.Board.{Board, Valid}
use Rattle.spec_table.specs.Table.{most_benches}
use Rattle.spec_sharing.specs.Paths.{Step, jobs}
use Rattle.spec_sharing.specs.Sharing.{arrival_choice}
use Rattle.spec_sharing.specs.Searches.{distance, Lower}
use Rattle.spec_sharing.proofs.Far.{distance_away}
use Rattle.spec_sharing.proofs.Found.{arrival_found, arrival_not_found}
use Rattle.table_size.specs.Sizes.{BenchIn}
use Rattle.table_size.specs.declared.Size.{Size}
use Rattle.table_board.specs.BoardView.{Loaded}
use Rattle.graph_lists.specs.Arrays.{at}
use Rattle.sharing_loads.specs.LoadRanks.{Lightest}
use Rattle.sharing_paths.specs.FoundPaths.{last_of, PathFound}
use Rattle.sharing_paths.specs.declared.FoundPath.{FoundPath}
use Rattle.sharing_paths.proofs.Following.{trail_few}
use Rattle.sharing_paths_from.specs.ArrivalSearch.{WithJob, FromBench, FirstLevel, EndFound}
use Rattle.sharing_paths_from.proofs.JoinedBoard.{on_board, in_size, load_at}

-- r tells the path that the arrival's order names
abbrev pub Arrival : Board → ℕ → List ℕ → FoundPath → Type 0
Arrival c x path r = PathFound (arrival_choice c x) (last_of x (arrival_choice c x)) path r

module _ {b c : Board} {s : Size} {x job other : ℕ} (joined : WithJob b c s x job other) (bench : BenchIn s x) where
  -- where no bench is an end, there is no path
  none_found : {path : List ℕ} {r : FoundPath} → ((z : ℕ) → Lower c x (distance c x) z → ⊥) → r.bench ≡ x → r.jobs ≡ 0 → length path ≡ most_benches + 1 → Arrival c x path r
  none_found {path} n e z l =
      let c-none = arrival_not_found c joined.storable.valid x (distance c x) (distance_away c joined.storable.valid x (on_board joined bench)) n in
      rw c-none (record { bench = e; count = z; listed = ap (λ (k : ℕ). take k path) z; few = omega arith; long = l })

  module _ {loads : List ℕ} {goal : ℕ} (loaded : Loaded c loads) (lightest : Lightest s loads goal) where
    -- .. as where the lightest bench is not lighter by two
    pub nothing_found : {path : List ℕ} → at loads x < at loads goal + 2 → length path ≡ most_benches + 1 → Arrival c x path (record { bench = x; jobs = 0 })
    nothing_found l = none_found never refl refl
      where
        never : (z : ℕ) → Lower c x (distance c x) z → ⊥
        never z w =
            let i = in_size joined z w.bench in
            elim (lightest.least z i) [
              | inl h ↦ omega (arith, w.lower, load_at joined loaded i, load_at joined loaded bench)
              | inr h ↦ omega (arith, h.0, w.lower, load_at joined loaded i, load_at joined loaded bench)
            ]

    -- else the search goes on from the first level
    pub first_level : {end : ℕ} {queue came : List ℕ} → at loads goal + 2 ≤ at loads x → FromBench c s.benches x 1 end 1 end queue came → FirstLevel b c s loads x job other goal end queue came
    first_level h f = record { joined = joined; loaded = loaded; bench = bench; lightest = lightest; heavier = h; from = f }

  -- the end that it found, followed back, is the path
  pub path_found : {queue came path : List ℕ} {r : FoundPath} → (e : EndFound b c s.benches x queue came r) → length path ≡ most_benches + 1 → take r.jobs path ≡ jobs (e.behind.searching.trail r.bench) → Arrival c x path r
  path_found {path = path} {r} e l t = elim (ℕ_discrete r.jobs 0) [ yes z ↦ none_found (e.none z).1 (e.none z).0 z l | no d ↦ some_found d ]
    where
      valid : Valid c
      valid = joined.storable.valid

      route : List Step
      route = (e.behind.searching.trail r.bench).route

      some_found : r.jobs ≢ 0 → Arrival c x path r
      some_found d =
          let chosen = arrival_found c valid x r.bench (distance c x) route (distance_away c valid x (on_board joined bench)) (e.some d) e.list in
          rw chosen (record { bench = sym e.list.ends; count = sym e.behind.jobs ∙ sym (length-map route (λ q. q.job)); listed = t; few = omega (arith, trail_few e.behind.searching r.bench e.behind.reached, e.behind.jobs); long = l })
