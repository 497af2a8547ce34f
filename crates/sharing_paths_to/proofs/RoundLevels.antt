-- A round goes on, level by level: until the bench that lost a job is found, or nothing is open.
use Prim.Native.Nat.{ℕ, suc, ◌+◌, ◌-◌, ◌≤◌, ◌<◌}
use native.Mathlib.Omega.{arith}
use Rattle.std.specs.Prelude.{None, Some}
use native.Mathlib.Decide.{dec_lt}
use native.Mathlib.Numerals.{add-one}
use mathlib.Core.Path.{◌≡◌, refl, sym, ap, ◌∙◌}
use mathlib.Core.Logic.{inl, inr}
use mathlib.Core.List.{List}
use lib.Dec.{T}
use lib.ListN.{length}
use Rattle.spec_lists.specs.Lists.{within}
use Rattle.spec_table.specs.Board.{Board, load, heaviest}
use Rattle.spec_table.specs.Table.{most_benches}
use Rattle.spec_sharing.specs.Paths.{BenchPath}
use Rattle.spec_sharing.proofs.Trails.{closing_trail}
use Rattle.table_size.specs.declared.Size.{Size}
use Rattle.graph_lists.specs.Arrays.{at}
use Rattle.sharing_steps.proofs.AsSteps.{bench_load}
use Rattle.sharing_search.specs.Searching.{started, Searching, Grown, AtLevel, Level}
use Rattle.sharing_search.proofs.Steps.{found_bench, search_few, search_level, search_round, search_trails}
use Rattle.sharing_paths.proofs.Following.{trail_few}
use Rattle.sharing_paths_to.specs.ClosingSearch.{course_to, FromHeavier, FoundFrom, Rounds, InRound, GoalFound, RoundOf}
use Rattle.sharing_paths_to.proofs.Keeping.{found_kept}

module _ {b c : Board} {s : Size} {loads : List ℕ} {x h begin end level : ℕ} {queue came : List ℕ} (k : InRound b c s loads x h begin end level queue came) where
  -- the benches found have room in the queue
  pub level_few : end ≤ most_benches
  level_few = omega (arith, search_few k.searching, k.searching.few)

  -- there are more benches than levels
  pub level_short : begin < end → level < most_benches
  level_short l =
      let (_, m) = k.searching.bench begin l in
      omega (arith, k.searching.near begin (omega arith) l, trail_few k.searching (at queue begin) m)

  -- what is left gets less with each level
  pub level_less : begin < end → most_benches + 1 - end < most_benches + 1 - begin
  level_less l = omega (arith, level_few)

  -- the search can go on over the level: x, where the boards differ, is not in it
  pub level_begins : AtLevel (course_to c h begin end level) b s begin end end queue came
  level_begins = record {
    searching = k.searching;
    at_done = refl;
    at_end = refl;
    agree = λ i l u q _ _. k.without.elsewhere (at queue i) (λ e. omega (arith, (k.searching.bench i u).1, k.missed, ap (at came) e)) q;
  }

  -- nothing is open: the round is over
  pub round_over : end ≤ begin → Rounds b c s loads x (h - 1) end queue came
  round_over l = record {
    without = k.without;
    loaded = k.loaded;
    bench = k.bench;
    searching = after;
    missed = k.missed;
    heavier = rw one (found_kept c k.searching refl after refl (λ y m. refl) k.heavy (λ v e d. absurd (omega arith)));
  }
    where
      one : suc (h - 1) ≡ h
      one = omega (arith, k.improves)

      after : Searching (course_to c (h - 1) end end 0) s.benches 0 end queue came
      after = search_round k.searching (heaviest c - (h - 1)) (omega (arith, k.searching.place)) (omega arith)

  module _ {more : ℕ} {queue' came' : List ℕ} (grown : Grown end queue came more queue' came') (r : Level (course_to c h begin end level) s.benches x more queue' came') where
    -- the search after the level
    after : Searching (course_to c h r.place end level) s.benches 0 more queue' came'
    after = r.searching

    -- a bench that is new was found by one job more
    new_far : (v : ℕ) → at came v ≡ 0 → 1 ≤ at came' v → length (after.trail v).route ≡ level + 1
    new_far v e m =
        let (i, l, d) = after.listed v m in
        elim (dec_lt i end) [
          | yes u ↦ absurd (omega (arith, (k.searching.bench i u).1, ap (at came) (sym (grown.before i u) ∙ d)))
          | no u ↦ omega (arith, after.far i (omega arith) l, ap (λ (z : ℕ). length (after.trail z).route) d)
        ]

    -- so it is no start
    heavy : FoundFrom c h came' after.trail
    heavy = found_kept c k.searching refl after refl grown.kept k.heavy (λ v e d. absurd (omega (arith, new_far v e (omega arith), ap (λ (p : BenchPath). length p.route) (after.own v d))))

    -- x is found, along the path that the closing's order names ..
    pub level_found : 1 ≤ at came' x → GoalFound b c s x (level + 1) more queue' came'
    level_found m = record {
      course = course_to c h r.place end level;
      behind = record {
        searching = after;
        reached = m;
        jobs = new_far x k.missed m;
        agree = λ w _ _ d q _ _. k.without.elsewhere w d q;
      };
      choice = closing_trail c k.without.storable.valid x (search_trails after) m starts enough;
    }
      where
        starts : (v : ℕ) → at came' v ≡ started → T (within 1 c.benches v) × (load c.holders x + 2 ≤ load c.holders v)
        starts v e =
            let its_load = bench_load k.searching.few k.loaded k.bench in
            (rw k.without.benches (found_bench after v (omega arith)), omega (arith, k.improves, heavy.starts v e))

        enough : (z : ℕ) → T (within 1 c.benches z) → load c.holders (after.trail x).start ≤ load c.holders z → FromHeavier c came' after.trail z
        enough z t l = heavy.heavy z t (omega (arith, heavy.starts (after.trail x).start ((search_trails after).walk x m).0))

    -- .. or is not, and the next level begins
    pub level_over : at came' x ≡ 0 → InRound b c s loads x h end more (level + 1) queue' came'
    level_over e = record {
      without = k.without;
      loaded = k.loaded;
      bench = k.bench;
      improves = k.improves;
      searching = next;
      missed = e;
      heavy = found_kept c after refl next refl (λ y m. refl) heavy (λ v i d. absurd (omega arith));
    }
      where
        place : r.place ≡ end
        place = elim r.whole [ inl d ↦ d | inr m ↦ absurd (omega arith) ]

        next : Searching (course_to c h end more (level + 1)) s.benches 0 more queue' came'
        next = rw add-one (search_level after place)

module _ {b c : Board} {s : Size} {loads : List ℕ} {x h found : ℕ} {queue came : List ℕ} where
  -- a round that found x ..
  pub round_found : (n : ℕ) → GoalFound b c s x (n + 1) found queue came → RoundOf b c s loads x h queue came (record { found = found; jobs = Some (n + 1) })
  round_found n k =
      record {
        none = λ e. absurd (cc);
        some = λ m e.
            let same : n + 1 ≡ m = cc in
            (λ z. omega (arith, same), rw (← same) k);
      }

  -- .. and one that did not
  pub round_missed : Rounds b c s loads x (h - 1) found queue came → RoundOf b c s loads x h queue came (record { found = found; jobs = None })
  round_missed k = record { none = λ e. k; some = λ m e. absurd (cc) }
