-- A round begins: the benches of one load that are not found are its starts.
use Prim.Native.Nat.{ℕ, ◌+◌, ◌-◌, ◌≤◌, ◌<◌}
use native.Mathlib.Omega.{arith}
use native.Mathlib.Decide.{ℕ_discrete, dec_lt}
use mathlib.Core.Path.{◌≡◌, refl, sym, ap, subst, ◌∙◌}
use mathlib.Core.Logic.{◌⊎◌, inl, inr, ◌≢◌}
use mathlib.Core.List.{List}
use lib.Dec.{T}
use lib.ListN.{set}
use lib.Seq.{get_or-set_same, get_or-set_other}
use Rattle.spec_lists.specs.Lists.{within}
use Rattle.spec_table.specs.Board.{Board, load, heaviest}
use Rattle.spec_table.specs.Table.{most_benches}
use Rattle.spec_sharing.specs.Paths.{BenchPath}
use Rattle.spec_sharing.specs.Sharing.{below}
use Rattle.spec_lists.proofs.Tests.{within_low, within_high, within_both}
use Rattle.spec_table.proofs.Loads.{load_heaviest}
use Rattle.table_size.specs.Sizes.{BenchIn}
use Rattle.table_size.specs.declared.Size.{Size}
use Rattle.table_size.proofs.Sizes.{bench_in}
use Rattle.table_board.specs.BoardView.{Loaded}
use Rattle.graph_lists.specs.Arrays.{at}
use Rattle.sharing_steps.proofs.AsSteps.{bench_load}
use Rattle.sharing_search.specs.Searching.{started, Searching, Discovered, Grown}
use Rattle.sharing_search.proofs.Queue.{discovered_had, discovered_new, grown_one}
use Rattle.sharing_search.proofs.Steps.{found_bench, search_few, search_seed, search_trails}
use Rattle.sharing_paths_to.specs.ClosingSearch.{WithoutJob, course_to, FromHeavier, Rounds, InRound}
use Rattle.sharing_paths_to.proofs.Keeping.{trail_kept, heavier_kept}

-- the benches of load h below v were found: those that were not before stand at places `begin` to `end`, rising
pub record Seeding (b c : Board) (s : Size) (loads : List ℕ) (x h begin v end : ℕ) (queue came : List ℕ) : Type 0 where
  pub without : WithoutJob b c s x
  pub loaded : Loaded c loads
  pub bench : BenchIn s x
  pub improves : at loads x + 2 ≤ h
  pub least : 1 ≤ v
  pub searching : Searching (course_to c h begin end 0) s.benches 0 end queue came
  pub missed : at came x ≡ 0
  pub heavy : (z : ℕ) → T (within 1 c.benches z) → (h < load c.holders z) ⊎ ((load c.holders z ≡ h) × (z < v)) → FromHeavier c came searching.trail z
  pub starts : (w : ℕ) → at came w ≡ started → h ≤ load c.holders w
  pub before : (i : ℕ) → i < begin → h < load c.holders (searching.trail (at queue i)).start
  pub seeds : (i : ℕ) → begin ≤ i → i < end → (at came (at queue i) ≡ started) × (at queue i < v)

-- a round begins with no start ..
pub seeding_start : {b c : Board} {s : Size} {loads : List ℕ} {x h found : ℕ} {queue came : List ℕ} → at loads x + 2 ≤ h → Rounds b c s loads x h found queue came → Seeding b c s loads x h found 1 found queue came
seeding_start {c = c} {h = h} {found} {queue} {came} l r = record {
  without = r.without;
  loaded = r.loaded;
  bench = r.bench;
  improves = l;
  least = omega arith;
  searching = r.searching;
  missed = r.missed;
  heavy = heavy;
  starts = λ w e. omega (arith, r.heavier.starts w e);
  before = λ i m. r.heavier.starts (r.searching.trail (at queue i)).start ((search_trails r.searching).walk (at queue i) (r.searching.bench i m).1).0;
  seeds = λ i m n. absurd (omega arith);
}
  where
    heavy : (z : ℕ) → T (within 1 c.benches z) → (h < load c.holders z) ⊎ ((load c.holders z ≡ h) × (z < 1)) → FromHeavier c came r.searching.trail z
    heavy z t (inl g) = r.heavier.heavy z t g
    heavy z t (inr g) = absurd (omega (arith, within_low 1 c.benches z t, g.1))

module _ {b c : Board} {s : Size} {loads : List ℕ} {x h begin v end : ℕ} {queue came : List ℕ} (k : Seeding b c s loads x h begin v end queue came) where
  -- .. has room for one more ..
  pub seeding_few : end ≤ most_benches
  seeding_few = omega (arith, search_few k.searching, k.searching.few)

  module _ (m : v ≤ s.benches) where
    -- v is a bench
    is_bench : T (within 1 s.benches v)
    is_bench = within_both 1 s.benches v k.least m

    -- the array has its load
    its_load : at loads v ≡ load c.holders v
    its_load = bench_load k.searching.few k.loaded (bench_in s v is_bench)

    -- v is passed over, if it is not of load h or was found
    pass : (load c.holders v ≡ h → FromHeavier c came k.searching.trail v) → Seeding b c s loads x h begin (v + 1) end queue came
    pass f = record {
      without = k.without;
      loaded = k.loaded;
      bench = k.bench;
      improves = k.improves;
      least = omega arith;
      searching = k.searching;
      missed = k.missed;
      heavy = heavy;
      starts = k.starts;
      before = k.before;
      seeds = λ i l u. let (e, g) = k.seeds i l u in (e, omega arith);
    }
      where
        heavy : (z : ℕ) → T (within 1 c.benches z) → (h < load c.holders z) ⊎ ((load c.holders z ≡ h) × (z < v + 1)) → FromHeavier c came k.searching.trail z
        heavy z t (inl g) = k.heavy z t (inl g)
        heavy z t (inr (e, g)) = elim (ℕ_discrete z v) [
          | yes i ↦ subst (FromHeavier c came k.searching.trail) (sym i) (f (ap (load c.holders) (sym i) ∙ e))
          | no d ↦ k.heavy z t (inr (e, omega arith))
        ]

    -- a bench of load h that was found before the round was found from a heavier one, the others are starts
    had : load c.holders v ≡ h → 1 ≤ at came v → FromHeavier c came k.searching.trail v
    had e g =
        let (i, l, d) = k.searching.listed v g in
        elim (dec_lt i begin) [
          | yes u ↦ (g, inr (omega (arith, k.before i u, ap (λ (z : ℕ). load c.holders (k.searching.trail z).start) d)))
          | no u ↦ (g, inl (sym (ap (at came) d) ∙ (k.seeds i (omega arith) l).0))
        ]

    -- one that was not gets the next place: the starts before the round rank before it ..
    ranked : (i : ℕ) → i < begin → below c (k.searching.trail (at queue i)).start < heaviest c - h
    ranked i l =
        let w = (k.searching.trail (at queue i)).start in
        let g = ((search_trails k.searching).walk (at queue i) (k.searching.bench i (omega (arith, k.searching.place))).1).0 in
        let t = found_bench k.searching w (omega arith) in
        omega (arith, k.before i l, load_heaviest c w (rw k.without.benches t))

    -- .. and what was found stays
    new : {end' : ℕ} {queue' came' : List ℕ} → load c.holders v ≡ h → at came v ≡ 0 → Discovered v started end queue came end' queue' came' → Searching (course_to c h begin end' 0) s.benches 0 end' queue' came' → Seeding b c s loads x h begin (v + 1) end' queue' came'
    new {end'} {queue'} {came'} e z f after = record {
      without = k.without;
      loaded = k.loaded;
      bench = k.bench;
      improves = k.improves;
      least = omega arith;
      searching = after;
      missed = came_other x (λ d. omega (arith, k.improves, its_load, ap (at loads) d)) ∙ k.missed;
      heavy = heavy;
      starts = λ w d. elim (ℕ_discrete w v) [ yes i ↦ omega (arith, ap (load c.holders) i) | no j ↦ k.starts w (sym (came_other w j) ∙ d) ];
      before = before;
      seeds = seeds;
    }
      where
        arrays : (end' ≡ end + 1) × (queue' ≡ set queue end v) × (came' ≡ set came v started)
        arrays = discovered_new f z

        came_new : at came' v ≡ started
        came_new = rw arrays.2 (get_or-set_same came v started 0 (omega (arith, k.searching.came_long, k.searching.few)))

        came_other : (w : ℕ) → w ≢ v → at came' w ≡ at came w
        came_other w d = rw arrays.2 (get_or-set_other came v w started 0 d)

        queue_new : at queue' end ≡ v
        queue_new = rw arrays.1 (get_or-set_same queue end v 0 (omega (arith, k.searching.queue_long, seeding_few)))

        grown : Grown end queue came end' queue' came'
        grown = grown_one f

        kept : (w : ℕ) → FromHeavier c came k.searching.trail w → FromHeavier c came' after.trail w
        kept = heavier_kept c k.searching refl after refl grown.kept

        heavy : (w : ℕ) → T (within 1 c.benches w) → (h < load c.holders w) ⊎ ((load c.holders w ≡ h) × (w < v + 1)) → FromHeavier c came' after.trail w
        heavy w t (inl g) = kept w (k.heavy w t (inl g))
        heavy w t (inr (d, g)) = elim (ℕ_discrete w v) [
          | yes i ↦ subst (FromHeavier c came' after.trail) (sym i) (omega (arith, came_new), inl came_new)
          | no j ↦ kept w (k.heavy w t (inr (d, omega arith)))
        ]

        before : (i : ℕ) → i < begin → h < load c.holders (after.trail (at queue' i)).start
        before i l =
            let u : i < end = omega (arith, k.searching.place) in
            let same = ap after.trail (grown.before i u) ∙ trail_kept c k.searching refl after refl grown.kept (at queue i) (k.searching.bench i u).1 in
            subst (λ (p : BenchPath). h < load c.holders p.start) (sym same) (k.before i l)

        seeds : (i : ℕ) → begin ≤ i → i < end' → (at came' (at queue' i) ≡ started) × (at queue' i < v + 1)
        seeds i l u = elim (dec_lt i end) [
          | yes g ↦
              let same = grown.before i g in
              let (q, r) = k.seeds i l g in
              (ap (at came') same ∙ grown.kept (at queue i) (k.searching.bench i g).1 ∙ q, omega arith)
          | no g ↦
              let last : at queue' i ≡ v = ap (at queue') (omega (arith, arrays.0)) ∙ queue_new in
              (ap (at came') last ∙ came_new, omega arith)
        ]

    -- .. leaves a bench of another load as it is ..
    pub seeding_other : at loads v ≢ h → Seeding b c s loads x h begin (v + 1) end queue came
    seeding_other d = pass (λ e. absurd (d (its_load ∙ e)))

    -- .. finds one of load h ..
    pub seeding_turn : {end' : ℕ} {queue' came' : List ℕ} → at loads v ≡ h → Discovered v started end queue came end' queue' came' → Seeding b c s loads x h begin (v + 1) end' queue' came'
    seeding_turn {end'} {queue'} {came'} e f =
        let l : load c.holders v ≡ h = sym its_load ∙ e in
        elim (ℕ_discrete (at came v) 0) [
          | yes z ↦ new l z f (search_seed k.searching refl refl is_bench z (ap (λ (n : ℕ). heaviest c - n) l) k.seeds ranked f)
          | no d ↦ let (n, q, g) = discovered_had f d in rw (n, q, g) (pass (λ _. had l (omega arith)))
        ]

  -- .. until all benches of load h are found
  pub seeding_end : s.benches < v → InRound b c s loads x h begin end 0 queue came
  seeding_end l = record {
    without = k.without;
    loaded = k.loaded;
    bench = k.bench;
    improves = k.improves;
    searching = k.searching;
    missed = k.missed;
    heavy = record { heavy = heavy; starts = k.starts };
  }
    where
      heavy : (z : ℕ) → T (within 1 c.benches z) → h ≤ load c.holders z → FromHeavier c came k.searching.trail z
      heavy z t g = elim (ℕ_discrete (load c.holders z) h) [
        | yes e ↦ k.heavy z t (inr (e, omega (arith, within_high 1 c.benches z t, k.without.benches)))
        | no d ↦ k.heavy z t (inl (omega arith))
      ]
