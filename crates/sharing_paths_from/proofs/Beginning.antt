-- The search from one bench begins: the bench itself, then the steps from it by its jobs in rising order, the new job's in its place.
use Prim.Native.Nat.{ℕ, suc, ◌+◌, ◌≤◌}
use native.Mathlib.Omega.{arith}
use native.Mathlib.Decide.{ℕ_discrete}
use mathlib.Core.Path.{◌≡◌, refl, sym, ap, subst, ◌∙◌}
use mathlib.Core.Logic.{inl, inr, ◌≢◌}
use mathlib.Core.List.{List}
use lib.ListN.{length, replicate}
use lib.Seq.{get_or-set_same}
use Rattle.spec_table.specs.Board.{Board, holder_of}
use Rattle.spec_table.specs.Table.{most_benches}
use Rattle.spec_sharing.specs.Paths.{Step, step_by, BenchPath}
use Rattle.spec_lists.proofs.Tests.{within_both}
use Rattle.table_size.specs.Sizes.{BenchIn}
use Rattle.table_size.specs.declared.Size.{Size}
use Rattle.table_order.specs.InOrder.{FirstFrom}
use Rattle.graph_lists.specs.Arrays.{at}
use Rattle.graph_lists.proofs.Listing.{array_at}
use Rattle.sharing_search.specs.Searching.{started, Searching, Discovered, Grown, AtBench}
use Rattle.sharing_search.proofs.Queue.{discovered_new, grown_one}
use Rattle.sharing_search.proofs.Steps.{search_none, search_most, search_seed, search_turn, search_leave, search_level}
use Rattle.sharing_paths_from.specs.ArrivalSearch.{WithJob, course_from, FromBench}
use Rattle.sharing_paths_from.proofs.JoinedBoard.{benches_most}

-- the search is at its start, bench x, from which the steps by jobs below `limit` were taken
pub record Begun (c : Board) (benches x limit found : ℕ) (queue came : List ℕ) : Type 0 where
  pub searching : Searching (course_from c 0 1 0) benches limit found queue came
  pub first : at queue 0 ≡ x
  pub start : at came x ≡ started

-- what was found stays so
pub begun_kept : {c : Board} {benches x low found : ℕ} {queue came : List ℕ} {high found' : ℕ} {queue' came' : List ℕ} → Begun c benches x low found queue came → Grown found queue came found' queue' came' → Searching (course_from c 0 1 0) benches high found' queue' came' → Begun c benches x high found' queue' came'
begun_kept {x = x} k g h = record {
  searching = h;
  first = g.before 0 k.searching.places ∙ k.first;
  start = g.kept x (omega (arith, k.start)) ∙ k.start;
}

-- the benches found fit into the arrays
pub begun_few : {c : Board} {benches x limit found : ℕ} {queue came : List ℕ} → Begun c benches x limit found queue came → found ≤ most_benches
begun_few k = search_most k.searching

module _ {b c : Board} {s : Size} {x job other : ℕ} (joined : WithJob b c s x job other) where
  -- no bench is found yet
  begun_none : {queue came : List ℕ} → length queue ≡ most_benches + 1 → came ≡ replicate (most_benches + 1) 0 → Searching (course_from c 0 0 0) s.benches 0 0 queue came
  begun_none q e =
      search_none c joined.storable joined.benches refl refl refl (benches_most joined) q e

  -- .. then x is
  pub begun_start : {queue came : List ℕ} {found' : ℕ} {queue' came' : List ℕ} → BenchIn s x → length queue ≡ most_benches + 1 → came ≡ replicate (most_benches + 1) 0 → Discovered x started 0 queue came found' queue' came' → Begun c s.benches x 0 found' queue' came'
  begun_start {queue} {came} {found'} {queue'} {came'} bench q e d =
      let new = array_at (most_benches + 1) e x in
      let (n, a, m) = discovered_new d new in
      let one : found' ≡ 1 = omega (arith, n) in
      let none = begun_none q e in
      let search = search_seed none refl refl (within_both 1 s.benches x bench.least bench.most) new refl (λ i l h. absurd (omega arith)) (λ i l. absurd (omega arith)) d in
      record {
        searching = subst (λ (end : ℕ). Searching (course_from c 0 end 0) s.benches 0 found' queue' came') one search;
        first = ap (λ (l : List ℕ). at l 0) a ∙ get_or-set_same queue 0 x 0 (omega (arith, none.queue_long));
        start = ap (λ (l : List ℕ). at l x) m ∙ get_or-set_same came x started 0 (omega (arith, none.came_long, none.few, bench.most));
      }

  -- the steps by jobs below the new one are those of the table ..
  pub begun_below : {j found : ℕ} {queue came : List ℕ} → FirstFrom b s x 1 j → Begun c s.benches x 0 found queue came → AtBench (course_from c 0 1 0) b s x j 0 job found queue came
  begun_below f k = record {
    searching = k.searching;
    reached = omega arith;
    here = k.first;
    next = record { found = λ d. let (l, i, h) = f.found d in (omega arith, i, h); least = λ i l n. f.least i n.least n };
    agree = λ q l h. (λ i. elim ((joined.here q).0 i) [ inl m ↦ m | inr m ↦ absurd (omega (arith, ap (λ (p : Step). p.job) m.1)) ], λ i. (joined.here q).1 (inl i));
    rises = omega arith;
    most = omega (arith, joined.few);
  }

  -- .. the new one's step is taken ..
  pub begun_turn : {found : ℕ} {queue came : List ℕ} {found' : ℕ} {queue' came' : List ℕ} → job ≢ 0 → Begun c s.benches x job found queue came → Discovered other job found queue came found' queue' came' → Begun c s.benches x (suc job) found' queue' came'
  begun_turn d k f =
      begun_kept k (grown_one f) (search_turn k.searching {x = x} (omega arith) k.first ((joined.here (step_by job other)).1 (inr (d, refl))) (omega arith) (λ q i l. l) f)

  -- .. and those by jobs above it are the table's again
  pub begun_above : {j found : ℕ} {queue came : List ℕ} → BenchIn s x → FirstFrom b s x job j → Begun c s.benches x (suc job) found queue came → AtBench (course_from c 0 1 0) b s x j (suc job) started found queue came
  begun_above {j} bench f k = record {
    searching = k.searching;
    reached = omega arith;
    here = k.first;
    next = record { found = λ d. let (l, i, h) = f.found d in (next l h, i, h); least = λ i l n. f.least i (omega arith) n };
    agree = λ q l h. (λ i. elim ((joined.here q).0 i) [ inl m ↦ m | inr m ↦ absurd (omega (arith, ap (λ (p : Step). p.job) m.1)) ], λ i. (joined.here q).1 (inl i));
    rises = omega (arith, joined.few);
    most = omega arith;
  }
    where
      next : job ≤ j → holder_of b j ≡ x → suc job ≤ j
      next l h = elim (ℕ_discrete job j) [ yes d ↦ absurd (omega (arith, joined.free, ap (holder_of b) d, bench.least)) | no d ↦ omega arith ]

  -- where no job arrives, all are the table's
  pub begun_all : {j found : ℕ} {queue came : List ℕ} → job ≡ 0 → FirstFrom b s x 1 j → Begun c s.benches x 0 found queue came → AtBench (course_from c 0 1 0) b s x j 0 started found queue came
  begun_all e f k = record {
    searching = k.searching;
    reached = omega arith;
    here = k.first;
    next = record { found = λ d. let (l, i, h) = f.found d in (omega arith, i, h); least = λ i l n. f.least i n.least n };
    agree = λ q l h. (λ i. elim ((joined.here q).0 i) [ inl m ↦ m | inr m ↦ absurd (m.0 e) ], λ i. (joined.here q).1 (inl i));
    rises = omega arith;
    most = omega arith;
  }

-- every step from x was taken: the first level stands in the queue
pub begun_end : {c : Board} {benches x found : ℕ} {queue came : List ℕ} → Begun c benches x started found queue came → FromBench c benches x 1 found 1 found queue came
begun_end {c} {benches} {x} {found} {queue} {came} k = record { searching = search; first = k.first; start = k.start; only = only }
  where
    search : Searching (course_from c 1 found 1) benches 0 found queue came
    search = search_level (search_leave k.searching (omega arith)) refl

    only : (v : ℕ) → at came v ≡ started → v ≡ x
    only v e =
        let (i, l, p) = search.listed v (omega arith) in
        elim (ℕ_discrete i 0) [
          | yes z ↦ sym p ∙ ap (at queue) z ∙ k.first
          | no d ↦ absurd (omega (arith, search.near i (omega arith) l, ap (λ (y : ℕ). length (search.trail y).route) p, ap (λ (w : BenchPath). length w.route) (search.own v e)))
        ]
