-- What a search found stays as it was while the search goes on, trails and all.
use Prim.Native.Nat.{ℕ, zero, suc, ◌≤◌, ◌<◌}
use native.Mathlib.Omega.{arith}
use native.Mathlib.Decide.{ℕ_discrete}
use mathlib.Core.Path.{◌≡◌, sym, ap, subst, ◌∙◌}
use mathlib.Core.Logic.{inl, inr, ◌≢◌}
use mathlib.Core.List.{List}
use lib.ListN.{length}
use Rattle.spec_table.specs.Board.{Board, holder_of, load}
use Rattle.spec_sharing.specs.Paths.{step_by, steps, BenchPath}
use Rattle.spec_sharing.specs.Searches.{further}
use Rattle.spec_sharing.proofs.Paths.{step_is}
use Rattle.spec_sharing.proofs.Trails.{further_length}
use Rattle.graph_lists.specs.Arrays.{at}
use Rattle.sharing_search.specs.Searching.{started, Course, Searching}
use Rattle.sharing_paths_to.specs.ClosingSearch.{FromHeavier, FoundFrom}

module _ (c : Board) {k : Course} {benches low found : ℕ} {queue came : List ℕ} (S : Searching k benches low found queue came) (along : k.out ≡ steps c) {k' : Course} {low' found' : ℕ} {queue' came' : List ℕ} (R : Searching k' benches low' found' queue' came') (along' : k'.out ≡ steps c) (kept : (y : ℕ) → 1 ≤ at came y → at came' y ≡ at came y) where
  -- a job has one holder, so a bench's job tells from which bench it was found ..
  back : (y : ℕ) → 1 ≤ at came y → at came y ≢ started → (w : ℕ) × (1 ≤ at came w) × (S.trail y ≡ further (S.trail w) (step_by (at came y) y)) × (R.trail y ≡ further (R.trail w) (step_by (at came y) y))
  back y m d =
      let same = kept y m in
      let (i, l, _, s, e) = S.from y m d in
      let (i', _, _, r, f) = R.from y (omega arith) (λ g. d (sym same ∙ g)) in
      let q = step_by (at came y) y in
      let held = step_is c (at queue i) q (rw along at s) in
      let held' = step_is c (at queue' i') (step_by (at came' y) y) (rw along' at r) in
      let one : at queue' i' ≡ at queue i = sym held'.0 ∙ ap (holder_of c) same ∙ held.0 in
      (at queue i, (S.bench i l).1, e, f ∙ ap (λ (j : ℕ). further (R.trail (at queue' i')) (step_by j y)) same ∙ ap (λ (w : ℕ). further (R.trail w) q) one)

  -- .. and so its whole trail
  trail_fixed : (n y : ℕ) → length (S.trail y).route < n → 1 ≤ at came y → R.trail y ≡ S.trail y
  trail_fixed zero y l m = absurd (omega arith)
  trail_fixed (suc n) y l m = go (λ w. trail_fixed n w)
    where
      go : ((w : ℕ) → length (S.trail w).route < n → 1 ≤ at came w → R.trail w ≡ S.trail w) → R.trail y ≡ S.trail y
      go ih = elim (ℕ_discrete (at came y) started) [
        | yes e ↦ R.own y (kept y m ∙ e) ∙ sym (S.own y e)
        | no d ↦
            let (w, g, e, f) = back y m d in
            let q = step_by (at came y) y in
            let short : length (S.trail w).route < n = omega (arith, ap (λ (p : BenchPath). length p.route) e, further_length (S.trail w) q) in
            f ∙ ap (λ (p : BenchPath). further p q) (ih w short g) ∙ sym e
      ]

  -- two searches that found a bench by the same jobs have the same trail to it
  pub trail_kept : (y : ℕ) → 1 ≤ at came y → R.trail y ≡ S.trail y
  trail_kept y m = trail_fixed (suc (length (S.trail y).route)) y (omega arith) m

  -- what was found from a heavier start stays so ..
  pub heavier_kept : (z : ℕ) → FromHeavier c came S.trail z → FromHeavier c came' R.trail z
  heavier_kept z (m, w) = (
    omega (arith, kept z m),
    elim w [
      | inl e ↦ inl (kept z m ∙ e)
      | inr g ↦ inr (subst (λ (p : BenchPath). load c.holders z < load c.holders p.start) (sym (trail_kept z m)) g)
    ],
  )

  -- .. so the heavy benches do, if none of the new ones is a lighter start
  pub found_kept : {h : ℕ} → FoundFrom c h came S.trail → ((v : ℕ) → at came v ≡ 0 → at came' v ≡ started → h ≤ load c.holders v) → FoundFrom c h came' R.trail
  found_kept {h} f new = record { heavy = λ z t l. heavier_kept z (f.heavy z t l); starts = starts }
    where
      starts : (v : ℕ) → at came' v ≡ started → h ≤ load c.holders v
      starts v e = elim (ℕ_discrete (at came v) 0) [ yes z ↦ new v z e | no d ↦ f.starts v (sym (kept v (omega arith)) ∙ e) ]
