-- An arrival's path is looked for: the board with the new job at bench x, its steps and its loads.
use Prim.Native.Nat.{ℕ, ◌+◌, ◌-◌, ◌≤◌}
use native.Mathlib.Omega.{arith}
use native.Mathlib.Decide.{ℕ_discrete}
use mathlib.Core.Path.{◌≡◌, sym, ap, subst, ◌∙◌}
use mathlib.Core.Logic.{◌⊎◌, inl, inr, ◌≢◌, ◌↔◌}
use mathlib.Core.List.{List, [], ◌∷◌}
use lib.Dec.{T, eqb}
use lib.ListN.{length, set, length-set}
use Rattle.spec_lists.specs.Lists.{bit, within, In, update}
use Rattle.spec_table.specs.Board.{Board, names_of, holder_of, put, names_fit}
use Rattle.spec_table.specs.Table.{most_benches, most_jobs, decode, Storable}
use Rattle.spec_sharing.specs.Paths.{Step, step_by, steps}
use Rattle.spec_sharing.specs.Sharing.{lightest_named, arrival_choice}
use Rattle.spec_calls.specs.Calls.{MayArrive}
use Rattle.spec_lists.proofs.Tests.{within_low, within_high, within_both}
use Rattle.spec_lists.proofs.Elements.{nth_update_same, length_update, is_empty}
use Rattle.spec_lists.proofs.Counting.{bit_other, count_most}
use Rattle.spec_lists.proofs.Raising.{get_d_raised}
use Rattle.spec_table.proofs.Named.{length_shares, fit_bench, pair_fits, named_may, holder_none}
use Rattle.spec_sharing.proofs.Paths.{step_is, is_step}
use Rattle.spec_sharing.proofs.Sets.{lightest_named_in}
use Rattle.spec_sharing.proofs.Changes.{put_holder}
use Rattle.spec_calls.proofs.Outcomes.{namable_fit}
use Rattle.table_size.specs.Sizes.{BenchIn, SoundTable}
use Rattle.table_size.specs.declared.Size.{Size}
use Rattle.table_size.proofs.Sizes.{board_bench}
use Rattle.table_board.specs.BoardView.{Loaded}
use Rattle.table_board.proofs.RecordsAsBoard.{sound_holds_board, put_storable}
use Rattle.graph_lists.specs.Arrays.{at, LoadsIn}
use Rattle.sharing_steps.proofs.AsSteps.{OtherName, pair_other, loads_in}
use Rattle.sharing_paths.specs.FoundPaths.{last_of, PathFound}
use Rattle.sharing_paths.specs.declared.FoundPath.{FoundPath}
use Rattle.sharing_paths_from.specs.ArrivalSearch.{WithJob}
use Rattle.sharing_arrival.specs.ArrivalResult.{ArrivalFound}
use Rattle.sharing_steps.proofs.JobWritten.{step_same, written_load}

-- one job more at bench x
abbrev pub raised : List ℕ → ℕ → List ℕ
raised loads x = set loads x (at loads x + 1)

-- the board with the new job

module _ (b : Board) (j : ℕ) (names : List ℕ) (x : ℕ) (t : T (within 1 (length b.named) j)) where
  -- the new job names these benches
  pub new_names : names_of (put b j names x) j ≡ names
  new_names =
      nth_update_same b.named j names [] (within_low 1 (length b.named) j t) (within_high 1 (length b.named) j t)

-- its steps are those of the board before, and one by the new job
with_job : (b : Board) (s : Size) (j : ℕ) (names : List ℕ) (x o : ℕ) → Storable b → Storable (put b j names x) → T (within 1 (length b.named) j) → names_of b j ≡ [] → OtherName names x o → b.benches ≡ s.benches → length b.named ≡ s.jobs → o ≤ most_benches → WithJob b (put b j names x) s x j o
with_job b s j names x o w v t free k e l u =
    record {
      storable = v;
      benches = e;
      jobs = length_update b.named j names ∙ l;
      elsewhere = λ z d q.
          (λ i. (same z q (λ f. d (sym (step_is c z q i).0 ∙ ap (holder_of c) f ∙ got))).0 i, λ i. (same z q (before z q i)).1 i);
      here = λ q. (λ i. here q i (ℕ_discrete q.job j), λ i. back q i);
      free = holder_none b w.valid j free;
      few = omega (arith, within_high 1 (length b.named) j t, within_high 1 most_jobs (length b.named) w.jobs);
      leads = u;
    }
  where
    c : Board
    c = put b j names x

    got : holder_of c j ≡ x
    got = put_holder b w.valid j names x t

    same : (z : ℕ) (q : Step) → q.job ≢ j → In q (steps c z) ↔ In q (steps b z)
    same = step_same b w j names x v.valid

    -- the job was no step before
    before : (z : ℕ) (q : Step) → In q (steps b z) → q.job ≢ j
    before z q i f = subst (In q.to) (ap (names_of b) f ∙ free) (step_is b z q i).1

    here : (q : Step) → In q (steps c x) → Dec (q.job ≡ j) → In q (steps b x) ⊎ ((j ≢ 0) × (q ≡ step_by j o))
    here q i (yes f) =
        let r = step_is c x q i in
        let to : q.to ≡ o = k.only q.to (subst (In q.to) (ap (names_of c) f ∙ new_names b j names x t) r.1) r.2 in
        inr (λ n. omega (arith, within_low 1 (length b.named) j t), λ h. record { job = f h; to = to h })
    here q i (no d) = inl ((same x q d).0 i)

    back : (q : Step) → In q (steps b x) ⊎ ((j ≢ 0) × (q ≡ step_by j o)) → In q (steps c x)
    back q (inl i) = (same x q (before x q i)).1 i
    back q (inr r) =
        rw r.1 (is_step c x (step_by j o) got (rw (new_names b j names x t) k.named) k.apart (sym (length_shares c.named c.holders v.valid.shares)))

-- the bench that gets the job is one of its benches
pub getting_in : (holders : List ℕ) (x y : ℕ) {g : ℕ} → g ≡ lightest_named holders (x ∷ y ∷ []) → In g (x ∷ y ∷ [])
getting_in holders x y e = rw e (lightest_named_in holders (x ∷ y ∷ []) tt)

module _ {t : List ℕ} {s : Size} {j first second : ℕ} (z : SoundTable t s) (m : MayArrive (decode t) j (first ∷ second ∷ [])) where
  -- the new job's benches are different ones of 1 to B ..
  pub arriving_fit : T (names_fit (decode t).benches (first ∷ second ∷ []))
  arriving_fit = namable_fit (decode t) (first ∷ second ∷ []) m.fit

  -- .. each of them one of the size ..
  pub arriving_bench : {a : ℕ} → In a (first ∷ second ∷ []) → BenchIn s a
  arriving_bench {a} i =
      board_bench a z.size (fit_bench (decode t).benches (first ∷ second ∷ []) a arriving_fit i)

  -- .. there is a load for each of them
  pub named_within : {a : ℕ} → In a (first ∷ second ∷ []) → T (within 1 most_benches a)
  named_within {a} i =
      let b = arriving_bench i in
      within_both 1 most_benches a b.least (omega (arith, b.most, z.size.limits.benches_most))

  module _ {x : ℕ} (g : In x (first ∷ second ∷ [])) where
    -- .. so there is a load for it ..
    pub arriving_small : x ≤ most_benches
    arriving_small = omega (arith, (arriving_bench g).most, z.size.limits.benches_most)

    -- .. with the job at one of them a table can hold the board ..
    pub arriving_storable : Storable (put (decode t) j (first ∷ second ∷ []) x)
    arriving_storable =
        put_storable (decode t) z.storable j (first ∷ second ∷ []) x tt arriving_fit (named_may (first ∷ second ∷ []) x g)

    -- .. the other one is what is left of their sum ..
    pub arriving_other : (x ≤ first + second) × OtherName (first ∷ second ∷ []) x (first + second - x)
    arriving_other =
        let o = pair_other first second x ((pair_fits (decode t).benches first second).0 arriving_fit).2 g in
        (omega (arith, o.sum), subst (OtherName (first ∷ second ∷ []) x) (omega (arith, o.sum)) o)

    -- .. and the steps are those with the new job
    pub arriving_with : WithJob (decode t) (put (decode t) j (first ∷ second ∷ []) x) s x j (first + second - x)
    arriving_with =
        let o = arriving_other.1 in
        let free = is_empty (names_of (decode t) j) m.free in
        with_job (decode t) s j (first ∷ second ∷ []) x (first + second - x) z.storable arriving_storable m.number free o z.size.board_benches z.size.board_jobs (omega (arith, (arriving_bench o.named).most, z.size.limits.benches_most))

    module _ {loads : List ℕ} (l : Loaded (decode t) loads) where
      raised_at : (i : ℕ) → at (raised loads x) i ≡ at loads i + bit (eqb x i)
      raised_at i = get_d_raised loads x i (omega (arith, l.long, arriving_small))

      -- with the job the loads are one more at x ..
      pub arriving_loads : Loaded (put (decode t) j (first ∷ second ∷ []) x) (raised loads x)
      arriving_loads =
          record { long = length-set loads x _ ∙ l.long; bench = λ i low high. omega (arith, raised_at i, l.bench i low high, written_load (decode t) z.storable j m.number x i, unheld i low) }
        where
          free : holder_of (decode t) j ≡ 0
          free = holder_none (decode t) z.storable.valid j (is_empty (names_of (decode t) j) m.free)

          unheld : (i : ℕ) → 1 ≤ i → bit (eqb (holder_of (decode t) j) i) ≡ 0
          unheld i low = bit_other (holder_of (decode t) j) i (λ d. omega (arith, free))

      -- .. and still loads of the size
      pub arriving_loads_in : LoadsIn s (raised loads x)
      arriving_loads_in =
          record {
            most = λ i low. elim (ℕ_discrete x i) [
              | yes e ↦ subst (λ (i : ℕ). at (raised loads x) i ≤ s.jobs) e here
              | no d ↦ omega (arith, raised_at i, bit_other x i d, before.most i low)
            ];
            beyond = λ i high. omega (arith, raised_at i, bit_other x i (λ e. omega (arith, (arriving_bench g).most)), before.beyond i high);
            long = arriving_loads.long;
          }
        where
          before : LoadsIn s loads
          before = loads_in (sound_holds_board t s z) l

          -- at x it is the load with the job, of all jobs at most
          here : at (raised loads x) x ≤ s.jobs
          here =
              omega (arith, arriving_loads.bench x (arriving_bench g).least arriving_small, count_most x (update (decode t).holders j x), length_update (decode t).holders j x, length_shares (decode t).named (decode t).holders z.storable.valid.shares, z.size.board_jobs)

      -- so what a search finds on this board is the arrival's path
      pub arriving_found : {path : List ℕ} {r : FoundPath} → x ≡ lightest_named (decode t).holders (first ∷ second ∷ []) → ((c : Board) → WithJob (decode t) c s x j (first + second - x) → Loaded c (raised loads x) → PathFound (arrival_choice c x) (last_of x (arrival_choice c x)) path r) → ArrivalFound (decode t) j (first ∷ second ∷ []) x path r
      arriving_found e f =
          record { getter = e; found = f (put (decode t) j (first ∷ second ∷ []) x) arriving_with arriving_loads }
