-- A sound table's chains in arrays: they can be walked along, and lead where the board's steps lead.
use Prim.Native.Nat.{ℕ, zero, suc, ◌<◌}
use native.Mathlib.Omega.{arith}
use native.Mathlib.Decide.{dec_le}
use mathlib.Core.Path.{◌≡◌, sym, ap, subst, ◌∙◌}
use mathlib.Core.Logic.{◌↔◌, inr}
use mathlib.Core.List.{List, ◌∷◌}
use lib.Dec.{T}
use lib.ListN.{length}
use Rattle.spec_lists.specs.Lists.{In}
use Rattle.spec_table.specs.Board.{stands, holder_of}
use Rattle.spec_table.specs.Table.{most_benches, most_jobs, decode}
use Rattle.spec_sharing.specs.Paths.{Step, steps}
use Rattle.spec_lists.proofs.Tests.{within_low, within_both}
use Rattle.spec_table.proofs.Named.{holder_bench}
use Rattle.table_size.specs.Sizes.{BenchIn, SoundTable}
use Rattle.table_size.specs.declared.Size.{Size}
use Rattle.table_size.proofs.Sizes.{board_bench}
use Rattle.table_board.proofs.RecordsAsBoard.{sound_holds_board, stands_job}
use Rattle.table_chains.specs.Chains.{chain_from, stored_head, stored_next}
use Rattle.table_chains.proofs.ChainView.{chain_end, chain_begins, first_chain, next_chain}
use Rattle.graph_lists.specs.Arrays.{at}
use Rattle.sharing_steps.specs.Others.{other_of}
use Rattle.sharing_steps.proofs.AsSteps.{held_leads, step_job}
use Rattle.sharing_chains.specs.StoredChains.{StoredChains}
use Rattle.sharing_visits.specs.ArrayChains.{chain_along, chain_on, Walkable, BenchChains, Leads}
use Rattle.sharing_visits.proofs.Visiting.{chain_none}

module _ {t : List ℕ} {s : Size} {head next to : List ℕ} (sound : SoundTable t s) (stored : StoredChains t s head next to) where
  -- a chain of standing jobs is the same in the arrays ..
  same_along : (k j : ℕ) → length (chain_from t j) < k → ((i : ℕ) → In i (chain_from t j) → T (stands (decode t) i)) → chain_along next k j ≡ chain_from t j
  same_along zero j l f = absurd (omega arith)
  same_along (suc k) zero l f = sym (chain_end t)
  same_along (suc k) (suc i) l f =
      let p = f (suc i) (chain_begins t (suc i) (omega arith)) in
      let e = next_chain t s (suc i) sound p in
      let n = stored_next t (suc i) in
      rw (stored.jobs.nexts (suc i) p)
      (ap (λ (c : List ℕ). suc i ∷ c) (same_along k n (omega (arith, ap length e)) (λ a o. f a (subst (In a) (sym e) (inr o)))) ∙ sym e)

  -- .. so is each bench's chain ..
  same_chain : (x : ℕ) → BenchIn s x → chain_on next (at head x) ≡ chain_from t (stored_head t x)
  unfolding chain_on
  same_chain x b =
      let c = first_chain t s x sound b in
      rw (stored.heads.head x b)
      (same_along (suc most_jobs) (stored_head t x) (omega (arith, c.few, sound.size.limits.jobs_most)) (λ i o. ((c.held i).0 o).0))

  -- .. on it are the jobs that x holds
  on_chain : (x : ℕ) → BenchIn s x → (i : ℕ) → In i (chain_on next (at head x)) ↔ (T (stands (decode t) i) × (holder_of (decode t) i ≡ x))
  on_chain x b i = rw (same_chain x b) ((first_chain t s x sound b).held i)

  -- a job on x's chain leads to its other bench ..
  pub leads_job : (x y : ℕ) → BenchIn s x → Leads head next to x y → (j : ℕ) × (holder_of (decode t) j ≡ x) × (other_of (decode t) j ≡ y)
  leads_job x y b (j, o, e) = let (p, h) = (on_chain x b j).0 o in (j, h, sym (stored.jobs.others j p) ∙ e)

  -- .. and so does every step
  pub step_leads : (x : ℕ) (q : Step) → In q (steps (decode t) x) → Leads head next to x q.to
  step_leads x q i =
      let (p, h, o) = step_job (sound_holds_board t s sound) x q i in
      let b : BenchIn s x = subst (BenchIn s) h (board_bench (holder_of (decode t) q.job) sound.size (holder_bench (decode t) sound.storable.valid q.job p)) in
      (q.job, (on_chain x b q.job).1 (p, h), stored.jobs.others q.job p ∙ o)

  -- the chains can be walked along
  pub chains_walkable : BenchChains head next to
  chains_walkable = record {
    bench = λ x w. elim (dec_le x s.benches) [
      | yes l ↦ bench x (record { least = within_low 1 most_benches x w; most = l })
      | no d ↦ beyond (stored.heads.beyond x (omega arith))
    ];
  }
    where
      bench : (x : ℕ) → BenchIn s x → Walkable next to (at head x)
      bench x b =
          record {
            ends = rw (same_chain x b) (omega (arith, (first_chain t s x sound b).few, sound.size.limits.jobs_most));
            jobs = λ i o. omega (arith, (stands_job t s i sound.size ((on_chain x b i).0 o).0).most, sound.size.limits.jobs_most);
            leads = λ i o. let (p, h) = (on_chain x b i).0 o in
                let y = held_leads t s i (sound_holds_board t s sound) (λ e. omega (arith, b.least)) in
                rw (stored.jobs.others i p) (within_both 1 most_benches (other_of (decode t) i) y.least (omega (arith, y.most, sound.size.limits.benches_most)));
          }

      beyond : {j : ℕ} → j ≡ 0 → Walkable next to j
      beyond e =
          let c = chain_none next e in
          record { ends = omega (arith, ap length c); jobs = λ i o. absurd (subst (In i) c o); leads = λ i o. absurd (subst (In i) c o) }
