-- The loads of a board: the most there can be, the heaviest and the excess, in the words of 01.
use Prim.Native.Nat.{ℕ, zero, suc, ◌+◌, ◌≤◌, ◌-◌}
use native.Mathlib.Omega.{arith}
use mathlib.Core.Path.{◌≡◌, refl}
use mathlib.Core.List.{List}
use lib.Dec.{T}
use lib.ListN.{length}
use Rattle.spec_lists.specs.Lists.{within, In}
use Rattle.spec_table.specs.Board.{Board, jobs_held, load, heaviest, excess}
use Rattle.spec_table.specs.Table.{most_benches, most_jobs, Storable}
use Rattle.spec_lists.proofs.Tests.{within_low, within_high}
use Rattle.spec_lists.proofs.Elements.{each_in}
use Rattle.spec_lists.proofs.Counting.{count_most, greatest_above, total_at}
use Rattle.spec_table.proofs.Named.{length_shares}
use Rattle.spec_table.proofs.Held.{held_within}

module _ (b : Board) (s : Storable b) where
  -- a table can hold at most 500 benches ..
  pub benches_most : b.benches ≤ most_benches
  benches_most = within_high 1 most_benches b.benches s.benches

  -- .. and 4,000 jobs with their names ..
  pub named_most : length b.named ≤ most_jobs
  named_most = within_high 1 most_jobs (length b.named) s.jobs

  -- .. and their holders ..
  pub jobs_most : length b.holders ≤ most_jobs
  jobs_most = omega (arith, named_most, length_shares b.named b.holders s.valid.shares)

  -- .. so a bench's jobs are 4,000 at the most ..
  pub held_most : (x j : ℕ) → 1 ≤ x → In j (jobs_held 1 x b.holders) → j ≤ most_jobs
  held_most x j l i =
      let J : ℕ = length b.holders in
      omega (arith, within_high 1 J j (each_in (λ j. T (within 1 J j)) j (jobs_held 1 x b.holders) (held_within x b.holders l) i), jobs_most)

  -- .. and so is its load
  pub load_most : (x : ℕ) → load b.holders x ≤ most_jobs
  load_most x = omega (arith, count_most x b.holders, jobs_most)

-- no bench is above the heaviest
pub load_heaviest : (b : Board) (x : ℕ) → T (within 1 b.benches x) → load b.holders x ≤ heaviest b
unfolding heaviest
load_heaviest b x t = greatest_above b.benches (load b.holders) x (within_low 1 b.benches x t) (within_high 1 b.benches x t)

-- "each load above h less h": where no load is above h there is no excess ..
pub excess_none : (benches : ℕ) (holders : List ℕ) (h : ℕ) → ((x : ℕ) → 1 ≤ x → x ≤ benches → load holders x ≤ h) → excess benches holders h ≡ 0
unfolding excess
excess_none zero holders h f = refl
excess_none (suc n) holders h f = omega (arith, excess_none n holders h (λ x l u. f x l (omega arith)), f (suc n) (omega arith) (omega arith))

-- .. and a load is above h by no more than the excess
pub excess_load : (benches : ℕ) (holders : List ℕ) (h x : ℕ) → 1 ≤ x → x ≤ benches → load holders x ≤ h + excess benches holders h
unfolding excess
excess_load benches holders h x l u = omega (arith, total_at benches (λ y. load holders y - h) x l u)
