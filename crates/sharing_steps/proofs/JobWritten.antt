-- A board with one job written anew: the steps by other jobs, and the loads.
use Prim.Native.Nat.{ℕ, ◌+◌}
use native.Mathlib.Omega.{arith}
use mathlib.Core.Path.{◌≡◌, sym, subst}
use mathlib.Core.Logic.{◌≢◌, ◌↔◌}
use mathlib.Core.List.{List, []}
use lib.Dec.{T, eqb}
use lib.ListN.{length}
use Rattle.spec_lists.specs.Lists.{bit, within, In, update}
use Rattle.spec_table.specs.Board.{Board, Valid, names_of, holder_of, put, load}
use Rattle.spec_table.specs.Table.{Storable}
use Rattle.spec_sharing.specs.Paths.{Step, steps}
use Rattle.spec_lists.proofs.Tests.{within_low, within_high}
use Rattle.spec_lists.proofs.Elements.{update_back}
use Rattle.spec_lists.proofs.Counting.{count_update}
use Rattle.spec_table.proofs.Named.{length_shares}
use Rattle.spec_sharing.proofs.OneJob.{same_step}

-- the job as it was, written back
put_back : (b : Board) (j : ℕ) (names : List ℕ) (a : ℕ) → put (put b j names a) j (names_of b j) (holder_of b j) ≡ b
put_back b j names a =
    λ i. record { benches = b.benches; named = update_back b.named j names [] i; holders = update_back b.holders j a 0 i }

module _ (b : Board) (w : Storable b) (j : ℕ) where
  -- the steps by other jobs are the same
  pub step_same : (names : List ℕ) (a : ℕ) → Valid (put b j names a) → (z : ℕ) (q : Step) → q.job ≢ j → In q (steps (put b j names a) z) ↔ In q (steps b z)
  step_same names a v z q d =
      (λ i. same_step b w.valid j names a z q i d, λ i. same_step (put b j names a) v j (names_of b j) (holder_of b j) z q (subst (λ (c : Board). In q (steps c z)) (sym (put_back b j names a)) i) d)

  -- its new holder has one load more, its old one one less
  pub written_load : T (within 1 (length b.named) j) → (a i : ℕ) → load (update b.holders j a) i + bit (eqb (holder_of b j) i) ≡ load b.holders i + bit (eqb a i)
  written_load t a i =
      count_update b.holders j a i (within_low 1 (length b.named) j t) (omega (arith, within_high 1 (length b.named) j t, length_shares b.named b.holders w.valid.shares))
