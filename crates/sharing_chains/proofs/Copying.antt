-- Jobs copied: one more, and all of them.
use Prim.Native.Nat.{ℕ, ◌+◌, ◌≤◌, ◌<◌}
use native.Mathlib.Omega.{arith}
use native.Mathlib.Decide.{ℕ_discrete}
use mathlib.Core.Path.{◌≡◌, subst, ◌∙◌}
use mathlib.Core.Logic.{◌≢◌}
use mathlib.Core.List.{List}
use lib.Dec.{T}
use lib.ListN.{length, set, length-set}
use lib.Seq.{get_or-set_same, get_or-set_other}
use Rattle.spec_table.specs.Board.{stands, holder_of}
use Rattle.spec_table.specs.Table.{most_jobs, decode}
use Rattle.spec_lists.proofs.Tests.{within_low}
use Rattle.table_size.specs.Sizes.{SizeOf}
use Rattle.table_size.specs.declared.Size.{Size}
use Rattle.spec_table.proofs.Named.{holder_bench}
use Rattle.table_board.specs.BoardView.{HoldsBoard, HolderOf}
use Rattle.table_board.proofs.RecordsAsBoard.{stands_job, held_stands}
use Rattle.table_chains.specs.Chains.{stored_next}
use Rattle.graph_lists.specs.Arrays.{at}
use Rattle.sharing_steps.specs.Others.{other_of}
use Rattle.sharing_chains.specs.StoredChains.{StoredJobs}

-- one more value, written at its place
at_more : (f : ℕ → ℕ) (l : List ℕ) (n x : ℕ) → n < length l → x ≡ f n → (j : ℕ) → (j < n → at l j ≡ f j) → j < n + 1 → at (set l n x) j ≡ f j
at_more f l n x h e j g b = elim (ℕ_discrete j n) [
  | yes q ↦ rw q (get_or-set_same l n x 0 h ∙ e)
  | no d ↦ get_or-set_other l n j x 0 d ∙ g (omega arith)
]

-- what the holder tells: a job that a bench holds stands ..
pub found_stands : {t : List ℕ} {s : Size} {j x : ℕ} → HoldsBoard t s → HolderOf t s j x → x ≢ 0 → T (stands (decode t) j)
found_stands {t} {s} {j} {x} k h d = held_stands t s j k (λ e. d (h.value ∙ e))

-- .. and one that none holds does not
pub found_none : {t : List ℕ} {s : Size} {j x : ℕ} → HoldsBoard t s → HolderOf t s j x → x ≡ 0 → T (stands (decode t) j) → ⊥
found_none {t} {s} {j} {x} k h e p = omega (arith, h.value, within_low 1 (decode t).benches (holder_of (decode t) j) (holder_bench (decode t) k.storable.valid j p))

-- of the jobs before job j those that stand are copied
pub record JobsBefore (t next to : List ℕ) (j : ℕ) : Type 0 where
  pub nexts : (i : ℕ) → 1 ≤ i → i < j → T (stands (decode t) i) → at next i ≡ stored_next t i
  pub others : (i : ℕ) → 1 ≤ i → i < j → T (stands (decode t) i) → at to i ≡ other_of (decode t) i
  pub next_long : length next ≡ most_jobs + 1
  pub to_long : length to ≡ most_jobs + 1

module _ {t next to : List ℕ} {j : ℕ} (c : JobsBefore t next to j) where
  -- one more that stands ..
  pub jobs_turn : {n y : ℕ} → j ≤ most_jobs → n ≡ stored_next t j → y ≡ other_of (decode t) j → JobsBefore t (set next j n) (set to j y) (j + 1)
  jobs_turn {n} {y} l e f =
      record {
        nexts = λ i a b p. at_more (stored_next t) next j n (omega (arith, c.next_long)) e i (λ v. c.nexts i a v p) b;
        others = λ i a b p. at_more (other_of (decode t)) to j y (omega (arith, c.to_long)) f i (λ v. c.others i a v p) b;
        next_long = length-set next j n ∙ c.next_long;
        to_long = length-set to j y ∙ c.to_long;
      }

  -- .. or one that does not ..
  pub jobs_pass : (T (stands (decode t) j) → ⊥) → JobsBefore t next to (j + 1)
  jobs_pass d =
      record {
        nexts = λ i a b p. c.nexts i a (before i b p) p;
        others = λ i a b p. c.others i a (before i b p) p;
        next_long = c.next_long;
        to_long = c.to_long;
      }
    where
      before : (i : ℕ) → i < j + 1 → T (stands (decode t) i) → i < j
      before i b p = elim (ℕ_discrete i j) [
        | yes e ↦ absurd (d (subst (λ (k : ℕ). T (stands (decode t) k)) e p))
        | no n ↦ omega arith
      ]

  -- .. and all of them
  pub jobs_end : {s : Size} → SizeOf t s → s.jobs < j → StoredJobs t next to
  jobs_end {s} z l =
      record {
        nexts = λ i p. let b = stands_job t s i z p in c.nexts i b.least (omega (arith, b.most)) p;
        others = λ i p. let b = stands_job t s i z p in c.others i b.least (omega (arith, b.most)) p;
      }
