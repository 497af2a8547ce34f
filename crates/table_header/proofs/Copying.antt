-- The heads of the chains copied to an array: one bench more, and all of them.
use Prim.Native.Nat.{ℕ, ◌+◌, ◌≤◌, ◌<◌}
use native.Mathlib.Omega.{arith}
use native.Mathlib.Decide.{ℕ_discrete}
use mathlib.Core.Path.{◌≡◌, refl, ◌∙◌}
use mathlib.Core.List.{List}
use lib.ListN.{length, get_or, set, replicate, length-set, length-replicate}
use lib.Seq.{get_or-set_same, get_or-set_other}
use Rattle.spec_lists.specs.Lists.{nth}
use Rattle.spec_lists.proofs.Elements.{each_replicate, each_get_d}
use Rattle.spec_table.specs.Table.{most_benches}
use Rattle.table_words.specs.Bytes.{layout_in}
use Rattle.table_size.specs.declared.Size.{Size}

-- the heads of the first `done` benches are copied
pub record HeadsTo (t : List ℕ) (s : Size) (heads : List ℕ) (done : ℕ) : Type 0 where
  pub few : done ≤ s.benches
  pub copied : (x : ℕ) → 1 ≤ x → x ≤ done → get_or heads x 0 ≡ nth (layout_in t).heads x 0
  pub beyond : (x : ℕ) → done < x → get_or heads x 0 ≡ 0
  pub long : length heads ≡ most_benches + 1

-- none yet ..
pub heads_start : (t : List ℕ) (s : Size) (heads : List ℕ) → heads ≡ replicate (most_benches + 1) 0 → HeadsTo t s heads 0
heads_start t s heads e =
    record {
      few = omega arith;
      copied = λ x l u. absurd (omega arith);
      beyond = λ x l. rw e (each_get_d (λ n. n ≡ 0) (replicate (most_benches + 1) 0) x 0 refl (each_replicate (λ n. n ≡ 0) (most_benches + 1) 0 refl));
      long = rw e (length-replicate {A = ℕ} (most_benches + 1) 0);
    }

module _ {t : List ℕ} {s : Size} {heads : List ℕ} {done : ℕ} (c : HeadsTo t s heads done) where
  -- .. one bench more
  pub heads_turn : {r : ℕ} → done < s.benches → done < most_benches → r ≡ nth (layout_in t).heads (done + 1) 0 → HeadsTo t s (set heads (done + 1) r) (done + 1)
  heads_turn {r} l m e =
      record {
        few = omega arith;
        copied = λ x i u. elim (ℕ_discrete x (done + 1)) [
          | yes q ↦ rw q (get_or-set_same heads (done + 1) r 0 (omega (arith, c.long)) ∙ e)
          | no d ↦ get_or-set_other heads (done + 1) x r 0 d ∙ c.copied x i (omega arith)
        ];
        beyond = λ x h. get_or-set_other heads (done + 1) x r 0 (λ q. omega arith) ∙ c.beyond x (omega arith);
        long = length-set heads (done + 1) r ∙ c.long;
      }
