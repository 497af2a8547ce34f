-- The walks bench by bench: what is left of them, and the lengths of the chains behind.
use Rattle.std.specs.Prelude.{Option, Some, None}
use Prim.Native.Nat.{ℕ, suc, ◌+◌, ◌-◌, ◌≤◌, ◌<◌}
use native.Mathlib.Omega.{arith}
use mathlib.Core.Path.{◌≡◌, sym, ap, ◌∙◌}
use mathlib.Core.Bool.{Bool, false}
use mathlib.Core.List.{List, []}
use lib.Dec.{eqb}
use lib.ListN.{length, get_or, set, drop, length-set}
use lib.Seq.{get_or-set_same, get_or-set_other}
use Rattle.spec_lists.specs.Lists.{nth}
use Rattle.spec_lists.proofs.Tests.{Compared, same, other, compared}
use Rattle.spec_lists.proofs.Elements.{nth_map}
use Rattle.spec_table.specs.Table.{Layout, follow, chains}
use Rattle.table_words.specs.Bytes.{layout_in}
use Rattle.table_size.specs.Sizes.{SizeOf, ByBench}
use Rattle.table_size.specs.declared.Size.{Size}
use Rattle.table_size.proofs.Sizes.{heads_long}
use Rattle.table_chain_form.specs.ChainWalks.{walked, all_walked}
use Rattle.table_chain_form.proofs.Walking.{all_step, all_broken, all_end}
use Rattle.table_chain_form.proofs.Formed.{walked_long}

-- at benches 1 to x - 1 the number of jobs on their chains
pub record LengthsTo (l : Layout) (s : Size) (x : ℕ) (lengths : List ℕ) : Type 0 where
  pub by_bench : ByBench s lengths
  pub chain : (y : ℕ) → 1 ≤ y → y < x → get_or lengths y 0 ≡ length (nth (chains l) y [])

-- one more, as its walk found it
lengths_turn : {l : Layout} {s : Size} {x : ℕ} {lengths : List ℕ} (n m : ℕ) → LengthsTo l s x lengths → x < length lengths → x ≤ s.benches → walked l.entries x n (nth l.heads x 0) ≡ Some m → n ≤ l.jobs → LengthsTo l s (x + 1) (set lengths x (n - m))
lengths_turn {l} {s} {x} {lengths} n m to short bench e few =
    record {
      by_bench = record {
        long = length-set lengths x (n - m) ∙ to.by_bench.long;
        beyond = λ y h. get_or-set_other lengths x y (n - m) 0 (λ d. omega arith) ∙ to.by_bench.beyond y h;
      };
      chain = λ y low high. go y low high (compared x y);
    }
  where
    j : ℕ
    j = nth l.heads x 0

    own : length (nth (chains l) x []) ≡ n - m
    own =
        let f = follow l.entries (suc l.jobs) in
        omega (arith, ap length (nth_map f l.heads x 0), walked_long l.entries x n j m l.jobs e few)

    go : (y : ℕ) → 1 ≤ y → y < x + 1 → {z : Bool} → Compared x y z → get_or (set lengths x (n - m)) y 0 ≡ length (nth (chains l) y [])
    go y low high (same d) = rw (← d) (get_or-set_same lengths x (n - m) 0 short ∙ sym own)
    go y low high (other d) = get_or-set_other lengths x y (n - m) 0 (λ k. d (sym k)) ∙ to.chain y low (omega arith)

-- a table's walk at bench x, with `left` jobs left before it, and all walks of `count` jobs
abbrev walk_at : List ℕ → ℕ → ℕ → Option ℕ
walk_at t x left = walked (layout_in t).entries x left (nth (layout_in t).heads x 0)

abbrev walks_of : List ℕ → ℕ → Bool
walks_of t count = all_walked (layout_in t).entries 1 (layout_in t).heads (Some count)

-- the walks that are left from bench x on, with `left` jobs left before it, are all walks, and the lengths behind are right
pub record WalkedTo (t : List ℕ) (s : Size) (count left x : ℕ) (lengths : List ℕ) : Type 0 where
  pub least : 1 ≤ x
  pub most : x ≤ s.benches + 1
  pub few : left ≤ s.jobs
  pub rest : all_walked (layout_in t).entries x (drop (x - 1) (layout_in t).heads) (Some left) ≡ walks_of t count
  pub behind : LengthsTo (layout_in t) s x lengths

module _ {t : List ℕ} {s : Size} {count left x : ℕ} {lengths : List ℕ} (size : SizeOf t s) (to : WalkedTo t s count left x lengths) where
  -- after the last all jobs are met exactly if none is left ..
  pub walks_end : s.benches < x → eqb left 0 ≡ walks_of t count
  walks_end h =
      let long = heads_long t s size in
      all_end (layout_in t).entries x left (layout_in t).heads (omega arith) ∙ to.rest

  module _ {r : Option ℕ} (bench : x ≤ s.benches) (e : r ≡ walk_at t x left) where
    -- .. and bench x's walk is the next ..
    walks_next : walks_of t count ≡ all_walked (layout_in t).entries (x + 1) (drop (x + 1 - 1) (layout_in t).heads) r
    walks_next =
        let long = heads_long t s size in
        rw e (sym to.rest ∙ all_step (layout_in t).entries x left (layout_in t).heads to.least (omega arith))

    -- .. which breaks all ..
    pub walks_broken : r ≡ None → false ≡ walks_of t count
    walks_broken d = sym (rw (d, all_broken) at walks_next)

    module _ {n : ℕ} (d : r ≡ Some n) where
      -- .. or leaves some of the jobs ..
      pub walks_less : n ≤ left
      walks_less =
          omega (arith, walked_long (layout_in t).entries x left (nth (layout_in t).heads x 0) n left (sym e ∙ d) (omega arith))

      -- .. the others being on its chain
      pub walks_turn : WalkedTo t s count n (x + 1) (set lengths x (left - n))
      walks_turn =
          record {
            least = omega arith;
            most = omega arith;
            few = omega (arith, walks_less);
            rest = sym (rw d at walks_next);
            behind = lengths_turn left n to.behind (omega (arith, to.behind.by_bench.long, size.limits.benches_most)) bench (sym e ∙ d) (omega (arith, size.jobs));
          }
