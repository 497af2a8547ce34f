-- Loads counted job by job.
use Prim.Native.Nat.{ℕ, ◌+◌, ◌≤◌, ◌<◌}
use native.Mathlib.Omega.{arith}
use native.Mathlib.Numerals.{add-one}
use mathlib.Core.Path.{◌≡◌, ◌∙◌}
use mathlib.Core.List.{List, [], ◌∷◌}
use lib.Dec.{eqb}
use lib.ListN.{length, get_or, take, set, replicate, length-set, length-replicate, get_or-replicate}
use lib.Seq.{length-take-le, take_all, take-suc}
use Rattle.spec_lists.specs.Lists.{bit, nth}
use Rattle.spec_lists.proofs.Raising.{get_d_raised}
use Rattle.spec_lists.proofs.Counting.{bit_other, count_most, count_append}
use Rattle.spec_table.specs.Board.{Board, load}
use Rattle.spec_table.specs.Table.{most_benches}
use Rattle.table_board.specs.BoardView.{Loaded}

-- at each bench how many of the first `done` jobs it holds
pub record LoadsTo (holders : List ℕ) (done : ℕ) (loads : List ℕ) : Type 0 where
  pub most : done ≤ length holders
  pub long : length loads ≡ most_benches + 1
  pub held : (x : ℕ) → 1 ≤ x → x ≤ most_benches → get_or loads x 0 ≡ load (take done holders) x

-- no job counted: all loads are zero ..
pub loads_start : (holders : List ℕ) → LoadsTo holders 0 (replicate (most_benches + 1) 0)
loads_start holders =
    record { most = omega arith; long = length-replicate {A = ℕ} (most_benches + 1) 0; held = λ x l u. get_or-replicate (most_benches + 1) x 0 0 (omega arith) }

module _ {holders : List ℕ} {done : ℕ} {loads : List ℕ} (c : LoadsTo holders done loads) where
  -- one job more is one more for its holder, and for no other
  more : (x : ℕ) → done < length holders → x ≡ nth holders (done + 1) 0 → (y : ℕ) → load (take (done + 1) holders) y ≡ load (take done holders) y + bit (eqb x y)
  more x d e y =
      let f : x ≡ get_or holders done 0 = rw add-one at e in
      rw (add-one, take-suc holders done 0 d, f) (omega (arith, count_append y (take done holders) (get_or holders done 0 ∷ [])))

  -- .. the next job is one more for its holder ..
  pub loads_turn : (x : ℕ) → done < length holders → x ≡ nth holders (done + 1) 0 → 1 ≤ x → x ≤ most_benches → LoadsTo holders (done + 1) (set loads x (get_or loads x 0 + 1))
  loads_turn x d e l u =
      record {
        most = omega arith;
        long = length-set loads x _ ∙ c.long;
        held = λ y i k. omega (arith, get_d_raised loads x y (omega (arith, c.long)), c.held y i k, more x d e y);
      }

  -- .. or for no bench, if none holds it ..
  pub loads_pass : done < length holders → 0 ≡ nth holders (done + 1) 0 → LoadsTo holders (done + 1) loads
  loads_pass d e =
      record { most = omega arith; long = c.long; held = λ y i k. omega (arith, c.held y i k, more 0 d e y, bit_other 0 y (λ q. omega arith)) }

  -- .. no load is above the number of jobs counted ..
  pub loads_few : (x : ℕ) → 1 ≤ x → x ≤ most_benches → get_or loads x 0 ≤ done
  loads_few x l u =
      omega (arith, c.held x l u, count_most x (take done holders), length-take-le done holders c.most)

-- .. and when all jobs are counted, each load is that of all holders
pub loads_end : {b : Board} {done : ℕ} {loads : List ℕ} → LoadsTo b.holders done loads → length b.holders ≤ done → Loaded b loads
loads_end {b} {done} c h = record { long = c.long; bench = λ x l u. rw (take_all done b.holders h) at (c.held x l u) }
