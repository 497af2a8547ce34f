-- A table in order has the layout of its board, so each link of it leads to the lowest later job that the bench holds. A table with the
-- layout of a board is in order, and so is one whose chains were made anew.
use Prim.Native.Nat.{ℕ, zero, suc, ◌≤◌, ◌<◌}
use native.Mathlib.Omega.{arith}
use mathlib.Core.Path.{◌≡◌, refl, sym, ap, ◌∙◌, subst}
use mathlib.Core.Logic.{inl, inr}
use mathlib.Core.List.{List}
use lib.Dec.{T}
use lib.ListN.{get_or}
use Rattle.spec_table.specs.Board.{Board, holder_of, stands}
use Rattle.spec_table.specs.Table.{words, layout, layout_of, board_of, decode, encode, Storable}
use Rattle.spec_lists.proofs.Tests.{within_low, within_high}
use Rattle.spec_lists.proofs.Elements.{nth_within}
use Rattle.spec_table.proofs.Named.{length_shares, holder_bench}
use Rattle.spec_table.proofs.Words.{layout_encode}
use Rattle.spec_table.proofs.Layouts.{board_of_layout_of}
use Rattle.spec_table.proofs.Splicing.{Lowest, LaidOut, layout_laid_out}
use Rattle.table_size.specs.Sizes.{SizeOf, JobIn, BenchIn}
use Rattle.table_size.specs.declared.Size.{Size}
use Rattle.table_chains.specs.Chains.{stored_head, stored_next, ChainsRebuilt}
use Rattle.table_chains.proofs.Rebuilding.{rebuild_bytes}
use Rattle.table_order.specs.InOrder.{InOrder, TableOf, FirstFrom}

-- a table whose chains were made anew is in order
pub rebuilt_in_order : {t u : List ℕ} {s : Size} → ChainsRebuilt t u s → TableOf u s (decode t)
rebuilt_in_order r = record { in_order = record { sound = r.sound; bytes = r.bytes ∙ ap encode (sym r.board) }; board = r.board }

-- a table with the layout of the board b is the table, in order, of b
pub laid_in_order : {u : List ℕ} {s : Size} {b : Board} → SizeOf u s → Storable b → ((i : ℕ) → get_or u i 0 < 256) → layout (words u) ≡ layout_of b → TableOf u s b
unfolding decode
laid_in_order {u} {s} {b} z k bytes l =
    let board : decode u ≡ b = ap board_of l ∙ board_of_layout_of b k.valid in
    subst (TableOf u s) board
    (rebuilt_in_order (rebuild_bytes u u s (record { size = z; storable = subst Storable (sym board) k }) z bytes (l ∙ ap layout_of (sym board))))

module _ {t : List ℕ} {s : Size} (o : InOrder t s) where
  -- a table in order has the layout of its board ..
  pub in_order_layout : layout (words t) ≡ layout_of (decode t)
  in_order_layout = ap (λ u. layout (words u)) o.bytes ∙ layout_encode (decode t) o.sound.storable

  -- .. and so its links
  pub in_order_laid_out : LaidOut (layout (words t)) (decode t)
  in_order_laid_out = subst (λ l. LaidOut l (decode t)) (sym in_order_layout) (layout_laid_out (decode t) o.sound.storable.valid)

  -- a job that a bench holds is one of 1 to J
  pub held_job : {x j : ℕ} → 1 ≤ x → holder_of (decode t) j ≡ x → JobIn s j
  held_job {x} {j} low e =
      let r = nth_within (decode t).holders j 0 (λ d. omega arith) in
      record { least = r.0; most = omega (arith, r.1, length_shares (decode t).named (decode t).holders o.sound.storable.valid.shares, o.sound.size.board_jobs) }

  -- the lowest job from i on that bench x holds, as the contracts say it
  pub lowest_first_from : {x i r : ℕ} → 1 ≤ x → Lowest (decode t).holders x i r → FirstFrom (decode t) s x i r
  lowest_first_from low l =
      record {
        found = λ d. let f = l.found d in (f.0, held_job low f.1, f.1);
        least = λ j u k e. l.least j u e;
      }

  -- and back
  pub first_from_lowest : {x i r : ℕ} → 1 ≤ x → FirstFrom (decode t) s x i r → Lowest (decode t).holders x i r
  first_from_lowest low f =
      record {
        found = λ d. let g = f.found d in (g.0, g.2);
        least = λ j u e. f.least j u (held_job low e) e;
      }

  -- bench x's head is the lowest job that it holds
  pub head_first : {x r : ℕ} → BenchIn s x → r ≡ stored_head t x → FirstFrom (decode t) s x 1 r
  head_first {x} w e =
      rw e (lowest_first_from w.least (in_order_laid_out.links x w.least (omega (arith, w.most, o.sound.size.board_benches)) 0 (inl refl)))

  -- a standing job's next job is the lowest above it that its holder holds
  pub next_first : {j r : ℕ} → T (stands (decode t) j) → r ≡ stored_next t j → FirstFrom (decode t) s (holder_of (decode t) j) (suc j) r
  next_first {j = zero} p e = absurd p
  next_first {j = suc i} p e =
      let b : Board = decode t in
      let h : ℕ = holder_of b (suc i) in
      let w = holder_bench b o.sound.storable.valid (suc i) p in
      let low = within_low 1 b.benches h w in
      rw e (lowest_first_from low (in_order_laid_out.links h low (within_high 1 b.benches h w) (suc i) (inr refl)))
