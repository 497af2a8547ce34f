-- The walk along a bench's chain to where job j belongs: past the jobs below j.
use Prim.Native.Nat.{ℕ, suc, ◌<◌}
use native.Mathlib.Omega.{arith}
use mathlib.Core.Path.{◌≡◌}
use mathlib.Core.Logic.{◌≢◌}
use mathlib.Core.List.{List}
use lib.Dec.{T}
use Rattle.spec_table.specs.Board.{Board, holder_of, stands}
use Rattle.spec_table.specs.Table.{decode}
use Rattle.table_size.specs.Sizes.{JobIn, BenchIn}
use Rattle.table_size.specs.declared.Size.{Size}
use Rattle.table_board.proofs.RecordsAsBoard.{sound_holds_board, held_stands}
use Rattle.table_order.specs.InOrder.{InOrder, FirstFrom}

-- the walk has come past job p, which is below j, to job n, the next one of bench x; 0 for none
pub record ToGap (b : Board) (s : Size) (x j p n : ℕ) : Type 0 where
  pub past : p ≢ 0 → (p < j) × JobIn s p × (holder_of b p ≡ x)
  pub next : FirstFrom b s x (suc p) n

-- a job that the walk comes to stands
pub to_gap_stands : {t : List ℕ} {s : Size} {x j p n : ℕ} → InOrder t s → BenchIn s x → ToGap (decode t) s x j p n → n ≢ 0 → T (stands (decode t) n)
to_gap_stands {t} {s} {x} {n} o k w d = held_stands t s n (sound_holds_board t s o.sound) (λ e. omega (arith, k.least, (w.next.found d).2))
