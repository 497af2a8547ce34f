-- Tables in order: one whose chains rise, and a copy whose chains were made anew. A copy takes the first bytes of a
-- room for any table.
use Prim.Native.Nat.{ℕ, ◌-◌, ◌≤◌}
use native.Mathlib.Omega.{arith}
use mathlib.Core.Path.{◌≡◌, refl, subst, ◌∙◌}
use mathlib.Core.List.{List}
use lib.ListN.{length, take, replicate, length-replicate}
use lib.Seq.{length-take-le}
use Rattle.spec_table.specs.Board.{Board}
use Rattle.spec_table.specs.Table.{most_benches, most_jobs, length_for, decode, encode}
use Rattle.table_size.specs.Sizes.{SizeOf, SoundTable}
use Rattle.table_size.specs.declared.Size.{Size}
use Rattle.table_board.specs.BoardView.{HoldsBoard, Loaded}
use Rattle.table_board.proofs.RecordsAsBoard.{sound_holds_board}
use Rattle.table_chains.specs.Chains.{ChainsRebuilt}
use Rattle.table_order.specs.InOrder.{TableOf}
use Rattle.table_order.proofs.Ordered.{rebuilt_in_order}

-- a sound table with the bytes of its board is, in order, the table of that board
pub rising_table_lem : {t : List ℕ} {s : Size} → SoundTable t s → t ≡ encode (decode t) → TableOf t s (decode t)
rising_table_lem z e = record { in_order = record { sound = z; bytes = e }; board = refl }

module _ {t v : List ℕ} {s : Size} (z : SoundTable t s) (c : v ≡ t) where
  -- the copy holds the table's board ..
  pub copy_holds : HoldsBoard v s
  copy_holds = rw c (sound_holds_board t s z)

  -- .. and so it does once it is in order
  pub copy_table : {w : List ℕ} → ChainsRebuilt v w s → TableOf w s (decode t)
  copy_table {w} r = subst (λ (l : List ℕ). TableOf w s (decode l)) c (rebuilt_in_order r)

-- the part of a copy's room that the table takes is as long as the table
pub room_long : {t : List ℕ} {s : Size} {n : ℕ} → SizeOf t s → n ≡ length_for s.benches s.jobs → length (take (n - 0) (replicate {A = ℕ} (length_for most_benches most_jobs) 0)) ≡ length t
room_long {n = n} k e =
    let most = length_for most_benches most_jobs in
    let few : n - 0 ≤ most = omega (arith, k.limits.benches_most, k.limits.jobs_most) in
    length-take-le (n - 0) (replicate {A = ℕ} most 0) (rw (length-replicate {A = ℕ} most 0) few) ∙ omega (arith, k.long)

-- a board's loads are those of its table
pub table_loaded : {u : List ℕ} {s : Size} {b : Board} {loads : List ℕ} → TableOf u s b → Loaded b loads → Loaded (decode u) loads
table_loaded k l = rw k.board l
