-- A table in order: sound, every chain rising, so that its bytes are those of its board.
use Rattle.std.specs.Prelude.{ℕ, ◌≤◌, ◌≡◌, ◌≢◌, List}
use Rattle.spec_table.specs.Board.{Board, holder_of}
use Rattle.spec_table.specs.Table.{decode, encode}
use Rattle.table_size.specs.Sizes.{JobIn, SoundTable}
use Rattle.table_size.specs.declared.Size.{Size}

-- a sound table with the bytes of its board
pub record InOrder (t : List ℕ) (s : Size) : Type 0 where
  pub sound : SoundTable t s
  pub bytes : t ≡ encode (decode t)

-- the table, in order, of the board b
pub record TableOf (t : List ℕ) (s : Size) (b : Board) : Type 0 where
  pub in_order : InOrder t s
  pub board : decode t ≡ b

-- r is the lowest job from i on that bench x holds, 0 where there is none
pub record FirstFrom (b : Board) (s : Size) (x i r : ℕ) : Type 0 where
  pub found : r ≢ 0 → (i ≤ r) × JobIn s r × (holder_of b r ≡ x)
  pub least : (j : ℕ) → i ≤ j → JobIn s j → holder_of b j ≡ x → (r ≢ 0) × (r ≤ j)
