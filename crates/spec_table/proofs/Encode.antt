-- The table of a board: it is sound, it decodes to that board, and benches, jobs and holders fix its bytes.
use Prim.Native.Nat.{ℕ}
use mathlib.Core.Path.{◌≡◌, ap}
use mathlib.Core.List.{List}
use lib.Dec.{T}
use Rattle.spec_table.specs.Board.{Board}
use Rattle.spec_table.specs.Table.{words, layout, formed, fits, sound, decode, encode, SameSharing, Storable}
use Rattle.spec_lists.proofs.Tests.{both}
use Rattle.spec_table.proofs.Words.{layout_encode, fits_encode}
use Rattle.spec_table.proofs.Layouts.{board_of_layout_of, formed_layout_of}

-- an encoded board is sound
pub encode_sound : (b : Board) → Storable b → T (sound (encode b))
unfolding sound
encode_sound b s = both (fits (encode b)) (formed (layout (words (encode b)))) (fits_encode b s) (rw (layout_encode b s) (formed_layout_of b s.valid))

-- and decodes to itself
pub decode_encode : (b : Board) → Storable b → decode (encode b) ≡ b
unfolding decode
decode_encode b s = rw (layout_encode b s) (board_of_layout_of b s.valid)

-- benches, jobs and holders are all of a board ..
pub same_board : (t u : List ℕ) → SameSharing t u → decode t ≡ decode u
same_board t u e = λ i. record { benches = e.benches i; named = e.jobs i; holders = e.holders i }

-- .. so two tables that hold the same sharing encode to the same bytes
pub same_bytes : (t u : List ℕ) → SameSharing t u → encode (decode t) ≡ encode (decode u)
same_bytes t u e = ap encode (same_board t u e)
