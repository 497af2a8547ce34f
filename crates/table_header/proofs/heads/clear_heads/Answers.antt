-- The bytes cleared are the words of the heads, by `has-layout-cleared`.
use Prim.Native.Nat.{ℕ, ◌+◌, ◌*◌, ◌-◌}
use native.Mathlib.Omega.{arith}
use mathlib.Core.Path.{◌≡◌}
use mathlib.Core.List.{List, ◌++◌}
use lib.ListN.{length, take, drop, replicate, length-drop}
use lib.Seq.{length-take-le, drop-drop}
use Rattle.table_words.specs.Bytes.{layout_in}
use Rattle.table_size.specs.Sizes.{SizeOf}
use Rattle.table_size.specs.Written.{HasLayout, cleared}
use Rattle.table_size.specs.declared.Size.{Size}
use Rattle.table_size.proofs.Written.{has_layout_cleared}
use Rattle.table_header.proofs.heads.clear_heads.Goals as goal

-- zeros in the place of the k bytes from byte 8 on
part : (t zeros : List ℕ) (s : Size) (k : ℕ) → SizeOf t s → k ≡ 2 * s.benches → zeros ≡ replicate (length (take k (drop 8 t))) 0 → HasLayout (take 8 t ++ (zeros ++ drop k (drop 8 t))) s (cleared (layout_in t))
part t zeros s k z q e =
    let n : length (take k (drop 8 t)) ≡ k = length-take-le k (drop 8 t) (omega (arith, z.long, length-drop 8 t)) in
    rw (e, n, drop-drop k 8 t, q) (has_layout_cleared t s z)

pub returns : goal.returns
returns c = part c.args.t.now c.clear.new.bytes c.args.s (8 + 2 * c.benches.result - 8) c.requires (omega (arith, c.benches.ensures)) c.clear.ensures
