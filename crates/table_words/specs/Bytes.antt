-- Words where they lie in bytes.
use Rattle.std.specs.Prelude.{ℕ, ◌+◌, ◌*◌, ◌/◌, ◌%◌, ◌<◌, ◌≡◌, List, get_or, set}
use Rattle.spec_table.specs.Table.{words, Layout, layout}

-- r is word i of the bytes
pub record IsWord (bytes : List ℕ) (i r : ℕ) : Type 0 where
  pub value : r ≡ get_or (words bytes) i 0
  pub small : r < 65536

-- the bytes with word i written anew
unfoldable pub set_word : List ℕ → ℕ → ℕ → List ℕ
set_word bytes i w = set (set bytes (2 * i) (w % 256)) (2 * i + 1) (w / 256 % 256)

-- the table's words by their meaning
abbrev pub layout_in : List ℕ → Layout
layout_in t = layout (words t)
