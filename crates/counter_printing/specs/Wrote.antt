-- Text in a lent buffer, and the parts of a printed line.
use Rattle.std.specs.Prelude.{ℕ, ◌+◌, ◌≤◌, ◌≡◌, length, take}
use mathlib.Core.List.{List, ◌∷◌, ◌++◌, flat_map}
use Rattle.spec_text.specs.Numbers.{space, digits}
use Rattle.counter_printing.specs.declared.Output.{Output}

-- there is room for so many bytes more
abbrev pub HasRoom : Output → ℕ → Type 0
HasRoom before count = before.written + count ≤ length before.bytes.now

-- text was written behind what was written already, into the same buffer
pub record Wrote (before after : Output) (text : List ℕ) : Type 0 where
  pub same : after.bytes.ghost_name ≡ before.bytes.ghost_name
  pub long : length after.bytes.now ≡ length before.bytes.now
  pub next_is : after.written ≡ before.written + length text
  pub written : take after.written after.bytes.now ≡ take before.written before.bytes.now ++ text

-- the most bytes of a field: a space and the 20 digits of a number of 64 bits
abbrev pub field_most : ℕ
field_most = 21

-- the numbers of a printed line, a space before each
abbrev pub spaced : List ℕ → List ℕ
spaced ns = flat_map (λ n. space ∷ digits n n) ns
