-- Text on a lent page.
use Rattle.std.specs.Prelude.{ℕ, ◌+◌, ◌%◌, cond, List, ◌++◌, eqb, length, take, drop}
use Prim.Native.Char.{code}
use Rattle.spec_text.specs.Numbers.{space}

-- the last digit of n, a blank for 0
abbrev pub digit_of : ℕ → ℕ
digit_of n = cond (eqb n 0) space (code "0" + n % 10)

-- the page with a text on it from place `at` on, counted from 0; all other bytes as they were
abbrev pub with_text : List ℕ → ℕ → List ℕ → List ℕ
with_text page at text = take at page ++ text ++ drop (at + length text) page
