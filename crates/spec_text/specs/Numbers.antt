-- Numbers as text, in digits.
use Rattle.std.specs.Prelude.{ℕ, zero, suc, ◌+◌, ◌-◌, ◌*◌, ◌/◌, ◌%◌, Bool, true, false, cond, not, ◌&&◌, ◌||◌, List, [], ◌∷◌, ◌++◌, eqb, leb, ltb}
use Prim.Native.Char.{code}
use Rattle.std.proofs.Math.Option.{Option, none, some}
use Rattle.spec_lists.specs.Lists.{within, all, empty}

-- the byte that ends a line
abbrev pub line_feed : ℕ
line_feed = code "\n"

-- the blank, which stands between two fields
abbrev pub space : ℕ
space = code " "

-- the digits of a number; the fuel is the number
abbrev pub digits : ℕ → ℕ → List ℕ
digits zero n = (code "0" + n) ∷ []
digits (suc k) n =
    elim (ltb n 10) [ true ↦ (code "0" + n) ∷ [] | false ↦ digits k (n / 10) ++ ((code "0" + n % 10) ∷ []) ]

-- a digit, 0 to 9
abbrev pub digit : ℕ → Bool
digit c = within (code "0") (code "9") c

-- the number that digits write, after the number n before them
abbrev pub value : ℕ → List ℕ → ℕ
value n [] = n
value n (c ∷ l) = value (10 * n + (c - code "0")) l

-- 01: "numbers of 0 to 65,535 without leading zeros"
unfoldable pub number : List ℕ → Option ℕ
number [] = none
number (c ∷ l) =
    cond (all digit (c ∷ l) && (empty l || not (eqb c (code "0"))) && leb (value 0 (c ∷ l)) 65535)
    (some (value 0 (c ∷ l))) none
