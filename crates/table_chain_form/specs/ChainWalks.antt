-- The walks of the form check as the code goes: the chains one by one.
use Rattle.std.specs.Prelude.{ℕ, zero, suc, Bool, true, false, List, [], ◌∷◌, eqb, Option, Some, None}
use Rattle.spec_lists.specs.Lists.{nth}
use Rattle.spec_table.specs.Table.{Entry, vacant, holder_in}

-- the same where the test passes
abbrev pub only_if : Bool → Option ℕ → Option ℕ
only_if true r = r
only_if false r = None

-- what is left of a number of jobs after those on bench x's chain from job j on; none if the chain has more, or a
-- job that x does not hold
abbrev pub walked : List Entry → ℕ → ℕ → ℕ → Option ℕ
walked es x zero zero = Some 0
walked es x zero (suc i) = None
walked es x (suc left) zero = Some (suc left)
walked es x (suc left) (suc i) =
    only_if (eqb (holder_in (nth es (suc i) vacant)) x) (walked es x left (nth es (suc i) vacant).next)

-- the chains of benches x, x + 1, .. one after the other: all jobs are on them, and no more
abbrev pub all_walked : List Entry → ℕ → List ℕ → Option ℕ → Bool
all_walked es x [] (Some left) = eqb left 0
all_walked es x [] None = false
all_walked es x (j ∷ heads) (Some left) = all_walked es (suc x) heads (walked es x left j)
all_walked es x (j ∷ heads) None = false
