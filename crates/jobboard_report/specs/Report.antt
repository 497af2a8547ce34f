-- An answer as a C program gets it: a returned number, and numbers that it lends.
use Rattle.std.specs.Prelude.{ℕ, ◌<◌, ◌≡◌, cond, List, [], ◌∷◌, ltb, drop}
use Rattle.spec_lists.specs.Lists.{Each}
use Rattle.spec_calls.specs.Answers.{Answer, in_numbers}
use Rattle.board_answers.specs.Answered.{returned}

-- the values in place of the lent numbers; a number for which there is no value stays
abbrev pub in_place : List ℕ → List ℕ → List ℕ
in_place values [] = []
in_place [] (n ∷ lent) = n ∷ lent
in_place (v ∷ values) (n ∷ lent) = v ∷ in_place values lent

-- the lent numbers after the call: the answer's values, of which a refusal has none
abbrev pub results : Answer → List ℕ → List ℕ
results a lent = in_place (drop 1 (in_numbers a)) lent

-- a value written over a lent number; one that does not fit 32 bits has no room there, and the number stays
abbrev pub written_over : ℕ → ℕ → ℕ
written_over v n = cond (ltb v 4294967296) v n

-- the values in place of the lent numbers, as far as they fit
abbrev pub written_in : List ℕ → List ℕ → List ℕ
written_in values [] = []
written_in [] (n ∷ lent) = n ∷ lent
written_in (v ∷ values) (n ∷ lent) = written_over v n ∷ written_in values lent

-- r is the answer's number, and its values are in the lent numbers, which are now `left`, as far as they fit
pub record Written (a : Answer) (r : ℕ) (lent left : List ℕ) : Type 0 where
  pub number : r ≡ returned a
  pub values : left ≡ written_in (drop 1 (in_numbers a)) lent

-- every value fits 32 bits
abbrev pub Fitting : Answer → Type 0
Fitting a = Each (λ n. n < 4294967296) (drop 1 (in_numbers a))

-- r is the answer's number, and its values are in the lent numbers, which are now `left`
pub record Delivered (a : Answer) (r : ℕ) (lent left : List ℕ) : Type 0 where
  pub number : r ≡ returned a
  pub values : left ≡ results a lent
