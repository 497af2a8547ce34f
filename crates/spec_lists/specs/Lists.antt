-- Lists and tests that the rules use. Nothing here is particular to the board.
use Rattle.std.specs.Prelude.{ℕ, zero, suc, ◌+◌, max, Bool, true, false, cond, not, ◌&&◌, ◌||◌, List, [], ◌∷◌, eqb, leb, ltb, get_or, set, ◌≡◌, ◌⊎◌}
use Rattle.std.proofs.Math.Option.{Option, none, some}

-- 1 for yes, 0 for no
abbrev pub bit : Bool → ℕ
bit true = 1
bit false = 0

-- lo ≤ x ≤ hi
abbrev pub within : ℕ → ℕ → ℕ → Bool
within lo hi x = leb lo x && leb x hi

-- how often x stands in the list
abbrev pub count : ℕ → List ℕ → ℕ
count x [] = 0
count x (y ∷ l) = bit (eqb y x) + count x l

-- whether x stands in the list
abbrev pub member : ℕ → List ℕ → Bool
member x [] = false
member x (y ∷ l) = eqb y x || member x l

-- no number stands in the list twice
abbrev pub distinct : List ℕ → Bool
distinct [] = true
distinct (x ∷ l) = not (member x l) && distinct l

-- n numbers, each one more than the last, from i on
abbrev pub range : ℕ → ℕ → List ℕ
range i zero = []
range i (suc n) = i ∷ range (suc i) n

-- f added up over 1 to n
abbrev pub total : ℕ → (ℕ → ℕ) → ℕ
total zero f = 0
total (suc n) f = total n f + f (suc n)

-- the greatest value of f over 1 to n, 0 for none
abbrev pub greatest : ℕ → (ℕ → ℕ) → ℕ
greatest zero f = 0
greatest (suc n) f = max (greatest n f) (f (suc n))

-- each number is below the next
abbrev pub rises : List ℕ → Bool
rises [] = true
rises (m ∷ []) = true
rises (m ∷ n ∷ l) = ltb m n && rises (n ∷ l)

-- k is l or comes before it in dictionary order
abbrev pub lex_le : List ℕ → List ℕ → Bool
lex_le [] l = true
lex_le (x ∷ k) [] = false
lex_le (x ∷ k) (y ∷ l) = ltb x y || (eqb x y && lex_le k l)

module _ {A : Type 0} where
  -- the elements that pass the test, in their order
  abbrev pub filter : (A → Bool) → List A → List A
  filter p [] = []
  filter p (x ∷ l) = let r = filter p l in cond (p x) (x ∷ r) r

  -- every element passes the test
  abbrev pub all : (A → Bool) → List A → Bool
  all p [] = true
  all p (x ∷ l) = p x && all p l

  -- every element has the property
  abbrev pub Each : (A → Type 0) → List A → Type 0
  Each P [] = Unit {0}
  Each P (x ∷ l) = P x × Each P l

  -- a is an element of the list
  abbrev pub In : A → List A → Type 0
  In a [] = ⊥
  In a (x ∷ l) = (a ≡ x) ⊎ In a l

  -- the list has no element
  abbrev pub empty : List A → Bool
  empty [] = true
  empty (x ∷ l) = false

  -- the element at place j, counted from 1; d where there is none
  abbrev pub nth : List A → ℕ → A → A
  nth l zero d = d
  nth l (suc i) d = get_or l i d

  -- the list with a at place j, counted from 1
  abbrev pub update : List A → ℕ → A → List A
  update l zero a = l
  update l (suc i) a = set l i a

  -- the elements with their places, counted from i
  abbrev pub enumerate : ℕ → List A → List (ℕ × A)
  enumerate i [] = []
  enumerate i (x ∷ l) = (i, x) ∷ enumerate (suc i) l

  -- of a and the best of the others the one whose key comes first, a if the keys are equal
  abbrev pub better : (A → List ℕ) → A → Option A → Option A
  better key a none = some a
  better key a (some c) = some (cond (lex_le (key a) (key c)) a c)

  -- the element whose key comes first in dictionary order
  abbrev pub argmin : (A → List ℕ) → List A → Option A
  argmin key [] = none
  argmin key (a ∷ l) = better key a (argmin key l)
