-- 01, "The counter program": from the bytes it reads to the bytes it prints.
use Rattle.std.specs.Prelude.{ℕ, Bool, cond, ◌&&◌, eqb, leb, length, take, drop, replicate}
use Prim.Native.Char.{Char, code}
use mathlib.Core.List.{List, [], ◌∷◌, ◌++◌, flat_map}
use Rattle.std.proofs.Math.Option.{Option, none, some}
use Rattle.spec_lists.specs.Lists.{empty, nth}
use Rattle.spec_text.specs.Numbers.{line_feed, space, digits, number}
use Rattle.spec_table.specs.Table.{words, length_for, most_benches, most_jobs}
use Rattle.spec_calls.specs.Answers.{Outcome, in_numbers, is_refused, refused, unreadable}
use Rattle.spec_calls.specs.Calls.{outcome, blanking, arrival, closing, ask, heaviest_load, tight_set_of}
use Rattle.spec_calls.specs.Tally.{Tally, zero_tally, noted}

-- a byte put in front of the first piece
abbrev pub onto : ℕ → List (List ℕ) → List (List ℕ)
onto c [] = (c ∷ []) ∷ []
onto c (piece ∷ pieces) = (c ∷ piece) ∷ pieces

-- the pieces of a list between the separators, one more than there are separators
abbrev pub pieces : ℕ → List ℕ → List (List ℕ)
pieces sep [] = [] ∷ []
pieces sep (c ∷ l) = let r = pieces sep l in cond (eqb c sep) ([] ∷ r) (onto c r)

-- a number and the numbers after it; none if one of them is not readable
abbrev pub joined : Option ℕ → Option (List ℕ) → Option (List ℕ)
joined none ns = none
joined (some n) none = none
joined (some n) (some ns) = some (n ∷ ns)

-- the numbers of a line's fields
abbrev pub numbers : List (List ℕ) → Option (List ℕ)
numbers [] = some []
numbers (f ∷ fs) = joined (number f) (numbers fs)

-- "B benches jobs; A job and two benches; D job; S height; H"
pub data Command : Type 0 where
  set_table : ℕ → ℕ → Command
  take_in : ℕ → ℕ → ℕ → Command
  close_job : ℕ → Command
  ask_tight_set : ℕ → Command
  ask_heaviest : Command

-- the command of a letter and its numbers
unfoldable pub command_for : ℕ → List ℕ → Option Command
command_for letter ns =
    let is : Char → ℕ → Bool = λ l n. eqb letter (code l) && eqb (length ns) n in
    let at : ℕ → ℕ = λ i. nth ns i 0 in
    cond (is "B" 2) (some (set_table (at 1) (at 2)))
    (cond (is "A" 3) (some (take_in (at 1) (at 2) (at 3)))
    (cond (is "D" 1) (some (close_job (at 1)))
    (cond (is "S" 1) (some (ask_tight_set (at 1))) (cond (is "H" 0) (some ask_heaviest) none))))

-- a first field of one byte, then numbers
abbrev pub fields_command : List (List ℕ) → Option Command
fields_command [] = none
fields_command ([] ∷ fs) = none
fields_command ((letter ∷ []) ∷ fs) = elim (numbers fs) [ none ↦ none | some ns ↦ command_for letter ns ]
fields_command ((letter ∷ c ∷ l) ∷ fs) = none

-- "each a letter and numbers [..], one space between, at most 40 bytes before the line feed"
unfoldable pub command : List ℕ → Option Command
command line = let r = fields_command (pieces space line) in cond (leb (length line) 40) r none

-- a printed line: a letter and numbers, one space between
unfoldable pub printed : ℕ → List ℕ → List ℕ
printed letter ns = letter ∷ flat_map (λ n. space ∷ digits n n) ns ++ (line_feed ∷ [])

-- the letter of a command's line
abbrev pub letter_of : Command → ℕ
letter_of (set_table benches jobs) = code "B"
letter_of (take_in j x y) = code "A"
letter_of (close_job j) = code "D"
letter_of (ask_tight_set h) = code "S"
letter_of ask_heaviest = code "H"

-- the numbers of a command's line
abbrev pub numbers_of : Command → List ℕ
numbers_of (set_table benches jobs) = benches ∷ jobs ∷ []
numbers_of (take_in j x y) = j ∷ x ∷ y ∷ []
numbers_of (close_job j) = j ∷ []
numbers_of (ask_tight_set h) = h ∷ []
numbers_of ask_heaviest = []

-- the numbers of the command that its line repeats
abbrev pub repeated : Command → List ℕ
repeated (set_table benches jobs) = benches ∷ jobs ∷ []
repeated (take_in j x y) = j ∷ []
repeated (close_job j) = j ∷ []
repeated (ask_tight_set h) = h ∷ []
repeated ask_heaviest = []

-- "then the benches": the words that a tight set left in the list, as many as its answer says; 02: "A and D lines gain
-- them at the end": likewise the jobs that an arrival or a closing moved
abbrev pub listed : Command → Outcome → List ℕ
listed (set_table benches jobs) o = []
listed (take_in j x y) o = take (nth (in_numbers o.answer) 4 0) (words o.lent)
listed (close_job j) o = take (nth (in_numbers o.answer) 3 0) (words o.lent)
listed (ask_tight_set h) o = take (nth (in_numbers o.answer) 2 0) (words o.lent)
listed ask_heaviest o = []

-- a command's line: "R and the refusal", or the letter, the command's numbers, the answer's values, and what is listed
unfoldable pub line_for : Command → Outcome → List ℕ
line_for c o =
    cond (is_refused o.answer) (printed (code "R") (in_numbers o.answer))
    (printed (letter_of c) (repeated c ++ drop 1 (in_numbers o.answer) ++ listed c o))

-- the program's state
pub record Counter : Type 0 where
  pub table : List ℕ
  pub tally : Tally

-- "Before the first B its table has length 0"
abbrev pub at_first : Counter
at_first = record { table = []; tally = zero_tally }

-- the part of the program's own bytes that a table of these sizes takes, as long as there are so many
abbrev pub room : ℕ → ℕ → List ℕ
room benches jobs = take (length_for benches jobs) (replicate (length_for most_benches most_jobs) 0)

-- "Its list has 1,000 bytes"
abbrev pub counter_list : List ℕ
counter_list = replicate 1000 0

-- what a command's call leaves
unfoldable pub done : Command → List ℕ → Outcome
done (set_table benches jobs) t = blanking benches jobs (room benches jobs)
done (take_in j x y) t = outcome (arrival (record { job = j; given = x ∷ y ∷ []; list = counter_list })) t
done (close_job j) t = outcome (closing (record { job = j; list = counter_list })) t
done (ask_tight_set h) t = outcome (ask (tight_set_of h) counter_list) t
done ask_heaviest t = outcome (ask heaviest_load []) t

-- the state after a command: "a refused B keeps the old table", an accepted one starts table and tally together
unfoldable pub after : Command → Counter → Outcome → Counter
after (set_table benches jobs) s o = cond (is_refused o.answer) s (record { table = o.table; tally = zero_tally })
after (take_in j x y) s o = record { table = o.table; tally = (noted s.tally o.answer).tally }
after (close_job j) s o = record { table = o.table; tally = (noted s.tally o.answer).tally }
after (ask_tight_set h) s o = s
after ask_heaviest s o = s

-- "All else [..] gives 10"
abbrev pub unreadable_line : List ℕ
unreadable_line = printed (code "R") (in_numbers (refused unreadable))

-- what is printed for the lines from a state on; the last piece of the input has no line feed, and is a line if it
-- has a byte
unfoldable pub prints : Counter → List (List ℕ) → List ℕ
prints s [] = []
prints s (piece ∷ []) = cond (empty piece) [] unreadable_line
prints s (line ∷ piece ∷ rest) =
    elim (command line) [
      | none ↦ unreadable_line ++ prints s (piece ∷ rest)
      | some c ↦ let o = done c s.table in line_for c o ++ prints (after c s o) (piece ∷ rest)
    ]

-- the whole program: from all that it reads to all that it prints
unfoldable pub counter : List ℕ → List ℕ
counter input = prints at_first (pieces line_feed input)
