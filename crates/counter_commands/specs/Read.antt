-- What is read of a line, in the words of `Rattle.spec_counter.specs.Counter`.
use Rattle.std.specs.Prelude as std
use Rattle.std.specs.Prelude.{ℕ, ◌-◌, ◌<◌, ◌≡◌, cond, List, [], ◌∷◌, ◌++◌, eqb, leb, length, Some, None}
use Prim.Native.Char.{code}
use Rattle.std.proofs.Math.Option.{Option, none, some}
use Rattle.spec_calls.specs.Answers.{refusal_number, unreadable}
use Rattle.spec_counter.specs.Counter as paper
use Rattle.spec_text.specs.Numbers.{space, digit}
use Rattle.spec_counter.specs.Counter.{pieces, numbers, joined, command_for, numbers_of}
use Rattle.counter_commands.specs.declared.Command.{Command}
use Rattle.counter_commands.specs.declared.Command.TheVariants as told
use Rattle.counter_commands.specs.declared.Numbers.{Numbers}
use Rattle.counter_commands.specs.declared.Numbers.TheVariants as read

-- the command
abbrev pub command_of : Command → paper.Command
command_of (told.SetTable benches jobs) = paper.set_table benches jobs
command_of (told.TakeIn j x y) = paper.take_in j x y
command_of (told.CloseJob j) = paper.close_job j
command_of (told.AskTightSet h) = paper.ask_tight_set h
command_of told.AskHeaviest = paper.ask_heaviest

-- the command of a readable line
abbrev pub reading_of : std.Option Command → Option paper.Command
reading_of (Some c) = some (command_of c)
reading_of None = none

-- each case in document 01's numbers: 0 and the command's numbers, or refusal 10
abbrev pub reading_numbers : std.Option Command → List ℕ
reading_numbers (Some c) = 0 ∷ numbers_of (command_of c)
reading_numbers None = refusal_number unreadable ∷ []

-- the numbers due for a line, by its command
abbrev pub numbers_due : Option paper.Command → List ℕ
numbers_due none = refusal_number unreadable ∷ []
numbers_due (some c) = 0 ∷ numbers_of c

-- r is the line's command, and in document 01's numbers 0 and the command's numbers, or refusal 10
pub record ReadingOf (line : List ℕ) (r : std.Option Command) : Type 0 where
  pub command : reading_of r ≡ paper.command line
  pub numbers : reading_numbers r ≡ numbers_due (paper.command line)

-- a digit's value
abbrev pub digit_value : ℕ → std.Option ℕ
digit_value c = cond (digit c) (Some (c - code "0")) None

-- the numbers behind a field that ends here: "one space between"
abbrev pub behind : List ℕ → Option (List ℕ)
behind [] = some []
behind (c ∷ l) = cond (eqb c space) (numbers (pieces space l)) none

-- these bytes cannot be read as fields
abbrev pub NoFields : List ℕ → Type 0
NoFields fields = behind fields ≡ none

-- the first field is the number n, and the rest, which is shorter, is what is behind it
abbrev pub FieldRead : List ℕ → ℕ → List ℕ → Type 0
FieldRead fields n rest = (behind fields ≡ joined (some n) (behind rest)) × (length rest < length fields)

-- numbers, and the numbers after them
abbrev pub followed : Option (List ℕ) → Option (List ℕ) → Option (List ℕ)
followed none r = none
followed (some k) none = none
followed (some k) (some l) = some (k ++ l)

-- three numbers at most: "A job and two benches" are the most that a command takes
abbrev pub few : Option (List ℕ) → Option (List ℕ)
few none = none
few (some ns) = cond (leb (length ns) 3) (some ns) none

-- the numbers and one more behind them, three at most
abbrev pub with_one : Option (List ℕ) → ℕ → Option (List ℕ)
with_one ns n = few (followed ns (some (n ∷ [])))

-- the numbers that were read
abbrev pub taken : std.Option Numbers → Option (List ℕ)
taken None = none
taken (Some read.None) = some []
taken (Some (read.One a)) = some (a ∷ [])
taken (Some (read.Two a b)) = some (a ∷ b ∷ [])
taken (Some (read.Three a b c)) = some (a ∷ b ∷ c ∷ [])

-- the command of a letter and what was read behind it
abbrev pub given : ℕ → Option (List ℕ) → Option paper.Command
given letter none = none
given letter (some ns) = command_for letter ns
