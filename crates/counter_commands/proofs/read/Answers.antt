-- A line of more than 40 bytes or none has no command; any other is its first byte and the fields behind it.
use Rattle.std.proofs.Common.{ℕ, ◌≡◌, ◌≤◌, List, length, refl, sym, ap, ◌∙◌, Option, Some, None}
use Rattle.std.specs.List.{IsFirstAndRest}
use Rattle.spec_counter.proofs.Counter.{long_unreadable}
use Rattle.counter_commands.proofs.Fields.{line_command, empty_line, reading_of_lem}
use Rattle.counter_commands.specs.Read.{reading_of, ReadingOf, behind, few, taken, given}
use Rattle.counter_commands.specs.declared.Command.{Command}
use Rattle.counter_commands.specs.declared.Numbers.{Numbers}
use Rattle.counter_commands.proofs.read.Goals as goal

pub returns-then-line-gt-LONGEST_LINE : goal.returns-then-line-gt-LONGEST_LINE
returns-then-line-gt-LONGEST_LINE c = reading_of_lem (sym (long_unreadable c.args.line.now c.if-line-gt-LONGEST_LINE.true))

pub returns-in_err-letter : goal.returns-in_err-letter
returns-in_err-letter c = rw c.from_residual.ensures (reading_of_lem (sym (empty_line c.args.line.now c.in_err-letter.ensures.cases)))

-- the fields' numbers are those that were read
module _ {line fields : List ℕ} {letter : ℕ} (split : IsFirstAndRest line letter fields) (short : length line ≤ 40) where
  reads : (numbers : Option Numbers) (r : Option Command) → taken numbers ≡ few (behind fields) → reading_of r ≡ given letter (taken numbers) → ReadingOf line r
  reads numbers r e f = reading_of_lem (f ∙ ap (given letter) e ∙ line_command line letter fields split.0 short)

pub returns-in_err-read_numbers : goal.returns-in_err-read_numbers
returns-in_err-read_numbers c =
    rw c.from_residual-in_err-read_numbers.ensures (reads c.in_ok-letter.ensures.cases c.if-line-gt-LONGEST_LINE.false None None c.in_err-read_numbers.ensures refl)

pub returns : goal.returns
returns c = reads c.in_ok-letter.ensures.cases c.if-line-gt-LONGEST_LINE.false (Some c.in_ok-read_numbers.field-0) c.command_for.result c.in_ok-read_numbers.ensures c.command_for.ensures
