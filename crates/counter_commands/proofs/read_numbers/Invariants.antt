-- The fields one by one. Invariant: the numbers that were read and those behind are the numbers of the line. The measure is what is left of it.
use Rattle.std.proofs.Common.{◌≡◌, length, Some}
use Rattle.counter_commands.specs.Read.{behind, followed, few, taken}
use Rattle.counter_commands.proofs.read_numbers.Given as goal

abbrev pub invariant-loop-fields : goal.invariant-loop-fields
invariant-loop-fields l = few (followed (taken (Some l.numbers)) (behind l.fields)) ≡ few (behind l.fn.fields)

abbrev pub decreases-loop-fields : goal.decreases-loop-fields
decreases-loop-fields l = length l.fields
