-- A field: the space, the first digit, then digit by digit. Invariant: a field whose value is n before index i goes on there.
use Rattle.std.proofs.Common.{◌≡◌, ◌≤◌, drop}
use Rattle.counter_commands.specs.Read.{behind}
use Rattle.counter_commands.proofs.Fields.{goes_on}
use Rattle.counter_commands.proofs.read_field.Given as goal

abbrev pub invariant-loop-i : goal.invariant-loop-i
invariant-loop-i l = record { small : l.n ≤ 65535; goes : behind l.fields ≡ goes_on l.n (drop l.i l.rest) }
