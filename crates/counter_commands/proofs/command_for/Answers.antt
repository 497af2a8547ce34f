-- A letter and as many numbers as it takes are its command, by computation; any other has none.
use Rattle.std.proofs.Common.{arith, Some}
use Rattle.spec_counter.specs.Counter.{command_for}
use Rattle.counter_commands.specs.Read.{taken}
use Rattle.counter_commands.proofs.Fields.{no_B, no_A, no_D, no_S, no_H, no_letter}
use Rattle.counter_commands.proofs.command_for.Goals as goal

pub returns-in-66-Two : goal.returns-in-66-Two
unfolding command_for
returns-in-66-Two c = rw (c.in-66-Two.is-0, c.in-66-Two.is-1)

pub returns-in-65-Three : goal.returns-in-65-Three
unfolding command_for
returns-in-65-Three c = rw (c.in-65-Three.is-0, c.in-65-Three.is-1)

pub returns-in-68-One : goal.returns-in-68-One
unfolding command_for
returns-in-68-One c = rw (c.in-68-One.is-0, c.in-68-One.is-1)

pub returns-in-83-One : goal.returns-in-83-One
unfolding command_for
returns-in-83-One c = rw (c.in-83-One.is-0, c.in-83-One.is-1)

pub returns-in-72-None : goal.returns-in-72-None
unfolding command_for
returns-in-72-None c = rw (c.in-72-None.is-0, c.in-72-None.is-1)

pub returns-in_default : goal.returns-in_default
returns-in_default c = rw c.in_default.is-0 (no_B c.args.numbers c.in_default.not-Two-1)

pub returns-in_default-2 : goal.returns-in_default-2
returns-in_default-2 c = rw c.in_default.is-0 (no_A c.args.numbers c.in_default.not-Three-1)

pub returns-in_default-3 : goal.returns-in_default-3
returns-in_default-3 c = rw c.in_default.is-0 (no_D c.args.numbers c.in_default.not-One-1)

pub returns-in_default-4 : goal.returns-in_default-4
returns-in_default-4 c = rw c.in_default.is-0 (no_S c.args.numbers c.in_default.not-One-1)

pub returns-in_default-5 : goal.returns-in_default-5
returns-in_default-5 c = rw c.in_default.is-0 (no_H c.args.numbers c.in_default.not-None-1)

pub returns-in_default-6 : goal.returns-in_default-6
returns-in_default-6 c = no_letter c.args.letter (taken (Some c.args.numbers)) (omega arith) (omega arith) (omega arith) (omega arith) (omega arith)
