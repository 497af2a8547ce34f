-- The letter, the numbers and the line feed, one behind the other.
use Rattle.std.proofs.Common.{take}
use Rattle.spec_table.specs.Table.{words}
use Rattle.board_answers.specs.Answered.{values_of}
use Rattle.counter_answer_lines.proofs.Lines.{wrote_lists}
use Rattle.counter_answer_lines.proofs.line.Goals as goal

pub returns-clause-wrote : goal.returns-clause-wrote
returns-clause-wrote c =
    wrote_lists (values_of c.args.repeated) (values_of c.args.values) (take c.args.count (words c.args.list.now)) c.byte.ensures c.values.ensures.wrote c.values-2.ensures.wrote c.listed.ensures.wrote c.byte-2.ensures
