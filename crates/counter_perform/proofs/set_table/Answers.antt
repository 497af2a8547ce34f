-- A size that is refused keeps the state; for another one the program's own bytes are blanked.
use mathlib.Core.Path.{subst}
use Rattle.counter_answer_lines.specs.AnswerLines.{refusal_text}
use Rattle.counter_perform.proofs.Performing.{Printed, misfit_replies, table_replies}
use Rattle.counter_perform.proofs.set_table.Goals as goal

pub returns-in-Err : goal.returns-in-Err
returns-in-Err c = misfit_replies c.requires.room c.args.benches c.args.jobs c.in-Err.ensures (subst (λ n. Printed c.args.out.now c.refusal.new.out (refusal_text n)) c.number.ensures c.refusal.ensures)

pub returns-in-Ok : goal.returns-in-Ok
returns-in-Ok c = table_replies c.requires.room c.args.benches c.args.jobs c.in-Ok.size c.in-Ok.ensures c.bytes-length.ensures c.blank-answer.ensures c.blank-answer.auto.t c.new-in-Ok.ensures c.of.ensures.numbers c.answer.ensures
