-- A readable line's command is performed; another line is refused.
use mathlib.Core.Path.{subst}
use Rattle.counter_answer_lines.specs.AnswerLines.{refusal_text}
use Rattle.counter_perform.proofs.Performing.{Printed}
use Rattle.counter_state.specs.State.{counter_of}
use Rattle.counter_reply.proofs.Replying.{unread_replies, read_replies}
use Rattle.counter_reply.proofs.to_line.Goals as goal

pub returns-in-Some : goal.returns-in-Some
returns-in-Some c = read_replies (counter_of c.args.counter.now c.args.bytes.now) c.args.line.now c.in-Some.command c.in-Some.ensures.command c.perform.ensures

pub returns-in-None : goal.returns-in-None
returns-in-None c = unread_replies c.requires.room c.args.line.now c.in-None.ensures.command (subst (λ n. Printed c.args.out.now c.refusal.new.out (refusal_text n)) c.number.ensures c.refusal.ensures)
