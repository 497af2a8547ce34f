-- A line that has begun ends without a line feed.
use Rattle.std.proofs.Common.{sym, subst, ◌∙◌}
use borrow.Author.Tests.{eqb-true, eqb-false}
use Rattle.counter_answer_lines.specs.AnswerLines.{refusal_text}
use Rattle.counter_printing.specs.Wrote.{Wrote}
use Rattle.counter_feed.proofs.Consuming.{finishes_none, finishes_line}
use Rattle.counter_feed.proofs.finish.Goals as goal

pub returns-then-not-is_empty : goal.returns-then-not-is_empty
returns-then-not-is_empty c = finishes_line c.args.reader.now c.args.out.now c.refusal.new.out (eqb-false c.args.reader.now.line.held 0 (sym c.is_empty.ensures ∙ c.if-not-is_empty.true)) (subst (λ n. Wrote c.args.out.now c.refusal.new.out (refusal_text n)) c.number.ensures c.refusal.ensures.wrote)

pub returns-else-not-is_empty : goal.returns-else-not-is_empty
returns-else-not-is_empty c = finishes_none c.args.reader.now c.args.out.now (eqb-true c.args.reader.now.line.held 0 (sym c.is_empty.ensures ∙ c.if-not-is_empty.false))
