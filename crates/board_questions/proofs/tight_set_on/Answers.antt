-- The set of a height of 1 or more: a set without a bench is that of a height above the heaviest load.
use native.Mathlib.Omega.{arith}
use Rattle.board_questions.proofs.Asking.{zero_refused, set_most, high_refused, short_refused, set_told}
use Rattle.board_questions.proofs.tight_set_on.Goals as goal

pub returns-then-height-eq0 : goal.returns-then-height-eq0
returns-then-height-eq0 c = zero_refused c.requires.sound_table c.args.height c.args.list.now c.if-height-eq0.true

pub returns-then-extent-eq0 : goal.returns-then-extent-eq0
returns-then-extent-eq0 c = high_refused c.requires.sound_table c.tight_set-extent.ensures c.args.list.now c.if-height-eq0.false c.if-extent-eq0.true

pub overflow_mul-extent : goal.overflow_mul-extent
overflow_mul-extent c = omega (arith, set_most c.requires.sound_table c.tight_set-extent.ensures)

pub returns-then-list-extent : goal.returns-then-list-extent
returns-then-list-extent c = short_refused c.requires.sound_table c.tight_set-extent.ensures c.args.list.now c.if-height-eq0.false c.if-extent-eq0.false c.if-list-extent.true

pub returns : goal.returns
returns c = set_told c.requires.sound_table c.tight_set-extent.ensures c.args.list.now c.if-height-eq0.false c.if-extent-eq0.false _ c.if-list-extent.false c.write.ensures
