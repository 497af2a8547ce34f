-- The heaviest load's line; the state stays.
use Rattle.counter_perform.proofs.Performing.{heaviest_replies}
use Rattle.counter_perform.proofs.ask_heaviest.Goals as goal

pub returns : goal.returns
returns c = heaviest_replies c.requires.room c.heaviest-answer.ensures c.of.ensures.numbers c.answer.ensures
