-- The path that is found is the rule's, and its jobs are those that move: a list that is too short for them is refused, any other gets
-- them.
use mathlib.Core.Path.{refl}
use Rattle.sharing_closing.proofs.Closing.{closing_short, closing_made}
use Rattle.sharing_closing.proofs.close_in_order.Goals as goal

pub returns-then-list-moved : goal.returns-then-list-moved
returns-then-list-moved c = closing_short c.find_closing-found.ensures c.if-list-moved.true refl

pub returns : goal.returns
returns c =
    closing_made c.find_closing-found.ensures c.requires.in_order.sound.storable.valid c.requires.t c.if-list-moved.false c.apply_closing.ensures c.write_list.ensures
