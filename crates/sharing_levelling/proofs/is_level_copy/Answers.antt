-- The copy in order has the table's board.
use Rattle.table_copies.proofs.Ordering.{table_loaded}
use Rattle.sharing_levelling.proofs.Flipping.{order_loads, copy_level}
use Rattle.sharing_levelling.proofs.is_level_copy.Goals as goal

pub first_start-requires-clause-loads_in : goal.first_start-requires-clause-loads_in
first_start-requires-clause-loads_in c =
    order_loads c.copy_in_order.ensures.in_order (table_loaded c.copy_in_order.ensures c.requires.loaded)

pub returns : goal.returns
returns c = copy_level c.copy_in_order.ensures c.first_start.ensures c.is_none.ensures
