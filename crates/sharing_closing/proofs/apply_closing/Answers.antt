-- The job is taken off the table, and the path handed along.
use Rattle.table_copies.proofs.Ordering.{rising_table_lem}
use Rattle.sharing_closing.proofs.Closing.{closing_route, closing_done}
use Rattle.sharing_closing.proofs.apply_closing.Goals as goal

pub hand_along-requires-clause-by_index : goal.hand_along-requires-clause-by_index
hand_along-requires-clause-by_index c =
    let o = c.requires.in_order in
    (_, _, closing_route c.requires.closing_found (rising_table_lem o.sound o.bytes) c.holder-x.ensures c.remove_job.ensures)

pub returns : goal.returns
returns c =
    let o = c.requires.in_order in
    closing_done c.requires.closing_found (rising_table_lem o.sound o.bytes) c.holder-x.ensures c.remove_job.ensures c.hand_along.ensures
