-- The copy has the table's bytes, and its chains are made anew.
use Rattle.table_copies.proofs.Ordering.{copy_holds, copy_table}
use Rattle.table_copies.proofs.copy_in_order.Goals as goal

pub rebuild_chains-requires : goal.rebuild_chains-requires
rebuild_chains-requires c = copy_holds c.requires.sound_table c.copy_from_slice.ensures.after

pub returns : goal.returns
returns c = copy_table c.requires.sound_table c.copy_from_slice.ensures.after c.rebuild_chains.ensures
