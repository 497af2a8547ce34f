-- The table, where it is in order, or a copy put in order tells.
use Rattle.spec_lists.proofs.Tests.{true→T}
use Rattle.table_copies.proofs.Ordering.{rising_table_lem}
use Rattle.sharing_levelling.proofs.Flipping.{order_loads, copy_level}
use Rattle.sharing_levelling.proofs.is_level.Goals as goal

pub first_start-requires-clause-loads_in : goal.first_start-requires-clause-loads_in
first_start-requires-clause-loads_in c =
    let o = (rising_table_lem c.requires.sound_table (c.requires.variant.0 (true→T c.args.rising c.if-rising.true))).in_order in
    order_loads o c.requires.loaded

pub returns-then-rising : goal.returns-then-rising
returns-then-rising c =
    copy_level (rising_table_lem c.requires.sound_table (c.requires.variant.0 (true→T c.args.rising c.if-rising.true))) c.first_start.ensures c.is_none.ensures
