use Rattle.std.proofs.Common.{arith}
use Rattle.table_words.proofs.Bytes.{listing_turn}
use Rattle.table_words.proofs.write_list.Goals as goal

pub loop-i-preserved : goal.loop-i-preserved
loop-i-preserved c = listing_turn c.loop-i.invariant (omega arith) c.requires c.from.ensures c.write.ensures
