-- A standing job's record tells the next job on its chain.
use Rattle.table_chains.proofs.ChainView.{next_read}
use Rattle.table_chains.proofs.next.Goals as goal

pub returns : goal.returns
returns c = next_read c.args.t.now c.args.s c.args.j c.read_record-r.result c.requires.sound_table c.requires.t c.read_record-r.ensures
