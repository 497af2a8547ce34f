-- Bench x's head begins its chain.
use Rattle.table_chains.proofs.ChainView.{first_read}
use Rattle.table_chains.proofs.head.Goals as goal

pub returns : goal.returns
returns c = first_read c.args.t.now c.args.s c.args.x c.head.result c.requires.sound_table c.requires.bench_in c.head.ensures
