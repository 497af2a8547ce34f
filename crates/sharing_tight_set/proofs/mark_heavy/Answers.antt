use Rattle.sharing_tight_set.proofs.AsSet.{mark_start}
use Rattle.sharing_tight_set.proofs.mark_heavy.Goals as goal

pub loop-x-init : goal.loop-x-init
loop-x-init c = mark_start c.args.loads.now c.args.h c.args.s.benches c.requires.marks_value
