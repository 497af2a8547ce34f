-- The arrays are the table's chains, and the marks are the benches of the height and what their chains bring in.
use Rattle.sharing_tight_set.proofs.AlongChains.{chains_walkable}
use Rattle.sharing_tight_set.proofs.AsSet.{found_tight}
use Rattle.sharing_tight_set.proofs.mark_closure.Goals as goal

pub walk_heavy-requires : goal.walk_heavy-requires
walk_heavy-requires c = chains_walkable c.requires.sound_table c.copy_chains.ensures

pub returns : goal.returns
returns c = found_tight (record { sound = c.requires.sound_table; stored = c.copy_chains.ensures; loaded = c.requires.loaded; heavy = c.requires.heavy_marked; closed = c.walk_heavy.ensures })
