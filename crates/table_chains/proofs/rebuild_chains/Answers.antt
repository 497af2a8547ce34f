-- The heads are cleared, all jobs pushed and their number written: the layout is the board's, and so are the bytes.
use native.Mathlib.Omega.{arith}
use Rattle.table_chains.proofs.Rebuilding.{cleared_holds_board, linked_few, rebuild_all}
use Rattle.table_chains.proofs.rebuild_chains.Goals as goal

pub push_all-count-requires : goal.push_all-count-requires
push_all-count-requires c = (cleared_holds_board c.args.t.now c.clear_heads.new.t c.args.s c.requires c.clear_heads.ensures).0

pub write_standing-requires-clause-count_bound : goal.write_standing-requires-clause-count_bound
write_standing-requires-clause-count_bound c = omega (arith, linked_few c.push_all-count.ensures)

pub returns : goal.returns
returns c = rebuild_all c.requires c.clear_heads.ensures c.push_all-count.ensures c.write_standing.ensures (λ i. omega (arith, c.type_inv.t i))
