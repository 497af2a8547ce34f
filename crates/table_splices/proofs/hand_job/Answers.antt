-- A job that its holder is handed stays. Any other is put in at its place in the new holder's chain, and the link before it in the old
-- one's leads to the job behind it.
use native.Mathlib.Omega.{arith}
use Rattle.spec_table.specs.Board.{names_of}
use Rattle.spec_table.specs.Table.{decode}
use Rattle.spec_lists.proofs.NumberLists.{member_in}
use Rattle.spec_table.proofs.Named.{named_stands}
use Rattle.table_size.specs.Sizes.{BenchIn}
use Rattle.table_splices.proofs.Spliced.{holder_in_lem, name_bench, record_fillable, hand_spliced}
use Rattle.table_splices.proofs.hand_job.Goals as goal
use Rattle.table_splices.proofs.hand_job.Goals.{After-holder-x, Start}

-- its holder is one of 1 to B
bench : (c : After-holder-x) → BenchIn c.args.s c.holder-x.result
bench c = let b = decode c.args.t.now in holder_in_lem c.args.j c.requires.in_order (named_stands b c.args.j c.args.y (member_in c.args.y (names_of b c.args.j) c.requires.t)) c.holder-x.ensures.value

pub find_gap-from-requires-clause-bench_in : goal.find_gap-from-requires-clause-bench_in
find_gap-from-requires-clause-bench_in c = bench (goal.at.find_gap-from-requires-clause-bench_in c).After-holder-x

pub find_gap-to-requires-clause-bench_in : goal.find_gap-to-requires-clause-bench_in
find_gap-to-requires-clause-bench_in c = name_bench c.args.j c.args.y c.requires.in_order c.requires.t

pub insert-requires-clause-fillable : goal.insert-requires-clause-fillable
insert-requires-clause-fillable c = record_fillable c.requires.in_order c.requires.t c.read_record-old.ensures

pub link-requires-clause-bench_in : goal.link-requires-clause-bench_in
link-requires-clause-bench_in c = bench (goal.at.link-requires-clause-bench_in c).After-holder-x

pub returns : goal.returns
returns c = hand_spliced c.requires.in_order c.requires.t c.holder-x.ensures.value c.if-x-y.false c.read_record-old.ensures c.find_gap-from.ensures c.find_gap-to.ensures c.insert.ensures c.link.ensures (λ i. omega (arith, c.type_inv.t i))
