-- The record is emptied, the link before the job leads to the job behind it, and it is not counted.
use Prim.Native.Nat.{◌≤◌}
use native.Mathlib.Omega.{arith}
use Rattle.spec_table.specs.Table.{vacant}
use Rattle.table_size.specs.Sizes.{BenchIn}
use Rattle.table_splices.proofs.Spliced.{holder_in_lem, removed_few, remove_spliced}
use Rattle.table_splices.proofs.remove_job.Goals as goal
use Rattle.table_splices.proofs.remove_job.Goals.{After-holder-x, After-standing_word-count, Start}

-- its holder is one of 1 to B
bench : (c : After-holder-x) → BenchIn c.args.s c.holder-x.result
bench c = holder_in_lem c.args.j c.requires.in_order c.requires.t c.holder-x.ensures.value

pub find_gap-gap-requires-clause-bench_in : goal.find_gap-gap-requires-clause-bench_in
find_gap-gap-requires-clause-bench_in c = bench (goal.at.find_gap-gap-requires-clause-bench_in c).After-holder-x

pub link-requires-clause-bench_in : goal.link-requires-clause-bench_in
link-requires-clause-bench_in c = bench (goal.at.link-requires-clause-bench_in c).After-holder-x

-- the number read
count : (c : After-standing_word-count) → (1 ≤ c.standing_word-count.result) × (c.standing_word-count.result ≤ c.args.s.jobs)
count c =
    removed_few c.args.j vacant c.holder-x.result c.find_gap-gap.result.before c.read_record-old.result.next c.requires.in_order c.requires.t c.write_record.ensures c.link.ensures c.standing_word-count.ensures

pub overflow_sub-count : goal.overflow_sub-count
overflow_sub-count c = omega (arith, count (goal.at.overflow_sub-count c).After-standing_word-count)

pub write_standing-requires-clause-count_bound : goal.write_standing-requires-clause-count_bound
write_standing-requires-clause-count_bound c = omega (arith, count (goal.at.write_standing-requires-clause-count_bound c).After-standing_word-count, c.requires.in_order.sound.size.limits.jobs_most)

pub returns : goal.returns
returns c = remove_spliced c.requires.in_order c.requires.t c.holder-x.ensures.value c.find_gap-gap.ensures c.read_record-old.ensures c.write_record.ensures c.link.ensures c.standing_word-count.ensures c.write_standing.ensures (λ i. omega (arith, c.type_inv.t i))
