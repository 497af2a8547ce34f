-- The job is put in at its place in its holder's chain, and counted.
use native.Mathlib.Omega.{arith}
use Rattle.table_splices.proofs.Spliced.{fillable_bench, inserted_few, add_spliced}
use Rattle.table_splices.proofs.add_job.Goals as goal

pub find_gap-gap-requires-clause-bench_in : goal.find_gap-gap-requires-clause-bench_in
find_gap-gap-requires-clause-bench_in c = fillable_bench c.requires.fillable

pub overflow_add-count : goal.overflow_add-count
overflow_add-count c = omega (arith, inserted_few c.requires.in_order c.insert.ensures c.standing_word-count.ensures, c.requires.in_order.sound.size.limits.jobs_most)

pub write_standing-requires-clause-count_bound : goal.write_standing-requires-clause-count_bound
write_standing-requires-clause-count_bound c = omega (arith, inserted_few c.requires.in_order c.insert.ensures c.standing_word-count.ensures, c.requires.in_order.sound.size.limits.jobs_most)

pub returns : goal.returns
returns c = add_spliced c.requires.in_order c.requires.fillable c.requires.j_value c.find_gap-gap.ensures c.insert.ensures c.standing_word-count.ensures c.write_standing.ensures (λ i. omega (arith, c.type_inv.t i))
