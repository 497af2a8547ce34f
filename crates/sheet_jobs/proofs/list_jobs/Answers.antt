use native.Mathlib.Omega.{arith}
use Prim.Native.Nat.{◌+◌, ◌-◌}
use mathlib.Core.Path.{◌≡◌}
use borrow.Author.Rules.{rules}
use Rattle.sheet_jobs.proofs.JobListing.{listed_start, listed_turn}
use Rattle.sheet_jobs.proofs.list_jobs.Goals as goal

pub loop-j-init : goal.loop-j-init
loop-j-init c =
    let all : c.jobs-j.result + 1 - 1 ≡ c.args.s.jobs = omega (arith, c.jobs-j.ensures) in
    rw all (listed_start c.requires.sound_table c.requires.head_value (search rules))

pub loop-j-preserved : goal.loop-j-preserved
loop-j-preserved c = listed_turn c.requires.sound_table (search rules) c.loop-j.invariant c.holder-x.ensures
