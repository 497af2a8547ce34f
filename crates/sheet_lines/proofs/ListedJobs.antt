-- Lists of jobs: the job that a list begins with, and the list after it.
use Prim.Native.Nat.{ℕ, zero, suc, ◌≤◌, ◌<◌}
use native.Mathlib.Omega.{arith}
use mathlib.Core.Path.{◌≡◌, refl}
use mathlib.Core.List.{List, []}
use lib.ListN.{length, get_or, drop}
use Rattle.spec_lists.specs.Lists.{Each}
use Rattle.spec_lists.proofs.Tests.{within_low, within_high}
use Rattle.spec_table.specs.Table.{most_jobs}
use Rattle.spec_sheet.specs.Sheet.{field}
use Rattle.sheet_jobs.specs.JobLists.{ListFrom, list_end, list_job}
use Rattle.sheet_lines.specs.WrittenLines.{cell_text, job_after}

-- a job's columns have its number ..
pub cell_job : (j : ℕ) → 1 ≤ j → cell_text j ≡ field 5 j
cell_job zero h = absurd (omega arith)
cell_job (suc i) h = refl

-- .. and the next job is the one that stands at it
pub after_job : (next : List ℕ) (j : ℕ) → 1 ≤ j → job_after next j ≡ get_or next j 0
after_job next zero h = absurd (omega arith)
after_job next (suc i) h = refl

module _ {next : List ℕ} where
  -- job numbers are at most 4,000 ..
  pub list_most : {j : ℕ} {js : List ℕ} → ListFrom next j js → j ≤ most_jobs
  list_most list_end = omega arith
  list_most (list_job {j} {js} w l) = within_high 1 most_jobs j w

  -- .. all of them ..
  pub list_small : {j : ℕ} {js : List ℕ} → ListFrom next j js → Each (λ i. i < 100000) js
  list_small list_end = tt
  list_small (list_job {j} {js} w l) = (omega (arith, within_high 1 most_jobs j w), list_small l)

  -- .. and the one after a job too
  pub next_most : {j : ℕ} {js : List ℕ} → ListFrom next j js → 1 ≤ j → get_or next j 0 ≤ most_jobs
  next_most list_end h = absurd (omega arith)
  next_most (list_job {j} {js} w l) h = list_most l

  -- 0 begins the empty list ..
  pub list_none : {j : ℕ} {js : List ℕ} → ListFrom next j js → j ≡ 0 → js ≡ []
  list_none list_end e = refl
  list_none (list_job {j} {js} w l) e = absurd (omega (arith, within_low 1 most_jobs j w))

  -- .. and no other does
  pub list_some : {j : ℕ} {js : List ℕ} → ListFrom next j js → (j ≡ 0 → ⊥) → 1 ≤ length js
  list_some list_end n = absurd (n refl)
  list_some (list_job {j} {js} w l) n = omega arith

  -- after a list's first job comes the list without it
  pub list_after : {j : ℕ} {js : List ℕ} → ListFrom next j js → ListFrom next (job_after next j) (drop 1 js)
  list_after list_end = list_end
  list_after (list_job {j} {js} w l) = rw (after_job next j (within_low 1 most_jobs j w)) l
