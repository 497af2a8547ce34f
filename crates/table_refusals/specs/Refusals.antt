-- Each refusal of the code as document 01's; its number is `Rattle.spec_calls.specs.Answers.refusal_number`.
use Rattle.spec_calls.specs.Answers as paper
use Rattle.table_refusals.specs.declared.Refusal.{Refusal}
use Rattle.table_refusals.specs.declared.Refusal.TheVariants as code

-- the refusal
abbrev pub refusal_of : Refusal → paper.Refusal
refusal_of code.Sizes = paper.sizes
refusal_of code.Unsound = paper.unsound
refusal_of code.JobNumber = paper.job_number
refusal_of code.BenchNumber = paper.bench_number
refusal_of code.AlreadyStanding = paper.already_standing
refusal_of code.NotStanding = paper.not_standing
refusal_of code.Height = paper.height
refusal_of code.ListTooShort = paper.list_too_short
refusal_of code.CountFull = paper.count_full
refusal_of code.Unreadable = paper.unreadable
refusal_of code.PageTooShort = paper.page_too_short
