-- Answers as a C program gets them: a returned number, and numbers that it lends.
use Rattle.std.specs.Prelude.{ℕ, ◌≡◌, List}
use Rattle.spec_calls.specs.Answers.{Outcome}
use Rattle.jobboard_report.specs.Report.{Delivered}

-- the call returned r, left these bytes of the table and of what was lent beside it ([] for nothing), and made
-- `after` of the lent numbers `before`, as the outcome o says
pub record Reported (o : Outcome) (r : ℕ) (table beside before after : List ℕ) : Type 0 where
  pub bytes : table ≡ o.table
  pub lent : beside ≡ o.lent
  pub delivered : Delivered o.answer r before after
