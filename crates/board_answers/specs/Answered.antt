-- Each case of the answers and refusals as document 01's refusal or answer; its number and values are
-- `Rattle.spec_calls.specs.Answers.in_numbers`.
use Rattle.std.specs.Prelude.{◌≡◌, List, ℕ, get_or, take, Result, Ok, Err}
use Rattle.spec_calls.specs.Answers as paper
use Rattle.table_refusals.specs.Refusals.{refusal_of}
use Rattle.table_refusals.specs.declared.Refusal.{Refusal}
use Rattle.board_answers.specs.declared.Answer.{Answer}
use Rattle.board_answers.specs.declared.value_list.Values.{Values}
use Rattle.board_answers.specs.declared.Answer.TheVariants as told

-- the answer of an accepted call
abbrev pub accepted_of : Answer → paper.Answer
accepted_of told.Blanked = paper.said paper.blanked
accepted_of (told.Arrived holder rose moved) = paper.arrived holder rose moved
accepted_of (told.Closed fell moved) = paper.closed fell moved
accepted_of (told.Load n) = paper.said (paper.load_is n)
accepted_of (told.Heaviest n) = paper.said (paper.heaviest_is n)
accepted_of (told.TightSet benches inside) = paper.said (paper.tight_set_is benches inside)
accepted_of told.Sound = paper.said paper.is_sound
accepted_of told.Level = paper.said paper.level_yes
accepted_of told.NotLevel = paper.said paper.level_no
accepted_of (told.Levelled paths) = paper.said (paper.levelled paths)
accepted_of (told.Stopped paths) = paper.said (paper.stopped paths)
accepted_of (told.Sheet length) = paper.said (paper.sheet_is length)
accepted_of (told.Between job records) = paper.said (paper.job_between job records)
accepted_of (told.NoneBetween records) = paper.said (paper.none_between records)

-- the answer of any call
abbrev pub answer_of : Result Answer Refusal → paper.Answer
answer_of (Ok a) = accepted_of a
answer_of (Err r) = paper.refused (refusal_of r)

-- what is returned: the refusal's number, 0 for an accepted call
abbrev pub returned : paper.Answer → ℕ
returned a = get_or (paper.in_numbers a) 0 0

-- an answer's values as a list
abbrev pub values_of : Values → List ℕ
values_of v = take v.count v.numbers

-- the call answered r and left these bytes of the table and of what was lent beside it ([] for nothing), as the
-- outcome o says
pub record Leaves (o : paper.Outcome) (r : Result Answer Refusal) (table beside : List ℕ) : Type 0 where
  pub answer : answer_of r ≡ o.answer
  pub bytes : table ≡ o.table
  pub lent : beside ≡ o.lent

-- what a call left, in document 01's words
abbrev pub left_by : Result Answer Refusal → List ℕ → List ℕ → paper.Outcome
left_by r table beside = record { answer = answer_of r; table = table; lent = beside }
