-- 01, "Refused calls", with the refusals that 02 adds, and what each call answers.
use Rattle.std.specs.Prelude.{ℕ, Bool, cond, true, false, List, [], ◌∷◌}
use Rattle.std.proofs.Math.Option.{Option, none, some}

-- the conditions of 01's table, in its order: "01's table take[s] in this refusal and every later one" of 02
pub data Refusal : Type 0 where
  sizes unsound job_number bench_number already_standing not_standing height list_too_short count_full unreadable : Refusal
  page_too_short : Refusal

-- "returned"
abbrev pub refusal_number : Refusal → ℕ
refusal_number sizes = 1
refusal_number unsound = 2
refusal_number job_number = 3
refusal_number bench_number = 4
refusal_number already_standing = 5
refusal_number not_standing = 6
refusal_number height = 7
refusal_number list_too_short = 8
refusal_number count_full = 9
refusal_number unreadable = 10
refusal_number page_too_short = 11

-- what a call says that is neither an arrival's nor a closing's answer. A tight set: benches, inside jobs. A
-- levelling: paths turned, and level or stopped. A sheet: its length. A job between two benches: the job, the records
-- read; none: the records read
pub data Fact : Type 0 where
  blanked : Fact
  load_is : ℕ → Fact
  heaviest_is : ℕ → Fact
  tight_set_is : ℕ → ℕ → Fact
  is_sound : Fact
  level_yes level_no : Fact
  levelled stopped : ℕ → Fact
  sheet_is : ℕ → Fact
  job_between : ℕ → ℕ → Fact
  none_between : ℕ → Fact

-- what a call answers. An arrival: the holder of the new job, the bench whose load rose, other jobs moved. A closing:
-- the bench whose load fell, jobs moved
pub data Answer : Type 0 where
  refused : Refusal → Answer
  arrived : ℕ → ℕ → ℕ → Answer
  closed : ℕ → ℕ → Answer
  said : Fact → Answer

-- a fact's values; yes and level are 1, no, stopped and no job 0
abbrev pub fact_values : Fact → List ℕ
fact_values blanked = []
fact_values (load_is n) = n ∷ []
fact_values (heaviest_is n) = n ∷ []
fact_values (tight_set_is benches inside) = benches ∷ inside ∷ []
fact_values is_sound = []
fact_values level_yes = 1 ∷ []
fact_values level_no = 0 ∷ []
fact_values (levelled paths) = paths ∷ 1 ∷ []
fact_values (stopped paths) = paths ∷ 0 ∷ []
fact_values (sheet_is length) = length ∷ []
fact_values (job_between job records) = job ∷ records ∷ []
fact_values (none_between records) = 0 ∷ records ∷ []

-- an answer in this paper's numbers: the refusal's number, or 0 and the values
abbrev pub in_numbers : Answer → List ℕ
in_numbers (refused r) = refusal_number r ∷ []
in_numbers (arrived holder rose moved) = 0 ∷ holder ∷ rose ∷ moved ∷ []
in_numbers (closed fell moved) = 0 ∷ fell ∷ moved ∷ []
in_numbers (said f) = 0 ∷ fact_values f

-- the call was refused
abbrev pub is_refused : Answer → Bool
is_refused (refused r) = true
is_refused (arrived holder rose moved) = false
is_refused (closed fell moved) = false
is_refused (said f) = false

-- what a call leaves: its answer, the table's bytes, and the bytes lent beside the table
pub record Outcome : Type 0 where
  pub answer : Answer
  pub table : List ℕ
  pub lent : List ℕ

-- a condition under which a call is refused
pub record Condition : Type 0 where
  pub refusal : Refusal
  pub holds : Bool

-- the call is refused so if the test passes
abbrev pub refuse : Refusal → Bool → Condition
refuse r h = record { refusal = r; holds = h }

-- where several apply, a call lists its conditions in the order that counts, and the first that holds is returned: in
-- 01 "the lowest number"
abbrev pub first_holding : List Condition → Option Refusal
first_holding [] = none
first_holding (c ∷ cs) = let r = first_holding cs in cond c.holds (some c.refusal) r

-- the accepted outcome, or the refusal with every lent byte as it was: "A refused call changes no lent byte"
abbrev pub refused_or : Option Refusal → List ℕ → List ℕ → Outcome → Outcome
refused_or none table lent accepted = accepted
refused_or (some r) table lent accepted = record { answer = refused r; table = table; lent = lent }

-- the accepted outcome where no condition holds, else the refusal
abbrev pub unless : List Condition → List ℕ → List ℕ → Outcome → Outcome
unless conditions table lent accepted = refused_or (first_holding conditions) table lent accepted
