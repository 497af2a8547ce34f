-- A C call, by its own contract: what a C program observes of it. What it is lent stands in the order of its
-- parameters, which the comment names: `a.0` is the first, `a.1.0` the second, `a.1.1.0` the third ..
use Rattle.std.specs.Prelude.{◌≡◌, Bool, not, List, [], ◌∷◌, map, ℕ, eqb, replicate}
use contract.Lifetimes.{Lfts}
use Rattle.spec_table.specs.Table.{decode}
use Rattle.spec_calls.specs.Answers.{Outcome}
use Rattle.spec_calls.specs.Calls.{Call, arrival, closing, levelling, ask, load_of, heaviest_load, tight_set_of, form_check, level_check, wall_sheet, between}
use Rattle.spec_calls.specs.JobBook.{Book, run, table_after, Claim}
use Rattle.jobboard.specs.Desk.{Reported}
use Rattle.jobboard.proofs.jobboard_blank.Reads as c-blank
use Rattle.jobboard.proofs.jobboard_check.Reads as c-check
use Rattle.jobboard.proofs.jobboard_arrival.Reads as c-arrival
use Rattle.jobboard.proofs.jobboard_closing.Reads as c-closing
use Rattle.jobboard.proofs.jobboard_levelling.Reads as c-levelling
use Rattle.jobboard.proofs.jobboard_level_check.Reads as c-level-check
use Rattle.jobboard.proofs.jobboard_load.Reads as c-load
use Rattle.jobboard.proofs.jobboard_heaviest.Reads as c-heaviest
use Rattle.jobboard.proofs.jobboard_tight_set.Reads as c-tight-set
use Rattle.jobboard.proofs.jobboard_sheet.Reads as c-sheet
use Rattle.jobboard.proofs.jobboard_between.Reads as c-between

-- the number returned, the bytes left of the table and of what was lent beside it, and the lent numbers before and
-- after, which lie outside both
pub record Observed : Type 0 where
  pub number : ℕ
  pub table : List ℕ
  pub beside : List ℕ
  pub before : List ℕ
  pub after : List ℕ

-- what is observed of a call: the number, what it left, and its lent numbers
abbrev pub observed : ℕ → List ℕ → List ℕ → List ℕ → List ℕ → Observed
observed r table beside before after =
    record { number = r; table = table; beside = beside; before = before; after = after }

-- the C call of c, made of the table t, was observed as v
pub data Called : Call → List ℕ → Observed → Type 0 where
  -- table, job, first, second, list; holder, rose, moved
  byArrival :
      (κs : Lfts 5) (a : _) (r : _) (s : _) → c-arrival.Post κs a r s →
      Called
      (arrival (record { job = a.1.0; given = a.1.1.0 ∷ a.1.1.1.0 ∷ []; list = a.1.1.1.1.0.now }))
      a.0.now
      (observed r s.0.now s.1.1.1.1.0.now
      (a.1.1.1.1.1.0.now ∷ a.1.1.1.1.1.1.0.now ∷ a.1.1.1.1.1.1.1.0.now ∷ [])
      (s.1.1.1.1.1.0.now ∷ s.1.1.1.1.1.1.0.now ∷ s.1.1.1.1.1.1.1.0.now ∷ []))
  -- table, job, list; fell, moved
  byClosing :
      (κs : Lfts 4) (a : _) (r : _) (s : _) → c-closing.Post κs a r s →
      Called (closing (record { job = a.1.0; list = a.1.1.0.now })) a.0.now
      (observed r s.0.now s.1.1.0.now (a.1.1.1.0.now ∷ a.1.1.1.1.0.now ∷ [])
      (s.1.1.1.0.now ∷ s.1.1.1.1.0.now ∷ []))
  -- table, allowance; paths, level
  byLevelling :
      (κs : Lfts 3) (a : _) (r : _) (s : _) → c-levelling.Post κs a r s →
      Called (levelling a.1.0) a.0.now
      (observed r s.0.now [] (a.1.1.0.now ∷ a.1.1.1.0.now ∷ [])
      (s.1.1.0.now ∷ s.1.1.1.0.now ∷ []))
  -- table, bench; load
  byLoad :
      (κs : Lfts 2) (a : _) (r : _) (s : _) → c-load.Post κs a r s →
      Called (ask (load_of a.1.0) []) a.0.now
      (observed r a.0.now [] (a.1.1.0.now ∷ []) (s.1.1.0.now ∷ []))
  -- table; load
  byHeaviest :
      (κs : Lfts 2) (a : _) (r : _) (s : _) → c-heaviest.Post κs a r s →
      Called (ask heaviest_load []) a.0.now
      (observed r a.0.now [] (a.1.0.now ∷ []) (s.1.0.now ∷ []))
  -- table, height, list; benches, jobs
  byTightSet :
      (κs : Lfts 4) (a : _) (r : _) (s : _) → c-tight-set.Post κs a r s →
      Called (ask (tight_set_of a.1.0) a.1.1.0.now) a.0.now
      (observed r a.0.now s.1.1.0.now (a.1.1.1.0.now ∷ a.1.1.1.1.0.now ∷ [])
      (s.1.1.1.0.now ∷ s.1.1.1.1.0.now ∷ []))
  -- table
  byCheck :
      (κs : Lfts 1) (a : _) (r : _) (s : _) → c-check.Post κs a r s →
      Called (ask form_check []) a.0.now (observed r a.0.now [] [] [])
  -- table; level
  byLevelCheck :
      (κs : Lfts 2) (a : _) (r : _) (s : _) → c-level-check.Post κs a r s →
      Called (ask level_check []) a.0.now
      (observed r a.0.now [] (a.1.0.now ∷ []) (s.1.0.now ∷ []))
  -- table, page; length
  bySheet :
      (κs : Lfts 3) (a : _) (r : _) (s : _) → c-sheet.Post κs a r s →
      Called (ask wall_sheet a.1.0.now) a.0.now
      (observed r a.0.now s.1.0.now (a.1.1.0.now ∷ []) (s.1.1.0.now ∷ []))
  -- table, first, second; job, records
  byBetween :
      (κs : Lfts 3) (a : _) (r : _) (s : _) → c-between.Post κs a r s →
      Called (between a.1.0 a.1.1.0) a.0.now
      (observed r a.0.now [] (a.1.1.1.0.now ∷ a.1.1.1.1.0.now ∷ [])
      (s.1.1.1.0.now ∷ s.1.1.1.1.0.now ∷ []))

-- C calls one after the other, each on the table that the last one left
abbrev pub CallsMade : List ℕ → List Call → List Observed → Type 0
CallsMade t [] [] = Unit {0}
CallsMade t [] (v ∷ vs) = ⊥
CallsMade t (c ∷ cs) [] = ⊥
CallsMade t (c ∷ cs) (v ∷ vs) = Called c t v × CallsMade v.table cs vs

-- what is observed of each call is what the outcome reports
abbrev pub ReportedEach : List Outcome → List Observed → Type 0
ReportedEach [] [] = Unit {0}
ReportedEach [] (v ∷ vs) = ⊥
ReportedEach (o ∷ os) [] = ⊥
ReportedEach (o ∷ os) (v ∷ vs) =
    Reported o v.number v.table v.beside v.before v.after × ReportedEach os vs

-- whether each call was refused, as a C program sees it: another number than 0 was returned
abbrev pub refused_by : List Observed → List Bool
refused_by vs = map (λ v. not (eqb v.number 0)) vs

-- the table that the C program holds in the end
abbrev pub last_table : List ℕ → List Observed → List ℕ
last_table t [] = t
last_table t (v ∷ vs) = last_table v.table vs

-- a start that the C calls made or found: what `jobboard_blank` left where it returned 0, with an empty book; a table
-- of which `jobboard_level_check` returned 0 and said 1, with its own jobs
pub data CStarted : List ℕ → Book → Type 0 where
  byBlank :
      (κs : Lfts 1) (a : _) (r : _) (s : _) → c-blank.Post κs a r s → r ≡ 0 →
      CStarted s.0.now (replicate a.1.1.0 [])
  byLevel :
      (κs : Lfts 2) (a : _) (r : _) (s : _) → c-level-check.Post κs a r s → r ≡ 0 → s.1.0.now ≡ 1 →
      CStarted a.0.now (decode a.0.now).named

-- what demand 3 claims of a list of C calls: the claim of the defined outcomes, which are what the C program
-- observes, call by call, and the table it holds is theirs
pub record CClaim (t : List ℕ) (k : Book) (cs : List Call) (vs : List Observed) : Type 0 where
  pub claim : Claim t k cs (run t cs)
  pub reported : ReportedEach (run t cs) vs
  pub table : last_table t vs ≡ table_after t (run t cs)
