-- A call of one of the board's functions, by the function's own contract `Post`: for how long it was lent what (κs,
-- a), what it answered (r), and what it left of the lent bytes (s). What is lent stands in the order of the
-- parameters, which the comment names: `a.0` is the first, `a.1.0` the second ..; `now` are a lent part's bytes.
use Rattle.std.specs.Prelude.{◌≡◌, List, [], ◌∷◌, ℕ, replicate}
use contract.Lifetimes.{Lfts}
use Rattle.spec_table.specs.Table.{decode}
use Rattle.spec_calls.specs.Answers.{Outcome, said, blanked, level_yes}
use Rattle.spec_calls.specs.Calls.{Call, arrival, closing, levelling, ask, load_of, heaviest_load, tight_set_of, form_check, level_check, wall_sheet, between}
use Rattle.spec_calls.specs.JobBook.{Book}
use Rattle.board_answers.specs.Answered.{answer_of, left_by}
use Rattle.board_changes.proofs.blank.Reads as blank
use Rattle.board_changes.proofs.arrival.Reads as arrive
use Rattle.board_changes.proofs.closing.Reads as close
use Rattle.board_changes.proofs.levelling.Reads as level
use Rattle.board_questions.proofs.form_check.Reads as check-form
use Rattle.board_questions.proofs.level_check.Reads as check-level
use Rattle.board_questions.proofs.load.Reads as load
use Rattle.board_questions.proofs.heaviest.Reads as heaviest
use Rattle.board_questions.proofs.tight_set.Reads as tight-set
use Rattle.board_sheet.proofs.sheet.Reads as wall-sheet
use Rattle.board_pair.proofs.between.Reads as between-benches

-- the call c, made of the table t, left o
pub data Done : Call → List ℕ → Outcome → Type 0 where
  -- table, job, first, second, list
  byArrival :
      (κs : Lfts 2) (a : _) (r : _) (s : _) → arrive.Post κs a r s →
      Done (arrival (record { job = a.1.0; given = a.1.1.0 ∷ a.1.1.1.0 ∷ []; list = a.1.1.1.1.0.now }))
      a.0.now (left_by r s.0.now s.1.1.1.1.0.now)
  -- table, job, list
  byClosing :
      (κs : Lfts 2) (a : _) (r : _) (s : _) → close.Post κs a r s →
      Done (closing (record { job = a.1.0; list = a.1.1.0.now })) a.0.now
      (left_by r s.0.now s.1.1.0.now)
  -- table, allowance
  byLevelling :
      (κs : Lfts 1) (a : _) (r : _) (s : _) → level.Post κs a r s →
      Done (levelling a.1.0) a.0.now (left_by r s.0.now [])
  -- table, bench
  byLoad :
      (κs : Lfts 1) (a : _) (r : _) (s : _) → load.Post κs a r s →
      Done (ask (load_of a.1.0) []) a.0.now (left_by r a.0.now [])
  -- table
  byHeaviest :
      (κs : Lfts 1) (a : _) (r : _) (s : _) → heaviest.Post κs a r s →
      Done (ask heaviest_load []) a.0.now (left_by r a.0.now [])
  -- table, height, list
  byTightSet :
      (κs : Lfts 2) (a : _) (r : _) (s : _) → tight-set.Post κs a r s →
      Done (ask (tight_set_of a.1.0) a.1.1.0.now) a.0.now (left_by r a.0.now s.1.1.0.now)
  -- table
  byFormCheck :
      (κs : Lfts 1) (a : _) (r : _) (s : _) → check-form.Post κs a r s →
      Done (ask form_check []) a.0.now (left_by r a.0.now [])
  -- table
  byLevelCheck :
      (κs : Lfts 1) (a : _) (r : _) (s : _) → check-level.Post κs a r s →
      Done (ask level_check []) a.0.now (left_by r a.0.now [])
  -- table, page
  bySheet :
      (κs : Lfts 2) (a : _) (r : _) (s : _) → wall-sheet.Post κs a r s →
      Done (ask wall_sheet a.1.0.now) a.0.now (left_by r a.0.now s.1.0.now)
  -- table, first, second
  byBetween :
      (κs : Lfts 1) (a : _) (r : _) (s : _) → between-benches.Post κs a r s →
      Done (between a.1.0 a.1.1.0) a.0.now (left_by r a.0.now [])

-- a start that the code made or found: what `blank` left where it was not refused, with an empty book; a table that
-- `level_check` called level, with its own jobs
pub data Started : List ℕ → Book → Type 0 where
  -- table, benches, jobs
  byBlank :
      (κs : Lfts 1) (a : _) (r : _) (s : _) → blank.Post κs a r s → answer_of r ≡ said blanked →
      Started s.0.now (replicate a.1.1.0 [])
  -- table
  byLevel :
      (κs : Lfts 1) (a : _) (r : _) (s : _) → check-level.Post κs a r s → answer_of r ≡ said level_yes →
      Started a.0.now (decode a.0.now).named
