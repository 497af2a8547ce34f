-- The tally's own contracts, as its equality sees them: what was handed over (a), and handed back (r).
use mathlib.Core.Path.{◌≡◌}
use contract.Lifetimes.{Lfts}
use Rattle.spec_calls.specs.Tally.{zero_tally, noted}
use Rattle.board_answers.specs.Answered.{answer_of}
use Rattle.board_tally.specs.Counts.{tally_of, NotedAs}
use Rattle.board_tally.proofs.Tally.new.Reads as new
use Rattle.board_tally.proofs.Tally.note.Reads as note

module _ (κs : Lfts 0) where
  -- a new tally counts nothing
  pub new_zero : (a : _) (r : _) (s : _) → new.Post κs a r s → tally_of r ≡ zero_tally
  new_zero a r s p = p

  -- an answer is noted as defined
  pub note_notes : (a : _) (r : _) (s : _) → note.Post κs a r s → NotedAs (noted (tally_of a.0) (answer_of a.1.0)) r
  note_notes a r s p = p
