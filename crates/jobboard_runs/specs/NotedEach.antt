-- Answers noted one after the other, by `Tally::note`'s own contract.
use Rattle.std.specs.Prelude.{◌≡◌, List, [], ◌∷◌, Ok}
use contract.Lifetimes.{Lfts}
use Rattle.spec_calls.specs.Answers.{Outcome}
use Rattle.board_answers.specs.Answered.{answer_of}
use Rattle.board_tally.specs.declared.Tally.{Tally}
use Rattle.board_tally.proofs.Tally.new.Reads as new
use Rattle.board_tally.proofs.Tally.note.Reads as note

-- "each answer is noted once without a 9": from the tally y on, and the tally z is handed back in the end
pub data NotedEach : Tally → List Outcome → Tally → Type 0 where
  ended : (y : Tally) → NotedEach y [] y
  then :
      (κs : Lfts 0) (a : _) (r : _) (s : _) (o : Outcome) (os : List Outcome) (z : Tally) → note.Post κs a r s →
      o.answer ≡ answer_of a.1.0 → r.note ≡ Ok tt → NotedEach r.tally os z → NotedEach a.0 (o ∷ os) z

-- the tally that `Tally::new` makes
pub record New (y : Tally) : Type 0 where
  pub made : new.Post tt tt y tt
