-- 01, "The tally".
use Rattle.std.specs.Prelude.{ℕ, ◌+◌, Bool, cond, ◌&&◌, List, [], ◌∷◌, ◌≡◌, leb}
use Rattle.std.proofs.Math.Option.{Option, none, some}
use Rattle.spec_calls.specs.Answers.{Refusal, Answer, Outcome, count_full, refused, arrived, closed, said}

-- "Three 32-bit counts: arrivals, closings, jobs moved"
pub record Tally : Type 0 where
  pub arrivals : ℕ
  pub closings : ℕ
  pub moved : ℕ

-- the most that a count holds
abbrev pub most_count : ℕ
most_count = 4294967295

-- the tally that starts with a blank table
abbrev pub zero_tally : Tally
zero_tally = record { arrivals = 0; closings = 0; moved = 0 }

-- the tally that noting hands back, and the refusal 9 or none
pub record Noted : Type 0 where
  pub tally : Tally
  pub refusal : Option Refusal

-- no count is past 4,294,967,295
abbrev pub counts_fit : Tally → Bool
counts_fit t = leb t.arrivals most_count && leb t.closings most_count && leb t.moved most_count

-- the raised tally, or 9 and the old one "if a count would pass 4,294,967,295"
abbrev pub raised : Tally → Tally → Noted
raised old new =
    cond (counts_fit new) (record { tally = new; refusal = none }) (record { tally = old; refusal = some count_full })

-- noting an answer that changes no count
abbrev pub unchanged : Tally → Noted
unchanged t = record { tally = t; refusal = none }

-- "An arrival's or closing's answer adds one to its own count and its moved jobs to the third"; "noting a refusal or
-- another call's answer changes none"
unfoldable pub noted : Tally → Answer → Noted
noted t (arrived holder rose moved) =
    raised t (record { arrivals = t.arrivals + 1; closings = t.closings; moved = t.moved + moved })
noted t (closed fell moved) =
    raised t (record { arrivals = t.arrivals; closings = t.closings + 1; moved = t.moved + moved })
noted t (refused r) = unchanged t
noted t (said f) = unchanged t

-- "each answer is noted once"
abbrev pub tally_after : Tally → List Outcome → Tally
tally_after t [] = t
tally_after t (o ∷ os) = tally_after (noted t o.answer).tally os

-- "without a 9"
abbrev pub NoNine : Tally → List Outcome → Type 0
NoNine t [] = Unit {0}
NoNine t (o ∷ os) = ((noted t o.answer).refusal ≡ none) × NoNine (noted t o.answer).tally os
