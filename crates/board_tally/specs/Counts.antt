-- The tally in code as document 01's, and what noting answers as its refusal or none.
use Rattle.std.specs.Prelude.{ℕ, ◌+◌, ◌≡◌, T, Result, Ok, Err}
use Rattle.std.proofs.Math.Option.{Option, none, some}
use Rattle.spec_calls.specs.Answers.{Answer, refusal_number}
use Rattle.spec_calls.specs.Answers as paper-answers
use Rattle.spec_calls.specs.Tally as paper
use Rattle.table_refusals.specs.Refusals.{refusal_of}
use Rattle.table_refusals.specs.declared.Refusal.{Refusal}
use Rattle.board_tally.specs.declared.Tally.{Tally}
use Rattle.board_tally.specs.declared.Added.{Added}
use Rattle.board_tally.specs.declared.Noted.{Noted}

-- the tally
abbrev pub tally_of : Tally → paper.Tally
tally_of t = record { arrivals = t.arrivals; closings = t.closings; moved = t.moved }

-- the refusal, 9, or none
abbrev pub note_of : Result (Unit {0}) Refusal → Option paper-answers.Refusal
note_of (Ok counted) = none
note_of (Err r) = some (refusal_of r)

-- the number returned: the refusal's, 0 for none
abbrev pub number_of : Option paper-answers.Refusal → ℕ
number_of none = 0
number_of (some r) = refusal_number r

-- the tally with so many more of each
abbrev pub more : Tally → Added → paper.Tally
more t added =
    record {
      arrivals = t.arrivals + added.arrivals;
      closings = t.closings + added.closings;
      moved = t.moved + added.moved;
    }

-- noting this answer raises any tally of 32-bit counts by so many
abbrev pub RaisesBy : Answer → Added → Type 0
RaisesBy a added =
    (t : Tally) → T (paper.counts_fit (tally_of t)) →
    paper.noted (tally_of t) a ≡ paper.raised (tally_of t) (more t added)

-- what noting handed back is what the definition gives
pub record NotedAs (o : paper.Noted) (r : Noted) : Type 0 where
  pub tally : tally_of r.tally ≡ o.tally
  pub refusal : note_of r.note ≡ o.refusal
