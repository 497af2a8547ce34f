-- What the form check answers, for the crates above.
use Rattle.std.specs.Prelude.{◌≡◌, ◌↔◌, Bool, List, [], T, ℕ, Result, Ok, Err}
use Rattle.std.proofs.Math.Option.{some}
use Rattle.spec_table.specs.Table.{decode, encode}
use Rattle.spec_calls.specs.Answers.{Answer, said, is_sound, refused, first_holding}
use Rattle.spec_calls.specs.Calls.{outcome, ask, form_check, form_conditions}
use Rattle.table_refusals.specs.Refusals.{refusal_of}
use Rattle.table_refusals.specs.declared.Refusal.{Refusal}
use Rattle.table_size.specs.Sizes.{SoundTable}
use Rattle.table_size.specs.declared.Size.{Size}
use Rattle.table_board.specs.BoardView.{Loaded}
use Rattle.table_form.specs.declared.Sound.{Sound}

-- each case as document 01's answer: the refusal, or sound
abbrev pub form_answer : Result Sound Refusal → Answer
form_answer (Ok s) = said is_sound
form_answer (Err r) = refused (refusal_of r)

-- a sound table of size s with these loads; it is told to rise exactly if its bytes are the encoding of its board,
-- every chain rising
pub record FoundSound (t loads : List ℕ) (s : Size) (rising : Bool) : Type 0 where
  pub sound : SoundTable t s
  pub loaded : Loaded (decode t) loads
  pub bytes : T rising ↔ (t ≡ encode (decode t))

-- what each answer says of the table: the first of 1 and 2 that holds, as all calls but the pair question test first,
-- or that it is sound
abbrev pub Checked : List ℕ → List ℕ → Result Sound Refusal → Type 0
Checked t loads (Ok s) = FoundSound t loads s.size s.rising
Checked t loads (Err r) = first_holding (form_conditions t) ≡ some (refusal_of r)

-- f is document 01's answer for the table t, and true of it and of the loads
pub record FormOf (t loads : List ℕ) (f : Result Sound Refusal) : Type 0 where
  pub answer : form_answer f ≡ (outcome (ask form_check []) t).answer
  pub says : Checked t loads f
