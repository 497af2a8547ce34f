-- Tallies, answers and notes as machine values, and what their types own, which is had for nothing.
use mathlib.Core.List.{List, [], ◌∷◌}
use seplogic.Ra.Ura.{Ura}
use lib.Dec.{T as Holds}
use mir.Syntax.{Ty}
use mir.Val.{Val, WT, has_ty}
use types.Logic.{Logic}
use types.Kit.{Goal, Step, Item, ‵}
use denote.Laws.{Is}
use denote.RattleType.{RattleType}
use denote.Builtin.{unit}
use denote.Memory.{lone}
use denote.Shadow.{makes_shadow}
use denote.Steps.{owned}
use denote.Struct.Laws as SL
use denote.Enum.Laws as EL
use denote.Enum.Declared.{Declared}
use Rattle.board_answers.specs.declared.Answer.{Answer}
use Rattle.board_answers.specs.contracts.Answer as A
use Rattle.board_answers.proofs.Answer.TheLaws as A'
use Rattle.board_tally.specs.declared.Tally.{Tally}
use Rattle.table_refusals.specs.declared.Refusal.{Refusal}
use Rattle.table_refusals.specs.contracts.Refusal as R
use Rattle.table_refusals.proofs.Refusal.TheLaws as R'
use Rattle.std.specs.Prelude.{Result}
use Rattle.std.specs.contracts.result.Result as Res
use Rattle.board_tally.specs.declared.Noted.{Noted}
use Rattle.board_tally.specs.contracts.Tally as T
use Rattle.board_tally.proofs.Tally.TheLaws as T'
use Rattle.board_tally.specs.contracts.Noted as D
use Rattle.board_tally.proofs.Noted.TheLaws as D'

-- the machine value of a tally ..
abbrev pub tally_val : Tally → Val
tally_val = SL.val T.the_type T'.the_laws

-- .. of an accepted answer ..
abbrev pub accepted_val : Answer → Val
accepted_val = EL.val A.the_type A'.the_laws

-- the type of any answer, an accepted one or a refusal
abbrev call : Declared
call = Res.the_type A.the_row R.the_row

abbrev call_laws : EL.Laws call
call_laws = (
  (
    record {
      val = EL.val A.the_type A'.the_laws;
      tells = EL.tells A.the_type A'.the_laws;
      low = EL.val A.the_type A'.the_laws;
      low-is = EL.tells A.the_type A'.the_laws;
      lawful = λ 𝓛. EL.lawful A.the_type A'.the_laws 𝓛 tt;
      drops = λ 𝓛. EL.drops A.the_type A'.the_laws 𝓛;
    },
    tt,
  ),
  (
    (
      record {
        val = EL.val R.the_type R'.the_laws;
        tells = EL.tells R.the_type R'.the_laws;
        low = EL.val R.the_type R'.the_laws;
        low-is = EL.tells R.the_type R'.the_laws;
        lawful = λ 𝓛. EL.lawful R.the_type R'.the_laws 𝓛 tt;
        drops = λ 𝓛. EL.drops R.the_type R'.the_laws 𝓛;
      },
      tt,
    ),
    tt,
  ),
)

-- .. of any answer ..
abbrev pub answer_val : Result Answer Refusal → Val
answer_val = EL.val call call_laws

-- the type of what noting answers
abbrev N : RattleType
N = Res.the_row unit R.the_row

-- .. and of a note
abbrev pub note_val : Result (Unit {0}) Refusal → Val
note_val n = D'.the_laws.1.0.val ((Res.the_type unit R.the_row).to n)

-- it stands for a tally: each count fits its type ..
abbrev pub IsTally : Tally → Type 0
IsTally t = Is T.the_row t (tally_val t ∷ [])

-- .. for an answer ..
abbrev pub IsAnswer : Result Answer Refusal → Type 0
IsAnswer a = Is (Res.the_row A.the_row R.the_row) a (answer_val a ∷ [])

-- .. for an accepted one ..
abbrev pub IsAccepted : Answer → Type 0
IsAccepted a = Is A.the_row a (accepted_val a ∷ [])

-- .. for a note
abbrev pub IsNote : Result (Unit {0}) Refusal → Type 0
IsNote n = Is N n (note_val n ∷ [])

-- what noting hands back, taken apart
pub its_tally : (r : Noted) (vs : List Val) → Is D.the_row r vs → IsTally r.tally
its_tally r vs is = (SL.owed D.the_type D'.the_laws r vs is).0

pub its_note : (r : Noted) (vs : List Val) → Is D.the_row r vs → IsNote r.note
its_note r vs is = (SL.owed D.the_type D'.the_laws r vs is).1.0

-- a value of a MIR type
abbrev pub Typed : Ty → Val → Type 0
Typed τ v = Holds (has_ty τ v) × WT v

-- what stands for a value has its type's MIR type, so a local can hold it
module _ {M : Type 1} {𝓤 : Ura M} (𝓛 : Logic 𝓤) where
  pub tally_typed : (t : Tally) → IsTally t → Typed T'.mir (tally_val t)
  tally_typed t is = ((SL.lawful T.the_type T'.the_laws 𝓛).typed t _ is).0

  pub answer_typed : (a : Result Answer Refusal) → IsAnswer a → Typed (lone (Res.the_row A.the_row R.the_row).mir) (answer_val a)
  answer_typed a is = ((EL.lawful call call_laws 𝓛 tt).typed a _ is).0

  pub accepted_typed : (a : Answer) → IsAccepted a → Typed A'.mir (accepted_val a)
  accepted_typed a is = ((EL.lawful A.the_type A'.the_laws 𝓛 tt).typed a _ is).0

  pub note_typed : (n : Result (Unit {0}) Refusal) (v : Val) → Is N n (v ∷ []) → Typed (lone N.mir) v
  note_typed n v is = ((D'.the_laws.1.0.lawful 𝓛).typed ((Res.the_type unit R.the_row).to n) _ is).0

  pub noted_typed : (r : Noted) (v : Val) → Is D.the_row r (v ∷ []) → Typed D'.mir v
  noted_typed r v is = ((SL.lawful D.the_type D'.the_laws 𝓛).typed r _ is).0

-- the steps by which what is owned is had
module _ {M : Type 1} {𝓤 : Ura M} {𝓛 : Logic 𝓤} {K : Type 0} {Γ : List (Item 𝓤)} {G : Goal 𝓤 𝓛.H} where
  pub has_tally : K → (t : Tally) → IsTally t → Step K 𝓛 (‵ ((T.the_row).own_val t (tally_val t ∷ [])) ∷ Γ) G Γ G
  has_tally k t is = owned k T.the_row (Is T.the_row) (SL.makes T.the_type T'.the_plain 𝓛) t _ is

  pub has_answer : K → (a : Result Answer Refusal) → IsAnswer a → Step K 𝓛 (‵ ((Res.the_row A.the_row R.the_row).own_val a (answer_val a ∷ [])) ∷ Γ) G Γ G
  has_answer k a is =
      owned k (Res.the_row A.the_row R.the_row) (Is (Res.the_row A.the_row R.the_row)) (EL.makes call ((EL.pure A.the_type A'.the_plain, tt), ((EL.pure R.the_type R'.the_plain, tt), tt)) 𝓛) a _ is

  pub has_accepted : K → (a : Answer) → IsAccepted a → Step K 𝓛 (‵ ((A.the_row).own_val a (accepted_val a ∷ [])) ∷ Γ) G Γ G
  has_accepted k a is = owned k A.the_row (Is A.the_row) (EL.makes A.the_type A'.the_plain 𝓛) a _ is

  pub has_note : K → (n : Result (Unit {0}) Refusal) → IsNote n → Step K 𝓛 (‵ (N.own_val n (note_val n ∷ [])) ∷ Γ) G Γ G
  has_note k n is = owned k N (Is N) (λ x vs p. makes_shadow 𝓛 (N.own_val x vs) (D'.the_plain.1.0 ((Res.the_type unit R.the_row).to x) vs) p) n _ is
