-- An answer that is no refusal has the number 0.
use mathlib.Core.Path.{◌≡◌, refl}
use mathlib.Core.Logic.{inl, inr}
use mathlib.Core.List.{List, [], ◌∷◌}
use Prim.Native.Nat.{ℕ}
use types.Run.{OneOf}
use Rattle.spec_lists.specs.Lists.{In}
use Rattle.std.specs.Prelude.{Result, Ok, Err}
use Rattle.table_refusals.specs.declared.Refusal.{Refusal}
use Rattle.board_answers.specs.Answered.{accepted_of, answer_of, returned}
use Rattle.board_answers.specs.declared.Answer.{Answer}
use Rattle.board_answers.specs.declared.Answer.TheVariants.{Blanked, Arrived, Closed, Load, Heaviest, TightSet, Sound, Level, NotLevel, Levelled, Stopped, Sheet, Between, NoneBetween}

-- a tag of an arm is in its list
pub of_arm : (x : ℕ) (ks : List ℕ) → OneOf ks x → In x ks
of_arm x [] h = absurd h
of_arm x (k ∷ []) e = inl e
of_arm x (k ∷ l ∷ ks) (inl e) = inl e
of_arm x (k ∷ l ∷ ks) (inr h) = inr (of_arm x (l ∷ ks) h)

-- accepted answers have the number 0
pub others_zero : (a : Answer) → 0 ≡ returned (accepted_of a)
others_zero Blanked = refl
others_zero (Arrived holder rose moved) = refl
others_zero (Closed fell moved) = refl
others_zero (Load n) = refl
others_zero (Heaviest n) = refl
others_zero (TightSet benches inside) = refl
others_zero Sound = refl
others_zero Level = refl
others_zero NotLevel = refl
others_zero (Levelled paths) = refl
others_zero (Stopped paths) = refl
others_zero (Sheet length) = refl
others_zero (Between job records) = refl
others_zero (NoneBetween records) = refl

-- what is no refusal has the number 0
pub unrefused_zero : (a : Result Answer Refusal) → ((r : Refusal) → a ≡ Err r → ⊥) → 0 ≡ returned (answer_of a)
unrefused_zero (Ok a) h = others_zero a
unrefused_zero (Err r) h = absurd (h r refl)
