-- Room in a count, what noting an answer adds, and the tally that is handed back.
use Prim.Native.Nat.{ℕ, ◌+◌, ◌-◌, ◌≤◌}
use native.Mathlib.Omega.{arith}
use mathlib.Core.Path.{◌≡◌, refl, sym, ap, subst, ◌∙◌}
use mathlib.Core.Bool.{Bool, true, false, ◌&&◌, false≢true}
use mathlib.Core.List.{List}
use lib.Dec.{T, leb}
use mir.Val.{Val}
use denote.Laws.{Is}
use denote.Struct.Laws as SL
use Rattle.spec_lists.proofs.Tests.{tests_same, true→T, T→true, T-leb, leb_T}
use Rattle.spec_calls.specs.Answers as paper
use Rattle.spec_calls.specs.Tally.{most_count, counts_fit, raised, noted}
use Rattle.spec_calls.proofs.Tally.{Fits32, counts_fit_lem, is_change, other_noted}
use Rattle.board_answers.specs.Answered.{answer_of}
use Rattle.board_answers.specs.declared.Answer.{Answer}
use Rattle.board_answers.specs.declared.Answer.TheVariants.{Blanked, Arrived, Closed, Load, Heaviest, TightSet, Sound, Level, NotLevel, Levelled, Stopped, Sheet, Between, NoneBetween}
use Rattle.board_tally.specs.contracts.Tally as tally-type
use Rattle.board_tally.proofs.Tally.TheLaws as tally-laws
use Rattle.board_tally.specs.Counts.{tally_of, more, RaisesBy, NotedAs}
use Rattle.board_tally.specs.declared.Tally.{Tally}
use Rattle.board_tally.specs.declared.Added.{Added}
use Rattle.table_refusals.specs.declared.Refusal.{Refusal}
use Rattle.table_refusals.specs.declared.Refusal.TheVariants.{CountFull}
use Rattle.std.specs.Prelude.{Result, Ok, Err}

-- what is left up to the most is room
pub room_is : (n k : ℕ) → n ≤ most_count → leb k (most_count - n) ≡ leb (n + k) most_count
room_is n k h =
    tests_same (leb k (most_count - n)) (leb (n + k) most_count) (
      λ p. leb_T (n + k) most_count (omega (arith, h, T-leb k (most_count - n) p)),
      λ p. leb_T k (most_count - n) (omega (arith, h, T-leb (n + k) most_count p)),
    )

-- the first count has no room ..
pub first_full : (x y z r : Bool) → r ≡ x → r ≡ false → false ≡ (x && y && z)
first_full x y z false e h = λ i. e i && y && z
first_full x y z true e h = absurd (false≢true (sym h))

-- .. or the second ..
pub second_full : (x y z r s : Bool) → r ≡ x → r ≡ true → s ≡ y → s ≡ false → false ≡ (x && y && z)
second_full x y z true false e h f g = λ i. e i && f i && z
second_full x y z true true e h f g = absurd (false≢true (sym g))
second_full x y z false s e h f g = absurd (false≢true h)

-- .. or it is as the third says
pub third_tells : (x y z r s u : Bool) → r ≡ x → r ≡ true → s ≡ y → s ≡ true → u ≡ z → u ≡ (x && y && z)
third_tells x y z true true u e h f g k = λ i. e i && f i && k i
third_tells x y z false s u e h f g k = absurd (false≢true h)
third_tells x y z true false u e h f g k = absurd (false≢true g)

-- a tally that is passed has counts of 32 bits
pub tally_fits : (t : Tally) (vs : List Val) → Is tally-type.the_row t vs → T (counts_fit (tally_of t))
tally_fits t vs is =
    let k = SL.owed tally-type.the_type tally-laws.the_laws t vs is in
    (counts_fit_lem (tally_of t)).1 (record { arrivals = k.0.1; closings = k.1.0.1; moved = k.1.1.0.1 })

module _ (t : Tally) (added : Added) (fit : Bool) (e : fit ≡ counts_fit (more t added)) where
  -- the raised counts have 32 bits
  pub raises_fit : fit ≡ true → Fits32 (more t added)
  raises_fit h = (counts_fit_lem (more t added)).0 (subst T e (true→T fit h))

  module _ (a : Result Answer Refusal) (n : noted (tally_of t) (answer_of a) ≡ raised (tally_of t) (more t added)) where
    -- all three are raised ..
    pub counted_noted : fit ≡ true → NotedAs (noted (tally_of t) (answer_of a)) (record { tally = record { arrivals = t.arrivals + added.arrivals; closings = t.closings + added.closings; moved = t.moved + added.moved }; note = Ok tt })
    counted_noted h =
        let f : counts_fit (more t added) ≡ true = sym e ∙ h in
        record { tally = rw (n, f); refusal = rw (n, f) }

    -- .. or it is 9, and the tally is left
    pub full_noted : fit ≡ false → NotedAs (noted (tally_of t) (answer_of a)) (record { tally = t; note = Err CountFull })
    full_noted h =
        let f : counts_fit (more t added) ≡ false = sym e ∙ h in
        record { tally = rw (n, f); refusal = rw (n, f) }

-- no answer but an arrival's and a closing's changes a count
pub no_change : (a : Result Answer Refusal) → ((h r m : ℕ) → a ≡ Ok (Arrived h r m) → ⊥) → ((f m : ℕ) → a ≡ Ok (Closed f m) → ⊥) → is_change (answer_of a) ≡ false
no_change (Err r) h k = refl
no_change (Ok Blanked) h k = refl
no_change (Ok (Arrived holder rose moved)) h k = absurd (h holder rose moved refl)
no_change (Ok (Closed fell moved)) h k = absurd (k fell moved refl)
no_change (Ok (Load n)) h k = refl
no_change (Ok (Heaviest n)) h k = refl
no_change (Ok (TightSet benches inside)) h k = refl
no_change (Ok Sound) h k = refl
no_change (Ok Level) h k = refl
no_change (Ok NotLevel) h k = refl
no_change (Ok (Levelled paths)) h k = refl
no_change (Ok (Stopped paths)) h k = refl
no_change (Ok (Sheet length)) h k = refl
no_change (Ok (Between job records)) h k = refl
no_change (Ok (NoneBetween records)) h k = refl

-- an arrival's answer adds to its own count and to the jobs moved ..
pub arrival_adds : {r : Result Answer Refusal} {a : Answer} {holder rose moved : ℕ} → r ≡ Ok a → a ≡ Arrived holder rose moved → RaisesBy (answer_of r) (record { arrivals = 1; closings = 0; moved = moved })
unfolding noted
arrival_adds e f t h =
    let z : t.closings + 0 ≡ t.closings = omega arith in
    ap (λ r. noted (tally_of t) (answer_of r)) (e ∙ ap Ok f) ∙ rw z

-- .. so does a closing's ..
pub closing_adds : {r : Result Answer Refusal} {a : Answer} {fell moved : ℕ} → r ≡ Ok a → a ≡ Closed fell moved → RaisesBy (answer_of r) (record { arrivals = 0; closings = 1; moved = moved })
unfolding noted
closing_adds e f t h =
    let z : t.arrivals + 0 ≡ t.arrivals = omega arith in
    ap (λ r. noted (tally_of t) (answer_of r)) (e ∙ ap Ok f) ∙ rw z

-- .. and what changes no count adds nothing
pub other_adds : (a : paper.Answer) (added : Added) → is_change a ≡ false → (added.arrivals ≡ 0) × ((added.closings ≡ 0) × (added.moved ≡ 0)) → RaisesBy a added
other_adds a added o z t h =
    let l : t.arrivals + added.arrivals ≡ t.arrivals = omega (arith, z.0) in
    let m : t.closings + added.closings ≡ t.closings = omega (arith, z.1.0) in
    let n : t.moved + added.moved ≡ t.moved = omega (arith, z.1.1) in
    let f : counts_fit (tally_of t) ≡ true = T→true (counts_fit (tally_of t)) h in
    other_noted (tally_of t) a o ∙ rw (l, m, n, f)
