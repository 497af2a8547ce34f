-- The questions: their refusals and their answers.
use Prim.Native.Nat.{ℕ, ◌-◌, ◌*◌, ◌≤◌, ◌<◌}
use native.Mathlib.Omega.{arith}
use native.Mathlib.Decide.{dec_le}
use mathlib.Core.Path.{◌≡◌, sym, ap, ◌∙◌}
use mathlib.Core.Logic.{inl, inr, ◌≢◌}
use mathlib.Core.Bool.{Bool, true, false, cond}
use mathlib.Core.List.{List, [], ◌∷◌}
use lib.ListN.{length, get_or}
use Rattle.spec_lists.specs.Lists.{within, In}
use Rattle.spec_table.specs.Board.{Board, Valid, load, heaviest}
use Rattle.spec_table.specs.Table.{in_list, most_benches, decode}
use Rattle.spec_sharing.specs.Paths.{steps}
use Rattle.spec_sharing.specs.Sharing.{level, tight_set}
use Rattle.spec_calls.specs.Calls.{ask, load_of, heaviest_load, tight_set_of, form_check, level_check, question_conditions, asked, accepted, outcome, tight_set_told}
use Rattle.spec_lists.proofs.Tests.{true→T, within_both}
use Rattle.spec_lists.proofs.Elements.{in_get_d}
use Rattle.spec_lists.proofs.Counting.{greatest_most}
use Rattle.spec_table.proofs.Loads.{load_heaviest}
use Rattle.spec_sharing.proofs.Walks.{reach_here}
use Rattle.spec_sharing.proofs.TightSet.{tight_reached}
use Rattle.spec_calls.proofs.ChainOrder.{sound_outcome}
use Rattle.spec_calls.proofs.Questions.{load_refused, tight_answered, tight_list_refused, tight_height_refused}
use Rattle.table_size.specs.declared.Size.{Size}
use Rattle.table_size.specs.Sizes.{SoundTable, BenchIn}
use Rattle.sharing_tight_set.specs.declared.Extent.{Extent}
use Rattle.sharing_visits.specs.Marks.{mark}
use Rattle.sharing_tight_set.specs.MarkedSets.{marked, TightSet}
use Rattle.sharing_tight_set.proofs.AsSet.{passing_few}
use Rattle.std.specs.Prelude.{Ok, Err}
use Rattle.board_answers.specs.Answered.{Leaves}
use Rattle.table_refusals.specs.declared.Refusal.TheVariants as code
use Rattle.board_answers.specs.declared.Answer.TheVariants as told
use Rattle.board_answers.proofs.Formal.{answered_leaves, refused_leaves}
use Rattle.table_size.proofs.Sizes.{bench_in, bench_of_board}
use Rattle.table_board.specs.BoardView.{Loaded}
use Rattle.table_board.proofs.RecordsAsBoard.{sound_holds_board}
use Rattle.sharing_steps.proofs.AsSteps.{load_at}

-- heights and their sets

-- nothing is in a list of length 0
none_in : (x : ℕ) (l : List ℕ) → length l ≡ 0 → In x l → ⊥
none_in x [] e i = i
none_in x (y ∷ l) e i = absurd (omega arith)

-- a height of 1 or more, with no bench in its set, is above the heaviest load ..
empty_high : (b : Board) → Valid b → (h : ℕ) → h ≢ 0 → length (tight_set b h) ≡ 0 → heaviest b < h
unfolding heaviest
empty_high b v h p e = omega (arith, p, greatest_most b.benches (load b.holders) (h - 1) low)
  where
    low : (x : ℕ) → 1 ≤ x → x ≤ b.benches → load b.holders x ≤ h - 1
    low x m n = elim (dec_le h (load b.holders x)) [
      | yes k ↦ absurd (none_in x (tight_set b h) e ((tight_reached b v h x).1 (x, within_both 1 b.benches x m n, k, reach_here (steps b) x)))
      | no k ↦ omega (arith, k)
    ]

-- .. and a height with a bench in its set is not
bench_low : (b : Board) → Valid b → (h : ℕ) → length (tight_set b h) ≢ 0 → h ≤ heaviest b
bench_low b v h p =
    let (x, t, l, w) = (tight_reached b v h _).0 (in_get_d (tight_set b h) 0 0 (omega (arith, p))) in
    omega (arith, l, load_heaviest b x t)

-- what is left

module _ {t : List ℕ} {s : Size} (z : SoundTable t s) where
  -- form check
  pub form_sound : Leaves (outcome (ask form_check []) t) (Ok told.Sound) t []
  unfolding question_conditions asked accepted
  form_sound = answered_leaves (sound_outcome (ask form_check []) tt t z.sound)

  -- level check
  pub level_told : (y : Bool) → y ≡ level (decode t) → Leaves (outcome (ask level_check []) t) (Ok (cond y told.Level told.NotLevel)) t []
  unfolding question_conditions asked accepted
  level_told true e = answered_leaves (sound_outcome (ask level_check []) tt t z.sound ∙ rw (sym e))
  level_told false e = answered_leaves (sound_outcome (ask level_check []) tt t z.sound ∙ rw (sym e))

  -- the heaviest load
  pub heaviest_told : (n : ℕ) → n ≡ heaviest (decode t) → Leaves (outcome (ask heaviest_load []) t) (Ok (told.Heaviest n)) t []
  unfolding question_conditions asked accepted
  heaviest_told n e = answered_leaves (sound_outcome (ask heaviest_load []) tt t z.sound ∙ rw e)

  module _ (x : ℕ) where
    -- the load of a bench of 1 to B ..
    pub load_told : {h : Bool} (n : ℕ) → h ≡ within 1 s.benches x → h ≡ true → n ≡ load (decode t).holders x → Leaves (outcome (ask (load_of x) []) t) (Ok (told.Load n)) t []
    unfolding question_conditions asked accepted
    load_told n b w e = answered_leaves (sound_outcome (ask (load_of x) []) tt t z.sound ∙ rw (sym (bench_of_board z x b) ∙ w, e))

    -- .. as it is read from the loads ..
    pub load_read : {h : Bool} {loads : List ℕ} (n : ℕ) → Loaded (decode t) loads → h ≡ within 1 s.benches x → h ≡ true → n ≡ get_or loads x 0 → Leaves (outcome (ask (load_of x) []) t) (Ok (told.Load n)) t []
    load_read n l b w e =
        let own : BenchIn s x = bench_in s x (true→T (within 1 s.benches x) (sym b ∙ w)) in
        load_told n b w (e ∙ load_at (sound_holds_board t s z) l own)

    -- .. and 4 for any other number
    pub bench_refused : {h : Bool} → h ≡ within 1 s.benches x → h ≡ false → Leaves (outcome (ask (load_of x) []) t) (Err code.BenchNumber) t []
    bench_refused b w = refused_leaves code.BenchNumber (ask (load_of x) []) t (load_refused t z.sound x (sym (bench_of_board z x b) ∙ w))

  -- a height of 0 gives 7
  pub zero_refused : (h : ℕ) (list : List ℕ) → h ≡ 0 → Leaves (outcome (ask (tight_set_of h) list) t) (Err code.Height) t list
  zero_refused h list p = refused_leaves code.Height (ask (tight_set_of h) list) t (tight_height_refused t z.sound h list (inl p))

  module _ {h : ℕ} {marks : List Bool} {r : Extent} (m : TightSet (decode t) s h marks r) where
    -- the set has at most B benches
    pub set_most : r.benches ≤ most_benches
    set_most = omega (arith, m.benches, ap length m.set, passing_few (mark marks) s.benches, z.size.limits.benches_most)

    module _ (list : List ℕ) where
      -- a height of 1 or more whose set has no bench gives 7
      pub high_refused : h ≢ 0 → r.benches ≡ 0 → Leaves (outcome (ask (tight_set_of h) list) t) (Err code.Height) t list
      high_refused p e =
          let high = empty_high (decode t) z.storable.valid h p (sym m.benches ∙ e) in
          refused_leaves code.Height (ask (tight_set_of h) list) t (tight_height_refused t z.sound h list (inr high))

      module _ (p : h ≢ 0) (e : r.benches ≢ 0) where
        low : 1 ≤ h
        low = omega arith

        high : h ≤ heaviest (decode t)
        high = bench_low (decode t) z.storable.valid h (λ k. e (m.benches ∙ k))

        -- a list that is shorter than the set's words gives 8
        pub short_refused : length list < 2 * r.benches → Leaves (outcome (ask (tight_set_of h) list) t) (Err code.ListTooShort) t list
        short_refused f =
            refused_leaves code.ListTooShort (ask (tight_set_of h) list) t (tight_list_refused t z.sound h list low high (omega (arith, m.benches)))

        -- in any other the marked benches are the set
        pub set_told : (u : List ℕ) → 2 * r.benches ≤ length list → u ≡ in_list (marked s marks) list → Leaves (outcome (ask (tight_set_of h) list) t) (Ok (told.TightSet r.benches r.jobs)) t u
        unfolding tight_set_told
        set_told u f w =
            answered_leaves (tight_answered t z.sound h list low high (omega (arith, m.benches)) ∙ rw (w, m.set, m.benches, m.jobs))
