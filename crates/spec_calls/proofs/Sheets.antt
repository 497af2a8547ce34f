-- The wall sheet's call: what it answers and leaves, and when it is refused.
use Prim.Native.Nat.{ℕ, ◌≤◌, ◌<◌}
use native.Mathlib.Omega.{arith}
use mathlib.Core.Path.{◌≡◌, refl, sym, ap, ◌∙◌}
use mathlib.Core.Logic.{◌↔◌}
use mathlib.Core.List.{List}
use lib.Dec.{T}
use lib.ListN.{length, take, drop, length-append, length-drop}
use lib.Seq.{take_at, drop_at}
use borrow.Author.Tests.{ltb-false, lt-ltb, le-ltb}
use Rattle.spec_lists.specs.Lists.{In}
use Rattle.spec_table.specs.Board.{stands, holder_of}
use Rattle.spec_table.specs.Table.{sound, decode}
use Rattle.spec_sheet.specs.Sheet.{sheet}
use Rattle.spec_sheet.specs.Reading.{read_sheet}
use Rattle.spec_calls.specs.Answers.{is_refused, refused, said, page_too_short, sheet_is}
use Rattle.spec_calls.specs.Calls.{ask, wall_sheet, question_conditions, refusals, answering, asked, accepted, outcome, sheet_told}
use Rattle.spec_table.proofs.Sound.{sound_storable}
use Rattle.spec_sheet.proofs.Reading.{sheet_read}
use Rattle.spec_calls.proofs.Refusals.{accepted_by, accepted_sound}
use Rattle.spec_calls.proofs.ChainOrder.{sound_outcome}

module _ (t : List ℕ) (s : T (sound t)) (page : List ℕ) where
  -- a page that is not shorter than the sheet gets it ..
  pub sheet_answered : length (sheet (decode t)) ≤ length page → outcome (ask wall_sheet page) t ≡ answering t (sheet_told (sheet (decode t)) page)
  unfolding question_conditions accepted asked
  sheet_answered h = sound_outcome (ask wall_sheet page) tt t s ∙ rw (le-ltb (length page) (length (sheet (decode t))) h)

  -- .. and "11 [..], where the lent page is shorter than the sheet"
  pub sheet_refused : length page < length (sheet (decode t)) → (outcome (ask wall_sheet page) t).answer ≡ refused page_too_short
  unfolding question_conditions accepted asked
  sheet_refused h = ap (λ o. o.answer) (sound_outcome (ask wall_sheet page) tt t s) ∙ rw (lt-ltb (length page) (length (sheet (decode t))) h)

-- any bytes, and any page
module _ (t page : List ℕ) where
  -- what an answered length n says of the page, which is `left` now: "The result is its length; bytes after it are
  -- untouched"
  pub record SheetAnswer (n : ℕ) (left : List ℕ) : Type 0 where
    pub fits : n ≤ length page
    pub text : take n left ≡ sheet (decode t)
    pub beyond : drop n left ≡ drop n page
    pub long : length left ≡ length page

  pub sheet_says : (n : ℕ) → (outcome (ask wall_sheet page) t).answer ≡ said (sheet_is n) → SheetAnswer n (outcome (ask wall_sheet page) t).lent
  unfolding refusals question_conditions accepted asked sheet_told
  sheet_says n e =
      let text = sheet (decode t) in
      let a = accepted_by (ask wall_sheet page) t (ap is_refused e) in
      let d : said (sheet_is (length text)) ≡ said (sheet_is n) = ap (λ o. o.answer) (sym a.1) ∙ e in
      let same : length text ≡ n = cc in
      let h = ltb-false (length page) (length text) a.0.1.1.0 in
      let rest = drop (length text) page in
      rw (sym same, ap (λ o. o.lent) a.1)
      (record { fits = h; text = take_at text rest (length text) refl; beyond = drop_at text rest (length text) refl; long = length-append text rest ∙ omega (arith, length-drop (length text) page) })

  -- "The page read back by columns names each job's holder exactly": what the call wrote, cut at its answer
  pub page_names_holders : (n : ℕ) → (outcome (ask wall_sheet page) t).answer ≡ said (sheet_is n) → (j x : ℕ) → In (j, x) (read_sheet (take n (outcome (ask wall_sheet page) t).lent)) ↔ (T (stands (decode t) j) × (holder_of (decode t) j ≡ x))
  page_names_holders n e j x =
      let s = accepted_sound (ask wall_sheet page) tt t (ap is_refused e) in
      rw (sheet_says n e).text (sheet_read (decode t) (sound_storable t s) j x)
