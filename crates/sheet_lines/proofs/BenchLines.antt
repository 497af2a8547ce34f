-- The lines of a bench: the first behind its number and load, the others behind 8 blanks.
use Prim.Native.Nat.{ℕ, ◌+◌, ◌*◌, ◌≤◌}
use native.Mathlib.Omega.{arith}
use mathlib.Core.Path.{◌≡◌, refl, sym, ap, ◌∙◌}
use mathlib.Core.List.{List, []}
use lib.ListN.{length, take, drop, length-drop}
use Rattle.spec_sheet.specs.Sheet.{more_head, line_with, lines_of, line_count}
use Rattle.spec_sheet.proofs.SheetLengths.{first_length, more_lines, more_count, lines_first, more_first}
use Rattle.sheet_fields.specs.Page.{with_text}
use Rattle.sheet_fields.proofs.Page.{text_none, text_then}
use Rattle.sheet_jobs.specs.JobLists.{ListFrom}
use Rattle.sheet_lines.specs.WrittenLines.{LineWritten, PageRoom, BenchWritten}
use Rattle.sheet_lines.proofs.ListedJobs.{list_small, list_none, list_some}

-- some lines behind the first are written: what is left of the list makes the whole
pub record LinesLeft (next page₀ page : List ℕ) (end₀ end j : ℕ) (js : List ℕ) : Type 0 where
  pub left : List ℕ
  pub from : ListFrom next j left
  pub whole : with_text page end (more_lines left) ≡ with_text page₀ end₀ (more_lines js)
  pub ends : end + 69 * more_count left ≡ end₀ + 69 * more_count js

-- one more is written
pub lines_turn : {next page₀ page page' js : List ℕ} {end₀ end j r : ℕ} → (j ≡ 0 → ⊥) → end ≤ length page → LinesLeft next page₀ page end₀ end j js → LineWritten next page page' more_head end j r → LinesLeft next page₀ page' end₀ (end + 69) r js
lines_turn {next} {page₀} {page} {page'} {js} {end₀} {end} {j} {r} n h c w =
    let some = list_some c.from n in
    let line : List ℕ = line_with more_head (take 12 c.left) in
    let more : List ℕ = more_lines (drop 12 c.left) in
    let place : end + 69 ≡ end + length line = omega (arith, first_length more_head c.left refl (list_small c.from)) in
    record {
      left = drop 12 c.left;
      from = w.rest c.left c.from;
      whole = text_then page end line more h (w.line c.left c.from) place ∙ ap (with_text page end) (sym (more_first c.left some)) ∙ c.whole;
      ends = omega (arith, length-drop 12 c.left, c.ends);
    }

-- the first line is written, and some behind it
module _ {next page page₀ page' head : List ℕ} {at first j₀ end j : ℕ} (w : LineWritten next page page₀ head at first j₀) (c : (js : List ℕ) → ListFrom next j₀ js → LinesLeft next page₀ page' (at + 69) end j js) where
  -- what is left of the list's jobs
  jobs_left : {js : List ℕ} → ListFrom next first js → LinesLeft next page₀ page' (at + 69) end j (drop 12 js)
  jobs_left {js} l = c (drop 12 js) (w.rest js l)

  module _ (room : PageRoom next page at first) where
    -- as long as j is a job, the page has room for a line
    pub left_room : (j ≡ 0 → ⊥) → end + 69 ≤ length page
    left_room n =
        let left = jobs_left room.from in
        omega (arith, left.ends, list_some left.from n, length-drop 12 room.jobs, room.fits)

  -- no job is left: all lines are written
  pub lines_end : length head ≡ 8 → at ≤ length page → j ≡ 0 → BenchWritten next page page' head at first end
  lines_end u h none = record { lines = lines; end = ends }
    where
      left_none : (js : List ℕ) (l : ListFrom next first js) → (jobs_left l).left ≡ []
      left_none js l = list_none (jobs_left l).from none

      ends : (js : List ℕ) → ListFrom next first js → end ≡ at + 69 * line_count (length js)
      ends js l = omega (arith, ap length (left_none js l), length-drop 12 js, (jobs_left l).ends)

      lines : (js : List ℕ) → ListFrom next first js → page' ≡ with_text page at (lines_of (length js) head js)
      lines js l =
          let line : List ℕ = line_with head (take 12 js) in
          let more : List ℕ = more_lines (drop 12 js) in
          let place : at + 69 ≡ at + length line = omega (arith, first_length head js u (list_small l)) in
          sym (text_none page' end) ∙ ap (λ (l : List ℕ). with_text page' end (more_lines l)) (sym (left_none js l)) ∙ (jobs_left l).whole
          ∙ text_then page at line more h (w.line js l) place ∙ ap (with_text page at) (sym (lines_first (length js) head js (omega arith)))
