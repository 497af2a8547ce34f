-- A line: what it begins with, and its jobs in their columns, one cell after the other.
use Prim.Native.Nat.{ℕ, zero, suc, ◌+◌, ◌-◌, ◌*◌, ◌≤◌, ◌<◌}
use native.Mathlib.Omega.{arith}
use mathlib.Core.Path.{◌≡◌, refl, sym, ap, subst, ◌∙◌}
use mathlib.Core.List.{List, [], ◌∷◌, ◌++◌, flat_map, append_assoc}
use lib.ListN.{length, take, drop, set, replicate, length-append, replicate-append-replicate}
use lib.Seq.{drop-drop}
use Rattle.spec_text.specs.Numbers.{line_feed, space}
use Rattle.spec_table.specs.Table.{most_jobs}
use Rattle.spec_lists.proofs.Tests.{within_low}
use Rattle.spec_sheet.specs.Sheet.{field, bench_head, more_head, line_with}
use Rattle.spec_sheet.proofs.SheetLengths.{field_wide}
use Rattle.sheet_fields.specs.Page.{with_text}
use Rattle.sheet_fields.proofs.Page.{text_byte, text_then}
use Rattle.sheet_fields.proofs.Columns.{blank_and_4}
use Rattle.sheet_jobs.specs.JobLists.{ListFrom, list_end, list_job}
use Rattle.sheet_lines.specs.WrittenLines.{cell_text, job_after, LineWritten}
use Rattle.sheet_lines.proofs.ListedJobs.{cell_job, list_most, list_after}

-- the end of a line: n cells, with jobs as long as there are some, and the line feed
abbrev line_end : ℕ → List ℕ → List ℕ
line_end zero js = line_feed ∷ []
line_end (suc n) [] = replicate 5 space ++ line_end n []
line_end (suc n) (j ∷ js) = field 5 j ++ line_end n js

-- cells without jobs are blanks
end_blank : (n : ℕ) → line_end n [] ≡ replicate (5 * n) space ++ (line_feed ∷ [])
end_blank zero = refl
end_blank (suc n) =
    let e : 5 + 5 * n ≡ 5 * suc n = omega arith in
    ap (λ (l : List ℕ). replicate 5 space ++ l) (end_blank n)
    ∙ sym (append_assoc (replicate 5 space) (replicate (5 * n) space) (line_feed ∷ []))
    ∙ ap (λ (l : List ℕ). l ++ (line_feed ∷ [])) (replicate-append-replicate 5 (5 * n) space ∙ ap (λ (k : ℕ). replicate k space) e)

-- the jobs' columns, and blanks behind them
end_jobs : (n : ℕ) (js : List ℕ) → line_end n js ≡ flat_map (field 5) (take n js) ++ replicate (5 * n - 5 * length (take n js)) space ++ (line_feed ∷ [])
unfolding flat_map
end_jobs zero js = refl
end_jobs (suc n) [] =
    let e : 5 * suc n ≡ 5 * suc n - 5 * 0 = omega arith in
    end_blank (suc n) ∙ ap (λ (k : ℕ). replicate k space ++ (line_feed ∷ [])) e
end_jobs (suc n) (j ∷ js) =
    let fields : List ℕ = flat_map (field 5) (take n js) in
    let e : 5 * n - 5 * length (take n js) ≡ 5 * suc n - 5 * length (j ∷ take n js) = omega arith in
    ap (λ (l : List ℕ). field 5 j ++ l) (end_jobs n js)
    ∙ ap (λ (k : ℕ). field 5 j ++ (fields ++ replicate k space ++ (line_feed ∷ []))) e
    ∙ simp append_assoc

-- twelve cells are a line without its head
end_line : (js : List ℕ) → line_end 12 js ≡ line_with [] (take 12 js)
end_line js = end_jobs 12 js

-- a list's first job stands in the first cell
end_first : {next js : List ℕ} {j : ℕ} (n : ℕ) → ListFrom next j js → line_end (suc n) js ≡ cell_text j ++ line_end n (drop 1 js)
end_first n list_end = refl
end_first n (list_job {j} {js} w l) = ap (λ (l : List ℕ). l ++ line_end n js) (sym (cell_job j (within_low 1 most_jobs j w)))

-- a cell has 5 columns
cell_length : (j : ℕ) → j ≤ most_jobs → length (cell_text j) ≡ 5
cell_length zero h = refl
cell_length (suc i) h = field_wide 4 (suc i) (omega arith)

-- some cells are written: what is left of the list makes the whole line
pub record Cells (next page₀ page : List ℕ) (at cells j : ℕ) (js : List ℕ) : Type 0 where
  pub left : List ℕ
  pub from : ListFrom next j left
  pub behind : drop (12 - cells) left ≡ drop 12 js
  pub whole : with_text page (at + 5 * cells) (line_end (12 - cells) left) ≡ with_text page₀ at (line_end 12 js)

-- none
pub cells_start : {next js : List ℕ} {j : ℕ} (page : List ℕ) (at : ℕ) → ListFrom next j js → Cells next page page at 0 j js
cells_start {next} {js} {j} page at l =
    let e : at + 5 * 0 ≡ at = omega arith in
    record { left = js; from = l; behind = refl; whole = ap (λ (k : ℕ). with_text page k (line_end 12 js)) e }

-- one more
pub cells_turn : {next page₀ page page' js : List ℕ} {at cells j : ℕ} → cells < 12 → at + 5 * cells ≤ length page → Cells next page₀ page at cells j js → page' ≡ with_text page (at + 5 * cells) (cell_text j) → Cells next page₀ page' at (cells + 1) (job_after next j) js
cells_turn {next} {page₀} {page} {page'} {js} {at} {cells} {j} h r c e =
    let n : ℕ = 12 - (cells + 1) in
    let p : ℕ = at + 5 * cells in
    let more : 12 - cells ≡ suc n = omega arith in
    let one : 1 + n ≡ 12 - cells = omega arith in
    let place : at + 5 * (cells + 1) ≡ p + length (cell_text j) = omega (arith, cell_length j (list_most c.from)) in
    record {
      left = drop 1 c.left;
      from = list_after c.from;
      behind = drop-drop n 1 c.left ∙ ap (λ (k : ℕ). drop k c.left) one ∙ c.behind;
      whole =
          text_then page p (cell_text j) (line_end n (drop 1 c.left)) r e place
          ∙ ap (with_text page p) (sym (end_first n c.from) ∙ ap (λ (k : ℕ). line_end k c.left) (sym more))
          ∙ c.whole;
    }

-- all of them, and the line feed
pub cells_end : {next page₀ page : List ℕ} {at cells first j : ℕ} → 12 ≤ cells → cells ≤ 12 → at + 60 < length page → ((js : List ℕ) → ListFrom next first js → Cells next page₀ page at cells j js) → LineWritten next page₀ (set page (at + 60) line_feed) [] at first j
cells_end {next} {page₀} {page} {at} {cells} {first} {j} h u r c =
    let e : cells ≡ 12 = omega arith in
    record {
      line = λ js l. text_byte page (at + 60) line_feed r ∙ (rw e at (c js l).whole) ∙ ap (with_text page₀ at) (end_line js);
      rest = λ js l. subst (ListFrom next j) (rw e at (c js l).behind) (c js l).from;
    }

-- a line in two pieces: its 8 columns in front, and the jobs behind them
line_behind : {next q page' : List ℕ} {at j r : ℕ} (page a : List ℕ) → length a ≡ 8 → at ≤ length page → q ≡ with_text page at a → LineWritten next q page' [] (at + 8) j r → LineWritten next page page' a at j r
line_behind {next} {q} {page'} {at} {j} {r} page a u h e w =
    let eight : at + 8 ≡ at + length a = omega arith in
    record {
      line = λ js l. w.line js l ∙ text_then page at a (line_with [] (take 12 js)) h e eight ∙ ap (with_text page at) (simp append_assoc);
      rest = w.rest;
    }

-- the first of a bench: its number, and its load, which has a blank before it
pub first_written : {next page p q page' : List ℕ} {at x load j r : ℕ} → x < 1000 → load < 10000 → at ≤ length page → p ≡ with_text page at (field 3 x) → q ≡ with_text p (at + 3) (field 5 load) → LineWritten next q page' [] (at + 8) j r → LineWritten next page page' (bench_head x load) at j r
first_written {next} {page} {p} {q} {page'} {at} {x} {load} {j} {r} few light h d e w =
    let three : at + 3 ≡ at + length (field 3 x) = omega (arith, field_wide 2 x few) in
    let eight : length (field 3 x ++ field 5 load) ≡ 8 = omega (arith, length-append (field 3 x) (field 5 load), field_wide 2 x few, field_wide 4 load (omega arith)) in
    rw (blank_and_4 load light) (line_behind page (field 3 x ++ field 5 load) eight h (e ∙ text_then page at (field 3 x) (field 5 load) h d three) w)

-- another: 8 blanks
pub more_written : {next page q page' : List ℕ} {at j r : ℕ} → at ≤ length page → q ≡ with_text page at (replicate 8 space) → LineWritten next q page' [] (at + 8) j r → LineWritten next page page' more_head at j r
more_written {next} {page} h e w = line_behind page (replicate 8 space) refl h e w
