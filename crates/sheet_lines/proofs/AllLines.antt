-- The lines of all benches: how long they are, and written one bench after the other.
use Prim.Native.Nat.{ℕ, suc, ◌+◌, ◌-◌, ◌*◌, ◌≤◌, ◌<◌}
use native.Mathlib.Omega.{arith}
use native.Mathlib.Numerals.{add-one}
use mathlib.Core.Path.{◌≡◌, sym, ap, ◌∙◌}
use mathlib.Core.List.{List, [], ◌++◌, flat_map}
use lib.Dec.{T}
use lib.ListN.{length, get_or, take, drop, length-append}
use Rattle.std.proofs.lemmas.List.{get_or-take, get_or-drop}
use Rattle.spec_lists.specs.Lists.{within, range, total}
use Rattle.spec_lists.proofs.Tests.{within_high, within_both}
use Rattle.spec_lists.proofs.Counting.{total_same}
use Rattle.spec_table.specs.Board.{Board, jobs_held, load}
use Rattle.spec_table.specs.Table.{most_benches, most_jobs}
use Rattle.spec_table.proofs.Loads.{load_most}
use Rattle.spec_table.proofs.Held.{held_length}
use Rattle.spec_sheet.specs.Sheet.{bench_head, lines_of, bench_lines, sheet, line_count, sheet_lines}
use Rattle.spec_sheet.proofs.SheetLengths.{bench_length, sheet_lines_lem}
use Rattle.table_size.specs.declared.Size.{Size}
use Rattle.sheet_fields.specs.Page.{with_text}
use Rattle.sheet_fields.proofs.Page.{text_none, text_then}
use Rattle.sheet_lines.specs.WrittenLines.{PageRoom, BenchWritten, LoadedBoard, LengthOf, Sheeted, SheetWritten}

-- the lines of benches 1 to n by their loads
abbrev pub lines_to : List ℕ → ℕ → ℕ
lines_to loads n = total n (λ x. line_count (get_or loads x 0))

module _ {b : Board} {s : Size} {loads : List ℕ} (z : LoadedBoard b s loads) where
  -- there are at most 500 benches ..
  pub benches_few : s.benches ≤ most_benches
  benches_few = omega (arith, z.benches, within_high 1 most_benches b.benches z.storable.benches)

  -- .. the array has the load of each ..
  load_is_lem : (x : ℕ) → 1 ≤ x → x ≤ s.benches → get_or loads x 0 ≡ load b.holders x
  load_is_lem x l h = z.loaded.bench x l (omega (arith, benches_few))

  -- .. which is at most 4,000
  pub load_few : (x : ℕ) → 1 ≤ x → x ≤ s.benches → get_or loads x 0 ≤ most_jobs
  load_few x l h = omega (arith, load_is_lem x l h, load_most b z.storable x)

-- the loads from bench 1 on, read at a place counted from 0
pub load_at : (loads : List ℕ) (n i : ℕ) → i < n → get_or (take n (drop 1 loads)) i 0 ≡ get_or loads (i + 1) 0
load_at loads n i h = let e : 1 + i ≡ i + 1 = omega arith in get_or-take n (drop 1 loads) i 0 h ∙ get_or-drop 1 loads i 0 ∙ ap (λ k. get_or loads k 0) e

-- a line more for each bench, and for each further twelve jobs that it holds
pub lines_next : (loads : List ℕ) (n lines r : ℕ) → lines ≡ lines_to loads n → r ≡ line_count (get_or loads (n + 1) 0) → lines + r ≡ lines_to loads (n + 1)
lines_next loads n lines r e d = rw (add-one n) (omega (arith, e, rw (add-one n) at d))

-- 69 characters a line
pub measured : {s : Size} {loads : List ℕ} (lines : ℕ) → lines ≡ lines_to loads s.benches → LengthOf s loads (69 * lines)
unfolding sheet_lines
measured {s} {loads} lines e b z =
    let same = total_same b.benches (λ x. line_count (get_or loads x 0)) (λ x. line_count (load b.holders x)) (λ x l h. ap line_count (load_is_lem z x l (omega (arith, z.benches)))) in
    omega (arith, sheet_lines_lem b z.storable, same, ap (lines_to loads) z.benches)

-- the lines of the benches from x on
abbrev lines_from : Board → ℕ → List ℕ
lines_from b x = flat_map (bench_lines b) (range x (suc b.benches - x))

-- those of bench x, and of the benches behind it
from_next : (b : Board) (x : ℕ) → x ≤ b.benches → lines_from b x ≡ bench_lines b x ++ lines_from b (x + 1)
unfolding flat_map
from_next b x h = let e : suc b.benches - x ≡ suc (suc b.benches - suc x) = omega arith in rw (e, add-one x)

-- none behind the last
from_last : (b : Board) (x : ℕ) → b.benches < x → lines_from b x ≡ []
unfolding flat_map
from_last b x h = let e : suc b.benches - x ≡ 0 = omega arith in rw e

-- the lines of the benches before x are written: with those of the others they make the sheet
pub record BenchesLeft (b : Board) (page₀ page : List ℕ) (at x : ℕ) : Type 0 where
  pub whole : with_text page at (lines_from b x) ≡ with_text page₀ 0 (sheet b)
  pub ends : at + length (lines_from b x) ≡ length (sheet b)

-- none
pub sheet_start : (b : Board) (page : List ℕ) → BenchesLeft b page page 0 1
unfolding sheet
sheet_start b page =
    let one : suc b.benches - 1 ≡ b.benches = omega arith in
    let e : lines_from b 1 ≡ sheet b = ap (λ (n : ℕ). flat_map (bench_lines b) (range 1 n)) one in
    record { whole = ap (with_text page 0) e; ends = omega (arith, ap length e) }

module _ {b : Board} {s : Size} {loads head next : List ℕ} (z : Sheeted b s loads head next) (x : ℕ) (l : 1 ≤ x) (h : x ≤ s.benches) where
  -- bench x is one of the board's
  own_bench : T (within 1 b.benches x)
  own_bench = within_both 1 b.benches x l (omega (arith, z.board.benches))

  -- the jobs that it holds ..
  jobs : List ℕ
  jobs = jobs_held 1 x b.holders

  -- .. and how long its lines are
  lines_long : length (bench_lines b x) ≡ 69 * line_count (length jobs)
  unfolding jobs
  lines_long =
      bench_length b z.board.storable x l (omega (arith, z.board.benches))
      ∙ ap (λ (n : ℕ). 69 * line_count n) (sym (held_length 1 x b.holders))

  module _ {page₀ page : List ℕ} {at : ℕ} (c : BenchesLeft b page₀ page at x) where
    -- a page with room for the sheet has room for the bench's lines
    pub bench_room : length (sheet b) ≤ length page → PageRoom next page at (get_or head x 0)
    unfolding jobs
    bench_room u =
        record {
          jobs = jobs;
          from = z.lists.held x own_bench;
          fits = omega (arith, c.ends, ap length (from_next b x (omega (arith, z.board.benches))), length-append (bench_lines b x) (lines_from b (x + 1)), lines_long);
        }

    -- one bench more
    pub bench_turn : {page' : List ℕ} {r : ℕ} → at ≤ length page → BenchWritten next page page' (bench_head x (get_or loads x 0)) at (get_or head x 0) r → BenchesLeft b page₀ page' r (x + 1)
    unfolding jobs bench_lines
    bench_turn {page'} {r} u w =
        let first : List ℕ = bench_lines b x in
        let more : List ℕ = lines_from b (x + 1) in
        let from = z.lists.held x own_bench in
        let lines = from_next b x (omega (arith, z.board.benches)) in
        let written : page' ≡ with_text page at first = w.lines jobs from ∙ ap (λ (n : ℕ). with_text page at (lines_of (length jobs) (bench_head x n) jobs)) (load_is_lem z.board x l h) in
        let place : r ≡ at + length first = w.end jobs from ∙ ap (λ (n : ℕ). at + n) (sym lines_long) in
        record {
          whole = text_then page at first more u written place ∙ ap (with_text page at) (sym lines) ∙ c.whole;
          ends = omega (arith, place, ap length lines, length-append first more, c.ends);
        }

-- all of them
pub sheet_end : {s : Size} {loads head next page₀ page : List ℕ} {at x : ℕ} → s.benches < x → ((b : Board) → Sheeted b s loads head next → BenchesLeft b page₀ page at x) → SheetWritten s loads head next page₀ page
sheet_end {s} {loads} {head} {next} {page₀} {page} {at} {x} h c b z =
    sym (text_none page at) ∙ ap (with_text page at) (sym (from_last b x (omega (arith, z.board.benches)))) ∙ (c b z).whole
