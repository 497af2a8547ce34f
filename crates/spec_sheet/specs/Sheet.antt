-- 02, request 01: the wall sheet of a board.
use Rattle.std.specs.Prelude.{ℕ, zero, suc, ◌+◌, ◌-◌, ◌*◌, ◌/◌, cond, leb, length, take, drop, replicate}
use mathlib.Core.List.{List, [], ◌∷◌, ◌++◌, flat_map}
use Rattle.spec_lists.specs.Lists.{range, total}
use Rattle.spec_text.specs.Numbers.{line_feed, space, digits}
use Rattle.spec_table.specs.Board.{Board, jobs_held, load}

-- a number in w columns, "right-aligned"
abbrev pub field : ℕ → ℕ → List ℕ
field w n = replicate (w - length (digits n n)) space ++ digits n n

-- what a line begins with: "bench number in 3 columns, a blank, load in 4 columns" ..
abbrev pub bench_head : ℕ → ℕ → List ℕ
bench_head x n = field 3 x ++ (space ∷ field 4 n)

-- .. or, where more jobs of the same bench follow, "8 blanks"
abbrev pub more_head : List ℕ
more_head = replicate 8 space

-- a line: "then up to twelve jobs in 5 columns each, [..] the remainder blanks", and a line feed
abbrev pub line_with : List ℕ → List ℕ → List ℕ
line_with head js = head ++ flat_map (field 5) js ++ replicate (60 - 5 * length js) space ++ (line_feed ∷ [])

-- the lines of jobs, twelve on each: "when there are more than twelve, the next line starts with 8 blanks". The fuel
-- is the number of jobs
abbrev pub lines_of : ℕ → List ℕ → List ℕ → List ℕ
lines_of zero head js = line_with head js
lines_of (suc k) head js =
    let more = lines_of k more_head (drop 12 js) in line_with head (take 12 js) ++ cond (leb (length js) 12) [] more

-- the lines of bench x: "a bench's jobs stand in rising order", "a bench without jobs has one line"
unfoldable pub bench_lines : Board → ℕ → List ℕ
bench_lines b x =
    let js = jobs_held 1 x b.holders in lines_of (length js) (bench_head x (load b.holders x)) js

-- the sheet: "benches rise"
unfoldable pub sheet : Board → List ℕ
sheet b = flat_map (bench_lines b) (range 1 b.benches)

-- the lines that n jobs of one bench take: one, and one for each further twelve begun
abbrev pub line_count : ℕ → ℕ
line_count n = 1 + (n - 1) / 12

-- the lines of a sheet
unfoldable pub sheet_lines : Board → ℕ
sheet_lines b = total b.benches (λ x. line_count (load b.holders x))
