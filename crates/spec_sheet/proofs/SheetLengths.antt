-- The lines of a sheet, one after the other; how long fields, lines and the sheet are.
use Prim.Native.Nat.{ℕ, zero, suc, ◌+◌, ◌-◌, ◌*◌, ◌/◌, ◌^◌, ◌≤◌, ◌<◌}
use native.Mathlib.Omega.{arith}
use native.Mathlib.Decide.{dec_le}
use mathlib.Core.Path.{◌≡◌, refl, sym, ap, ◌∙◌}
use mathlib.Core.Bool.{cond}
use mathlib.Core.List.{List, [], ◌∷◌, ◌++◌, flat_map, append-nil}
use lib.Dec.{leb}
use lib.ListN.{length, take, drop, replicate, length-append, length-replicate, length-take, length-drop, drop_of_length-le}
use borrow.Author.Tests.{le-leb, lt-leb}
use Rattle.spec_lists.specs.Lists.{Each}
use Rattle.spec_text.specs.Numbers.{line_feed, space, digits}
use Rattle.spec_table.specs.Board.{Board, jobs_held, load}
use Rattle.spec_table.specs.Table.{Storable}
use Rattle.spec_sheet.specs.Sheet.{field, bench_head, more_head, line_with, lines_of, bench_lines, sheet, line_count, sheet_lines}
use Rattle.spec_lists.proofs.Elements.{in_each, each_take, each_drop}
use Rattle.spec_lists.proofs.Counting.{total_same, total_times, total_flat_map}
use Rattle.spec_text.proofs.Numbers.{digits_short}
use Rattle.spec_table.proofs.Loads.{benches_most, held_most, load_most}
use Rattle.spec_table.proofs.Held.{held_length}

-- a number whose digits fit fills its columns ..
pub field_length : (w n : ℕ) → length (digits n n) ≤ w → length (field w n) ≡ w
field_length w n h = simp (length-append, length-replicate) (omega arith)

-- .. as those of a number below the power of ten do
pub field_wide : (m n : ℕ) → n < 10 ^ suc m → length (field (suc m) n) ≡ suc m
field_wide m n h = field_length (suc m) n (digits_short m n n h)

-- "bench number in 3 columns, a blank, load in 4 columns"
pub head_length : (x n : ℕ) → x < 1000 → n < 10000 → length (bench_head x n) ≡ 8
head_length x n h g = omega (arith, length-append (field 3 x) (space ∷ field 4 n), field_wide 2 x h, field_wide 3 n g)

-- jobs "in 5 columns each"
fields_length : (js : List ℕ) → Each (λ j. j < 100000) js → length (flat_map (field 5) js) ≡ 5 * length js
unfolding flat_map
fields_length [] e = refl
fields_length (j ∷ js) e =
    omega (arith, length-append (field 5 j) (flat_map (field 5) js), field_wide 4 j e.0, fields_length js e.1)

-- "each line 68 characters and a line feed" ..
pub line_length : (head js : List ℕ) → length head ≡ 8 → Each (λ j. j < 100000) js → length js ≤ 12 → length (line_with head js) ≡ 69
line_length head js h e u =
    let fields = flat_map (field 5) js in
    let blanks = replicate (60 - 5 * length js) space in
    omega (
      arith,
      length-append (head ++ fields ++ blanks) (line_feed ∷ []),
      length-append (head ++ fields) blanks,
      length-append head fields,
      fields_length js e,
      length-replicate (60 - 5 * length js) space,
    )

-- .. as one with the first twelve of some jobs is
pub first_length : (head js : List ℕ) → length head ≡ 8 → Each (λ j. j < 100000) js → length (line_with head (take 12 js)) ≡ 69
first_length head js h e =
    line_length head (take 12 js) h (each_take (λ j. j < 100000) 12 js e) (omega (arith, length-take 12 js))

-- fuel that is enough does not show
lines_fuel : (k m : ℕ) (head js : List ℕ) → length js ≤ k → length js ≤ m → lines_of k head js ≡ lines_of m head js
lines_fuel zero zero head js h g = refl
lines_fuel zero (suc m) head [] h g = sym (append-nil (line_with head []))
lines_fuel zero (suc m) head (j ∷ js) h g = absurd (omega arith)
lines_fuel (suc k) zero head [] h g = append-nil (line_with head [])
lines_fuel (suc k) zero head (j ∷ js) h g = absurd (omega arith)
lines_fuel (suc k) (suc m) head js h g =
    let less = length-drop 12 js in
    ap (λ (l : List ℕ). line_with head (take 12 js) ++ cond (leb (length js) 12) [] l) (lines_fuel k m more_head (drop 12 js) (omega arith) (omega arith))

-- the lines of the jobs that are left behind a line, none without jobs ..
abbrev pub more_lines : List ℕ → List ℕ
more_lines [] = []
more_lines (j ∷ js) = lines_of (suc (length js)) more_head (j ∷ js)

-- .. and how many they are
abbrev pub more_count : List ℕ → ℕ
more_count js = (length js + 11) / 12

-- any fuel that is enough gives them
more_lines_lem : (k : ℕ) (js : List ℕ) → 1 ≤ length js → length js ≤ k → lines_of k more_head js ≡ more_lines js
more_lines_lem k [] l h = absurd (omega arith)
more_lines_lem k (j ∷ js) l h = lines_fuel k (suc (length js)) more_head (j ∷ js) h (omega arith)

-- lines are the first line, and those of the jobs behind it ..
pub lines_first : (k : ℕ) (head js : List ℕ) → length js ≤ k → lines_of k head js ≡ line_with head (take 12 js) ++ more_lines (drop 12 js)
lines_first zero head [] h = sym (append-nil (line_with head []))
lines_first zero head (j ∷ js) h = absurd (omega arith)
lines_first (suc k) head js h =
    let first : List ℕ = line_with head (take 12 js) in
    let less = length-drop 12 js in
    elim (dec_le (length js) 12) [
      | yes d ↦ rw (le-leb (length js) 12 d, drop_of_length-le js d)
      | no d ↦ rw (lt-leb (length js) 12 (omega arith)) (ap (λ (l : List ℕ). first ++ l) (more_lines_lem k (drop 12 js) (omega arith) (omega arith)))
    ]

-- .. and so are those behind a line
pub more_first : (js : List ℕ) → 1 ≤ length js → more_lines js ≡ line_with more_head (take 12 js) ++ more_lines (drop 12 js)
more_first [] l = absurd (omega arith)
more_first (j ∷ js) l = lines_first (suc (length js)) more_head (j ∷ js) (omega arith)

-- those behind a line are 69 characters each; n bounds their jobs ..
more_length : (n : ℕ) (js : List ℕ) → Each (λ j. j < 100000) js → length js ≤ n → length (more_lines js) ≡ 69 * more_count js
more_length zero [] e u = refl
more_length zero (j ∷ js) e u = absurd (omega arith)
more_length (suc n) [] e u = refl
more_length (suc n) (j ∷ js) e u =
    let less = length-drop 12 (j ∷ js) in
    omega (
      arith,
      ap length (more_first (j ∷ js) (omega arith)),
      length-append (line_with more_head (take 12 (j ∷ js))) (more_lines (drop 12 (j ∷ js))),
      first_length more_head (j ∷ js) refl e,
      more_length n (drop 12 (j ∷ js)) (each_drop (λ j. j < 100000) 12 (j ∷ js) e) (omega arith),
    )

-- .. and so are all lines of jobs
pub lines_length : (k : ℕ) (head js : List ℕ) → length head ≡ 8 → Each (λ j. j < 100000) js → length js ≤ k → length (lines_of k head js) ≡ 69 * line_count (length js)
lines_length k head js h e u =
    omega (
      arith,
      ap length (lines_first k head js u),
      length-append (line_with head (take 12 js)) (more_lines (drop 12 js)),
      first_length head js h e,
      more_length (length (drop 12 js)) (drop 12 js) (each_drop (λ j. j < 100000) 12 js e) (omega arith),
      length-drop 12 js,
    )

-- the lines of a bench are as many as its load takes
pub bench_length : (b : Board) → Storable b → (x : ℕ) → 1 ≤ x → x ≤ b.benches → length (bench_lines b x) ≡ 69 * line_count (load b.holders x)
unfolding bench_lines
bench_length b s x l u =
    lines_length (length js) (bench_head x n) js (head_length x n few (omega (arith, load_most b s x))) jobs (omega arith)
    ∙ ap (λ (k : ℕ). 69 * line_count k) (held_length 1 x b.holders)
  where
    n : ℕ
    n = load b.holders x

    js : List ℕ
    js = jobs_held 1 x b.holders

    few : x < 1000
    few = omega (arith, benches_most b s)

    jobs : Each (λ j. j < 100000) js
    jobs = in_each (λ j. j < 100000) js (λ j i. omega (arith, held_most b s x j l i))

-- the sheet has as many lines as its benches take
pub sheet_lines_lem : (b : Board) → Storable b → length (sheet b) ≡ 69 * sheet_lines b
unfolding sheet sheet_lines
sheet_lines_lem b s =
    total_flat_map length refl length-append (bench_lines b) b.benches
    ∙ total_same b.benches (λ x. length (bench_lines b x)) (λ x. 69 * line_count (load b.holders x)) (bench_length b s)
    ∙ total_times b.benches 69 (λ x. line_count (load b.holders x))
