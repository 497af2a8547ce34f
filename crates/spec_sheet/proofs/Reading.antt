-- The page read back: a field is its number, a line its jobs, the sheet each standing job with its holder, once.
use Prim.Native.Nat.{ℕ, zero, suc, ◌+◌, ◌-◌, ◌*◌, ◌/◌, ◌≤◌, ◌<◌}
use Prim.Native.Char.{code}
use native.Mathlib.Omega.{arith}
use mathlib.Core.Path.{◌≡◌, refl, sym, ap, subst, ◌∙◌}
use mathlib.Core.Logic.{◌↔◌}
use mathlib.Core.List.{List, [], ◌∷◌, ◌++◌, map, flat_map, append_assoc, map-append}
use mathlib.Core.Option.{some}
use lib.Dec.{T, eqb}
use lib.ListN.{length, take, drop, replicate, length-append, length-take, length-drop, take-append-drop}
use lib.Seq.{take_at, drop_at}
use borrow.Author.Tests.{ne_eqb}
use Rattle.spec_lists.specs.Lists.{bit, within, count, range, all, Each, In}
use Rattle.spec_text.specs.Numbers.{line_feed, space, digits, digit, number}
use Rattle.spec_table.specs.Board.{Board, holder_of, stands, jobs_held, load}
use Rattle.spec_table.specs.Table.{Storable}
use Rattle.spec_sheet.specs.Sheet.{field, bench_head, more_head, line_with, lines_of, bench_lines, sheet, line_count}
use Rattle.spec_sheet.specs.Reading.{unpadded, read_field, read_jobs, read_bench, read_lines, read_sheet}
use Rattle.spec_lists.proofs.Tests.{left, within_low}
use Rattle.spec_lists.proofs.Elements.{each_in, in_each, each_take, each_drop, in_map, map_in, in_flat_map, flat_map_in}
use Rattle.spec_lists.proofs.NumberLists.{range_low, bench_listed, listed_bench}
use Rattle.spec_lists.proofs.Counting.{count_append, total_same, total_flat_map, total_within}
use Rattle.spec_text.proofs.Numbers.{written, number_exact}
use Rattle.spec_table.proofs.Named.{stands_by_holder}
use Rattle.spec_table.proofs.Loads.{benches_most, held_most, load_most}
use Rattle.spec_table.proofs.Held.{held_length, held_once, held_exact}
use Rattle.spec_sheet.proofs.SheetLengths.{field_wide, head_length, line_length, more_lines, more_count, lines_first, more_first, bench_length, sheet_lines_lem}

-- blanks in front do not show ..
unpadded_blanks : (w : ℕ) (l : List ℕ) → unpadded (replicate w space ++ l) ≡ unpadded l
unpadded_blanks zero l = refl
unpadded_blanks (suc w) l = unpadded_blanks w l

-- .. and digits are no blanks
unpadded_digits : (l : List ℕ) → T (all digit l) → unpadded l ≡ l
unpadded_digits [] t = refl
unpadded_digits (c ∷ l) t =
    rw (ne_eqb c space (λ e. omega (arith, within_low (code "0") (code "9") c (left (digit c) (all digit l) t))))

-- a field is read as its number
pub read_field_lem : (w n : ℕ) → n < 65536 → read_field (field w n) ≡ some n
read_field_lem w n h =
    let ds = digits n n in
    ap number (unpadded_blanks (w - length ds) ds ∙ unpadded_digits ds (written n n (omega arith)).only)
    ∙ (number_exact ds n).1 (h, refl)

-- m fields of blanks have no jobs ..
read_none : (m : ℕ) (rest : List ℕ) → read_jobs m (replicate (5 * m) space ++ rest) ≡ []
unfolding number
read_none zero rest = refl
read_none (suc m) rest = ap (λ (k : ℕ). read_jobs (suc m) (replicate k space ++ rest)) five_more ∙ read_none m rest
  where
    five_more : 5 * suc m ≡ suc (suc (suc (suc (suc (5 * m)))))
    five_more = omega arith

-- .. and before them the jobs' fields have the jobs
read_jobs_lem : (n m : ℕ) (js rest : List ℕ) → Each (λ j. j < 65536) js → n ≡ length js + m → read_jobs n (flat_map (field 5) js ++ (replicate (5 * m) space ++ rest)) ≡ js
unfolding flat_map
read_jobs_lem n m [] rest e d = let q : n ≡ m = omega arith in rw q (read_none m rest)
read_jobs_lem zero m (j ∷ js) rest e d = absurd (omega arith)
read_jobs_lem (suc n) m (j ∷ js) rest e d =
    rw (append_assoc (field 5 j) fields behind, take_at (field 5 j) (fields ++ behind) 5 wide, drop_at (field 5 j) (fields ++ behind) 5 wide, read_field_lem 5 j e.0)
    (ap (λ (l : List ℕ). j ∷ l) (read_jobs_lem n m js rest e.1 (omega arith)))
  where
    fields : List ℕ
    fields = flat_map (field 5) js

    behind : List ℕ
    behind = replicate (5 * m) space ++ rest

    wide : length (field 5 j) ≡ 5
    wide = field_wide 4 j (omega (arith, e.0))

-- jobs with their bench
abbrev with_bench : ℕ → List ℕ → List (ℕ × ℕ)
with_bench x js = map (λ j. (j, x)) js

-- a line's first columns are a bench of its own, or blanks for the bench before
record LineBegins (before x : ℕ) (head : List ℕ) : Type 0 where
  long : length head ≡ 8
  bench : (l : List ℕ) → read_bench before (head ++ l) ≡ x

-- .. as "bench number in 3 columns" is
own_begins : (before x n : ℕ) → x < 1000 → n < 10000 → LineBegins before x (bench_head x n)
own_begins before x n h g = record { long = head_length x n h g; bench = reads }
  where
    reads : (l : List ℕ) → read_bench before (bench_head x n ++ l) ≡ x
    reads l =
        rw (append_assoc (field 3 x) (space ∷ field 4 n) l, read_bench, take_at (field 3 x) ((space ∷ field 4 n) ++ l) 3 (field_wide 2 x h), read_field_lem 3 x (omega arith))

-- .. and "8 blanks" are
more_begins : (x : ℕ) → LineBegins x x more_head
unfolding number
more_begins x = record { long = refl; bench = λ l. refl }

-- a line has its jobs, and the lines after it go on with its bench
read_line : (n before x : ℕ) (head js rest : List ℕ) → LineBegins before x head → Each (λ j. j < 65536) js → length js ≤ 12 → read_lines (suc n) before (line_with head js ++ rest) ≡ with_bench x js ++ read_lines n x rest
read_line n before x head js rest g e u = λ i. with_bench (bench i) (jobs i) ++ read_lines n (bench i) (others i)
  where
    line : List ℕ
    line = line_with head js ++ rest

    fields : List ℕ
    fields = flat_map (field 5) js

    blanks : List ℕ
    blanks = replicate (60 - 5 * length js) space

    behind : List ℕ
    behind = fields ++ (blanks ++ (line_feed ∷ rest))

    split : line ≡ head ++ behind
    split = simp append_assoc

    bench : read_bench before line ≡ x
    bench = ap (read_bench before) split ∙ g.bench behind

    jobs : read_jobs 12 (drop 8 line) ≡ js
    jobs =
        let left : 60 - 5 * length js ≡ 5 * (12 - length js) = omega arith in
        ap (λ (l : List ℕ). read_jobs 12 (drop 8 l)) split
        ∙ ap (read_jobs 12) (drop_at head behind 8 g.long ∙ ap (λ (k : ℕ). fields ++ (replicate k space ++ (line_feed ∷ rest))) left)
        ∙ read_jobs_lem 12 (12 - length js) js (line_feed ∷ rest) e (omega arith)

    short : Each (λ j. j < 100000) js
    short = in_each (λ j. j < 100000) js (λ j i. omega (arith, each_in (λ j. j < 65536) j js e i))

    others : drop 69 line ≡ rest
    others = drop_at (line_with head js) rest 69 (line_length head js g.long short u)

-- so do a line of the first twelve and the lines behind it, if those have the jobs that are left
read_first : (m n before x : ℕ) (head js rest : List ℕ) → LineBegins before x head → Each (λ j. j < 65536) js → read_lines m x (more_lines (drop 12 js) ++ rest) ≡ with_bench x (drop 12 js) ++ read_lines n x rest → read_lines (suc m) before ((line_with head (take 12 js) ++ more_lines (drop 12 js)) ++ rest) ≡ with_bench x js ++ read_lines n x rest
read_first m n before x head js rest g e behind =
    ap (read_lines (suc m) before) (append_assoc (line_with head (take 12 js)) (more_lines (drop 12 js)) rest)
    ∙ read_line m before x head (take 12 js) (more_lines (drop 12 js) ++ rest) g (each_take (λ j. j < 65536) 12 js e) (omega (arith, length-take 12 js))
    ∙ ap (λ (l : List (ℕ × ℕ)). with_bench x (take 12 js) ++ l) behind
    ∙ sym (append_assoc (with_bench x (take 12 js)) (with_bench x (drop 12 js)) (read_lines n x rest))
    ∙ ap (λ (l : List (ℕ × ℕ)). l ++ read_lines n x rest) (sym (map-append (λ j. (j, x)) (take 12 js) (drop 12 js)) ∙ ap (with_bench x) (take-append-drop 12 js))

-- the lines behind a line have the jobs that are left ..
read_more : (m n x : ℕ) (js rest : List ℕ) → Each (λ j. j < 65536) js → m ≡ more_count js + n → read_lines m x (more_lines js ++ rest) ≡ with_bench x js ++ read_lines n x rest
read_more zero n x [] rest e d = let q : n ≡ 0 = omega arith in rw q
read_more zero n x (j ∷ js) rest e d = absurd (omega arith)
read_more (suc m) n x [] rest e d = let q : n ≡ suc m = omega arith in rw q
read_more (suc m) n x (j ∷ js) rest e d =
    ap (λ (l : List ℕ). read_lines (suc m) x (l ++ rest)) (more_first (j ∷ js) (omega arith))
    ∙ read_first m n x x more_head (j ∷ js) rest (more_begins x) e
    (read_more m n x (drop 12 (j ∷ js)) rest (each_drop (λ j. j < 65536) 12 (j ∷ js) e) (omega (arith, length-drop 12 (j ∷ js))))

-- .. so the lines of a bench have its jobs, and the lines after them go on with it
read_lines_lem : (k m n before x : ℕ) (head js rest : List ℕ) → LineBegins before x head → Each (λ j. j < 65536) js → length js ≤ k → m ≡ line_count (length js) + n → read_lines m before (lines_of k head js ++ rest) ≡ with_bench x js ++ read_lines n x rest
read_lines_lem k zero n before x head js rest g e u d = absurd (omega arith)
read_lines_lem k (suc m) n before x head js rest g e u d =
    ap (λ (l : List ℕ). read_lines (suc m) before (l ++ rest)) (lines_first k head js u)
    ∙ read_first m n before x head js rest g e
    (read_more m n x (drop 12 js) rest (each_drop (λ j. j < 65536) 12 js e) (omega (arith, length-drop 12 js)))

module _ (b : Board) (s : Storable b) where
  -- the jobs that bench x holds
  abbrev held : ℕ → List ℕ
  held x = jobs_held 1 x b.holders

  -- the lines of bench x on a page
  read_bench_lem : (m n before x : ℕ) (rest : List ℕ) → 1 ≤ x → x ≤ b.benches → m ≡ line_count (load b.holders x) + n → read_lines m before (bench_lines b x ++ rest) ≡ with_bench x (held x) ++ read_lines n x rest
  unfolding bench_lines
  read_bench_lem m n before x rest l u d =
      read_lines_lem (length (held x)) m n before x (bench_head x load_x) (held x) rest
      (own_begins before x load_x (omega (arith, benches_most b s)) (omega (arith, load_most b s x)))
      (in_each (λ j. j < 65536) (held x) (λ j i. omega (arith, held_most b s x j l i)))
      (omega arith)
      (d ∙ ap (λ (k : ℕ). line_count k + n) (sym (held_length 1 x b.holders)))
    where
      load_x : ℕ
      load_x = load b.holders x

  -- the lines of the benches from i on, n of them
  read_benches : (n i m before : ℕ) → 1 ≤ i → i + n ≤ suc b.benches → 69 * m ≡ length (flat_map (bench_lines b) (range i n)) → read_lines m before (flat_map (bench_lines b) (range i n)) ≡ flat_map (λ x. with_bench x (held x)) (range i n)
  unfolding flat_map
  read_benches zero i m before l u d = let q : m ≡ 0 = omega arith in rw q
  read_benches (suc n) i m before l u d =
      read_bench_lem m rest before i (flat_map (bench_lines b) (range (suc i) n)) l (omega arith) (omega (arith, long))
      ∙ ap (λ (k : List (ℕ × ℕ)). with_bench i (held i) ++ k) (read_benches n (suc i) rest i (omega arith) (omega arith) (omega (arith, long)))
    where
      own : ℕ
      own = line_count (load b.holders i)

      rest : ℕ
      rest = m - own

      long : 69 * m ≡ 69 * own + length (flat_map (bench_lines b) (range (suc i) n))
      long = omega (arith, d, length-append (bench_lines b i) (flat_map (bench_lines b) (range (suc i) n)), bench_length b s i l (omega arith))

  -- the page read back: bench after bench, the jobs that it holds
  pub read_sheet_lem : read_sheet (sheet b) ≡ flat_map (λ x. map (λ j. (j, x)) (jobs_held 1 x b.holders)) (range 1 b.benches)
  unfolding read_sheet sheet
  read_sheet_lem = read_benches b.benches 1 (length (sheet b) / 69) 0 (omega arith) (omega arith) (omega (arith, sheet_lines_lem b s))

-- "The page read back by columns names each job's holder exactly"
pub sheet_read : (b : Board) → Storable b → (j x : ℕ) → In (j, x) (read_sheet (sheet b)) ↔ (T (stands b j) × (holder_of b j ≡ x))
sheet_read b s j x = rw (read_sheet_lem b s) (forth, back)
  where
    B : ℕ
    B = b.benches

    listed : ℕ → List (ℕ × ℕ)
    listed y = with_bench y (held b s y)

    stood : stands b j ≡ within 1 B (holder_of b j)
    stood = stands_by_holder b s.valid j

    forth : In (j, x) (flat_map listed (range 1 B)) → T (stands b j) × (holder_of b j ≡ x)
    forth i =
        let f = flat_map_in listed (j, x) (range 1 B) i in
        let m = map_in (λ k. (k, f.0)) (j, x) (held b s f.0) f.2 in
        let same_job : j ≡ m.0 = ap (λ p. p.0) m.2 in
        let same_bench : x ≡ f.0 = ap (λ p. p.1) m.2 in
        let h : holder_of b j ≡ f.0 = ap (holder_of b) same_job ∙ (held_exact m.0 f.0 b.holders (range_low f.0 1 B f.1)).0 m.1 in
        (subst T (sym stood) (subst (λ (y : ℕ). T (within 1 B y)) (sym h) (listed_bench B f.0 f.1)), h ∙ sym same_bench)

    back : T (stands b j) × (holder_of b j ≡ x) → In (j, x) (flat_map listed (range 1 B))
    back p =
        let w : T (within 1 B x) = subst (λ (y : ℕ). T (within 1 B y)) p.1 (subst T stood p.0) in
        in_flat_map listed (j, x) x (range 1 B) (bench_listed B x w)
        (in_map (λ k. (k, x)) j (held b s x) ((held_exact j x b.holders (within_low 1 B x w)).1 p.1))

-- it names each standing job once, and no other
pub sheet_once : (b : Board) → Storable b → (j : ℕ) → count j (map (λ p. p.0) (read_sheet (sheet b))) ≡ bit (stands b j)
sheet_once b s j =
    ap names (read_sheet_lem b s)
    ∙ total_flat_map names refl (λ k l. ap (count j) (map-append (λ p. p.0) k l) ∙ count_append j (map (λ p. p.0) k) (map (λ p. p.0) l)) listed b.benches
    ∙ total_same b.benches (λ x. names (listed x)) (λ x. bit (eqb (holder_of b j) x)) (λ x l u. ap (count j) (jobs x (held b s x)) ∙ held_once j x b.holders l)
    ∙ total_within b.benches (holder_of b j)
    ∙ ap bit (sym (stands_by_holder b s.valid j))
  where
    listed : ℕ → List (ℕ × ℕ)
    listed x = with_bench x (held b s x)

    names : List (ℕ × ℕ) → ℕ
    names l = count j (map (λ p. p.0) l)

    jobs : (x : ℕ) (l : List ℕ) → map (λ p. p.0) (with_bench x l) ≡ l
    jobs x [] = refl
    jobs x (k ∷ l) = ap (λ (m : List ℕ). k ∷ m) (jobs x l)
