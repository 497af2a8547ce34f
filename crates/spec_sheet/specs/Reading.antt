-- 02, request 01: "The page read back by columns". From the page's bytes alone.
use Rattle.std.specs.Prelude.{ℕ, zero, suc, ◌/◌, cond, List, [], ◌∷◌, ◌++◌, map, eqb, length, take, drop}
use Rattle.std.proofs.Math.Option.{Option, none, some}
use Rattle.spec_text.specs.Numbers.{space, number}

-- columns without the blanks that they begin with
abbrev pub unpadded : List ℕ → List ℕ
unpadded [] = []
unpadded (c ∷ l) = let r = unpadded l in cond (eqb c space) r (c ∷ l)

-- the number in some columns; none where they are blank, or have no readable number
abbrev pub read_field : List ℕ → Option ℕ
read_field columns = number (unpadded columns)

-- a number in front of others, if there is one
abbrev pub in_front : Option ℕ → List ℕ → List ℕ
in_front none ns = ns
in_front (some n) ns = n ∷ ns

-- the jobs in n fields of 5 columns
abbrev pub read_jobs : ℕ → List ℕ → List ℕ
read_jobs zero l = []
read_jobs (suc n) l = in_front (read_field (take 5 l)) (read_jobs n (drop 5 l))

-- the bench of a line: the number in its first 3 columns; where there is none, the bench before it
abbrev pub read_bench : ℕ → List ℕ → ℕ
read_bench before l = elim (read_field (take 3 l)) [ none ↦ before | some x ↦ x ]

-- the jobs with their benches in n lines of 68 characters and a line feed; a line's jobs begin in column 9
abbrev pub read_lines : ℕ → ℕ → List ℕ → List (ℕ × ℕ)
read_lines zero before l = []
read_lines (suc n) before l =
    let x = read_bench before l in map (λ j. (j, x)) (read_jobs 12 (drop 8 l)) ++ read_lines n x (drop 69 l)

-- the jobs of a page, each with its bench
unfoldable pub read_sheet : List ℕ → List (ℕ × ℕ)
read_sheet page = read_lines (length page / 69) 0 page
