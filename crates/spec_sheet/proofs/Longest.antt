-- How long a sheet can be.
use Prim.Native.Nat.{ℕ, zero, suc, ◌+◌, ◌-◌, ◌*◌, ◌/◌, ◌≤◌}
use native.Mathlib.Omega.{arith}
use mathlib.Core.Path.{◌≡◌, sym, ap, subst, ◌∙◌}
use mathlib.Core.Logic.{◌≢◌}
use mathlib.Core.List.{List, [], ◌∷◌}
use lib.Dec.{T}
use lib.ListN.{length, replicate, length-replicate}
use Rattle.spec_lists.specs.Lists.{within, total}
use Rattle.spec_table.specs.Board.{Board, load, names_fit, may_hold, Shares}
use Rattle.spec_table.specs.Table.{most_benches, most_jobs, paired, Storable}
use Rattle.spec_sheet.specs.Sheet.{sheet, line_count, sheet_lines}
use Rattle.spec_lists.proofs.Elements.{each_replicate}
use Rattle.spec_lists.proofs.Counting.{bit_other, count_replicate, total_each, total_but_one, total_count_le}
use Rattle.spec_table.proofs.Loads.{benches_most, jobs_most}
use Rattle.spec_sheet.proofs.SheetLengths.{sheet_lines_lem}

-- benches that share jobs take a line each, and together at most the further lines of one bench with all of them
lines_most : (n : ℕ) (loads : ℕ → ℕ) → total n (λ x. line_count (loads x)) ≤ n + (total n loads - 1) / 12
lines_most zero loads = omega arith
lines_most (suc n) loads = omega (arith, lines_most n loads)

-- 500 benches with 4,000 jobs: at most 833 lines of 69 characters
pub sheet_most : (b : Board) → Storable b → length (sheet b) ≤ 57477
unfolding sheet_lines
sheet_most b s =
    omega (
      arith,
      sheet_lines_lem b s,
      lines_most b.benches (load b.holders),
      total_count_le b.benches b.holders,
      jobs_most b s,
      benches_most b s,
    )

-- a board of that many benches and jobs: the jobs name benches 1 and 2, and bench 1 holds all of them
pub on_one_bench : ℕ → ℕ → Board
on_one_bench benches jobs =
    record { benches = benches; named = replicate jobs (1 ∷ 2 ∷ []); holders = replicate jobs 1 }

-- jobs with the same names, all held by a bench that may hold them
shares_replicate : (n : ℕ) (names : List ℕ) (h : ℕ) → T (may_hold names h) → Shares (replicate n names) (replicate n h)
shares_replicate zero names h t = tt
shares_replicate (suc n) names h t = (t, shares_replicate n names h t)

-- with 500 benches it is a board that a table can hold ..
one_bench_storable : (n : ℕ) → T (within 1 most_jobs n) → Storable (on_one_bench most_benches n)
unfolding on_one_bench
one_bench_storable n w =
    record {
      valid = record {
        names = each_replicate (λ names. T (names_fit most_benches names)) n (1 ∷ 2 ∷ []) tt;
        shares = shares_replicate n (1 ∷ 2 ∷ []) 1 tt;
      };
      benches = tt;
      jobs = subst (λ (k : ℕ). T (within 1 most_jobs k)) (sym (length-replicate n (1 ∷ 2 ∷ []))) w;
      pairs = each_replicate (λ names. T (paired names)) n (1 ∷ 2 ∷ []) tt;
    }

-- .. and each bench but the first takes one line
one_bench_lines : (m n : ℕ) → sheet_lines (on_one_bench (suc m) n) ≡ m + line_count n
unfolding sheet_lines on_one_bench
one_bench_lines m n =
    omega (
      arith,
      total_but_one (suc m) (λ x. line_count (load (replicate n 1) x)) (λ x. 1) 1 (omega arith) (omega arith) (λ y l u d. ap line_count (none y d)),
      total_each (suc m) 1,
      count_replicate 1 n 1,
    )
  where
    none : (y : ℕ) → y ≢ 1 → load (replicate n 1) y ≡ 0
    none y d = count_replicate y n 1 ∙ ap (λ (k : ℕ). n * k) (bit_other 1 y (λ e. d (sym e))) ∙ omega arith

-- 4,000 jobs on one of 500 benches have a sheet of that length
pub sheet_longest : Storable (on_one_bench most_benches most_jobs) × (length (sheet (on_one_bench most_benches most_jobs)) ≡ 57477)
sheet_longest =
    let s = one_bench_storable most_jobs tt in
    (s, sheet_lines_lem (on_one_bench most_benches most_jobs) s ∙ ap (λ (k : ℕ). 69 * k) (one_bench_lines 499 most_jobs))
