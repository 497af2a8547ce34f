-- Sizes within the limits, byte lengths that fit them, and the size of a table.
use Rattle.std.proofs.Common.{◌≡◌, ℕ, ◌+◌, ◌*◌, ◌%◌, ◌^◌, ◌<◌, ◌≤◌, Bool, true, false, ◌&&◌, T, ltb, List, length, get_or, replicate, Result, Ok, Err, sym, refl, ap, ◌∙◌, subst, arith, ltb→lt, lt→ltb}
use mathlib.Core.HLevel.{is_prop→PathP}
use native.Mathlib.Bridge.{le_prop}
use lib.ListN.{length-map, length-replicate}
use Rattle.spec_lists.specs.Lists.{within}
use Rattle.spec_table.specs.Table.{words, length_for, most_benches, most_jobs, sizes_fit, fits, layout, board_of, decode}
use Rattle.spec_lists.proofs.Tests.{true→T, T→true, never→false, left, right, both, tests_same, within_low, within_high, within_both}
use Rattle.spec_lists.proofs.Elements.{each_replicate, each_get_d}
use Rattle.spec_table.proofs.Words.{within_fit}
use Rattle.spec_table.proofs.Places.{length_words, misfit, short_refused, fits_sized, fits_heads, fits_entries}
use Rattle.table_words.specs.Bytes.{layout_in}
use Rattle.table_refusals.specs.declared.Refusal.{Refusal}
use Rattle.table_refusals.specs.declared.Refusal.TheVariants.{Sizes}
use Rattle.table_size.specs.Sizes.{Limits, SizeOf, JobIn, BenchIn, ByBench, FitIf, SizingOf, SizeFor, SizeIn, SoundTable}
use Rattle.table_size.specs.declared.Size.{Size}

-- a size is within the limits
pub limits_of : (s : Size) → Limits s
limits_of s =
    record {
      benches_least = s.benches_least;
      benches_most = s.benches_most;
      jobs_least = s.jobs_least;
      jobs_most = s.jobs_most;
    }

-- the size where the sizes fit is in document 01's numbers 0 and the sizes, or refusal 1
pub sizing_of : {fit : Bool} {benches jobs : ℕ} {r : Result Size Refusal} → FitIf fit benches jobs r → SizingOf fit benches jobs r
sizing_of {fit} {benches} {jobs} {r = Ok s} f = record { value = f; numbers = rw (T→true fit f.passed, f.same_benches, f.same_jobs) }
sizing_of {fit} {benches} {jobs} {r = Err r} f = record { value = f; numbers = rw (f.failed, f.refusal) }

-- sizes of the same numbers are the same
pub same_size : (s u : Size) → s.benches ≡ u.benches → s.jobs ≡ u.jobs → s ≡ u
same_size s u b j =
    λ i. record {
      benches = b i;
      jobs = j i;
      benches_least = is_prop→PathP (λ k. 1 ≤ b k) (λ k. le_prop) s.benches_least u.benches_least i;
      benches_most = is_prop→PathP (λ k. b k ≤ most_benches) (λ k. le_prop) s.benches_most u.benches_most i;
      jobs_least = is_prop→PathP (λ k. 1 ≤ j k) (λ k. le_prop) s.jobs_least u.jobs_least i;
      jobs_most = is_prop→PathP (λ k. j k ≤ most_jobs) (λ k. le_prop) s.jobs_most u.jobs_most i;
    }

-- what the test and the numbers make is one value alone: a size or refusal 1
pub sizing_one : {fit : Bool} {benches jobs : ℕ} {r q : Result Size Refusal} → SizingOf fit benches jobs r → SizingOf fit benches jobs q → r ≡ q
sizing_one {r = Ok s} {q = Ok u} k l = ap Ok (same_size s u (k.value.same_benches ∙ sym l.value.same_benches) (k.value.same_jobs ∙ sym l.value.same_jobs))
sizing_one {fit} {r = Ok s} {q = Err e} k l = absurd (subst T l.value.failed k.value.passed)
sizing_one {fit} {r = Err e} {q = Ok u} k l = absurd (subst T k.value.failed l.value.passed)
sizing_one {r = Err e} {q = Err d} k l = ap Err (k.value.refusal ∙ sym l.value.refusal)

-- numbers of benches and jobs

-- numbers that pass the two tests are a size
pass_size : (benches jobs : ℕ) → T (within 1 most_benches benches) → T (within 1 most_jobs jobs) → Size
pass_size benches jobs b j =
    record {
      benches = benches;
      jobs = jobs;
      benches_least = within_low 1 most_benches benches b;
      benches_most = within_high 1 most_benches benches b;
      jobs_least = within_low 1 most_jobs jobs j;
      jobs_most = within_high 1 most_jobs jobs j;
    }

-- a size's numbers are not refused ..
pub sizing_fit : (s : Size) → SizeFor s.benches s.jobs (Ok s)
sizing_fit s =
    let b = within_both 1 most_benches s.benches s.benches_least s.benches_most in
    let j = within_both 1 most_jobs s.jobs s.jobs_least s.jobs_most in
    sizing_of (record { passed = both (within 1 most_benches s.benches) (within 1 most_jobs s.jobs) b j; same_benches = refl; same_jobs = refl })

-- .. those of no size are ..
pub sizing_misfit : (benches jobs : ℕ) → ((s : Size) → s.benches ≡ benches → s.jobs ≡ jobs → ⊥) → SizeFor benches jobs (Err Sizes)
unfolding pass_size
sizing_misfit benches jobs f =
    let b : Bool = within 1 most_benches benches in
    let j : Bool = within 1 most_jobs jobs in
    sizing_of (record { failed = never→false (b && j) (λ t. f (pass_size benches jobs (left b j t) (right b j t)) refl refl); refusal = refl })

-- .. and a size that is not refused has these numbers
pub fit_sizing : (benches jobs : ℕ) (s : Size) → SizeFor benches jobs (Ok s) → Limits s × (s.benches ≡ benches) × (s.jobs ≡ jobs)
fit_sizing benches jobs s e = (limits_of s, e.value.same_benches, e.value.same_jobs)

-- a byte length for numbers of benches and jobs

-- the length that belongs to a size fits it: it is even and 8 or more
pub sizes_fit_lem : (len benches jobs : ℕ) (s : Size) → SizeFor benches jobs (Ok s) → len ≡ length_for s.benches s.jobs → sizes_fit len benches jobs ≡ true
sizes_fit_lem len benches jobs s e l =
    let f = fit_sizing benches jobs s e in
    let n : len ≡ length_for benches jobs = omega arith in
    let b = within_both 1 most_benches benches (omega arith) (omega arith) in
    let j = within_both 1 most_jobs jobs (omega arith) (omega arith) in
    rw n (T→true (sizes_fit (length_for benches jobs) benches jobs) (within_fit benches jobs b j))

-- no other length fits a size
pub sizes_other : (len benches jobs : ℕ) (s : Size) → SizeFor benches jobs (Ok s) → (len ≡ length_for s.benches s.jobs → ⊥) → sizes_fit len benches jobs ≡ false
sizes_other len benches jobs s e d = let f = fit_sizing benches jobs s e in misfit len benches jobs (λ z. d (omega arith))

-- and no length fits numbers that are refused
pub sizes_refused : (len benches jobs : ℕ) {r : Refusal} → SizeFor benches jobs (Err r) → sizes_fit len benches jobs ≡ false
sizes_refused len benches jobs e =
    misfit len benches jobs (λ z. subst T e.value.failed (both (within 1 most_benches benches) (within 1 most_jobs jobs) z.benches_within z.jobs_within))

-- a table

-- the size in words 0 and 1 is the size of a table that fits
pub size_of : (t : List ℕ) (s : Size) → T (fits t) → (layout_in t).benches ≡ s.benches → (layout_in t).jobs ≡ s.jobs → SizeOf t s
unfolding decode board_of
size_of t s f b j =
    let z = fits_sized t f in
    record {
      limits = limits_of s;
      fit = f;
      long = omega arith;
      benches = b;
      jobs = j;
      board_benches = b;
      board_jobs = simp length-map (fits_entries t f ∙ j);
    }

-- a size that a table is not refused is the table's size
pub fit_size : (t : List ℕ) (s : Size) → SizeIn t (Ok s) → SizeOf t s
fit_size t s e = size_of t s e.value.passed (sym e.value.same_benches) (sym e.value.same_jobs)

-- a table that is refused a size does not fit
pub misfit_size : (t : List ℕ) {r : Refusal} → SizeIn t (Err r) → fits t ≡ false
misfit_size t e = e.value.failed

-- a table of fewer than 8 bytes has no size ..
pub short_misfit : (t : List ℕ) → length t < 8 → SizeIn t (Err Sizes)
unfolding fits layout
short_misfit t l = sizing_of (record { failed = short_refused (length t) (get_or (words t) 0 0) (get_or (words t) 1 0) l; refusal = refl })

-- .. nor has one whose words 0 and 1 are refused ..
pub words_misfit : (t : List ℕ) {r : Refusal} → SizeFor (get_or (words t) 0 0) (get_or (words t) 1 0) (Err r) → SizeIn t (Err r)
unfolding fits layout
words_misfit t e =
    sizing_of (record { failed = sizes_refused (length t) (get_or (words t) 0 0) (get_or (words t) 1 0) e; refusal = e.value.refusal })

-- .. or one whose length is not theirs ..
pub length_misfit : (t : List ℕ) (s : Size) → SizeFor (get_or (words t) 0 0) (get_or (words t) 1 0) (Ok s) → (length t ≡ length_for s.benches s.jobs → ⊥) → SizeIn t (Err Sizes)
unfolding fits layout
length_misfit t s e d =
    sizing_of (record { failed = sizes_other (length t) (get_or (words t) 0 0) (get_or (words t) 1 0) s e d; refusal = refl })

-- .. and any other has the size in words 0 and 1
pub size_fit : (t : List ℕ) (s : Size) → SizeFor (get_or (words t) 0 0) (get_or (words t) 1 0) (Ok s) → length t ≡ length_for s.benches s.jobs → SizeIn t (Ok s)
unfolding fits layout
size_fit t s e l =
    let f = sizes_fit_lem (length t) (get_or (words t) 0 0) (get_or (words t) 1 0) s e l in
    sizing_of (record { passed = true→T (fits t) f; same_benches = e.value.same_benches; same_jobs = e.value.same_jobs })

-- a table that keeps its length and words 0 and 1 keeps its size
pub size_kept : (t u : List ℕ) (s : Size) → SizeOf t s → length u ≡ length t → get_or (words u) 0 0 ≡ get_or (words t) 0 0 → get_or (words u) 1 0 ≡ get_or (words t) 1 0 → SizeOf u s
unfolding fits layout
size_kept t u s z l b j = size_of u s (rw (l, b, j) z.fit) (b ∙ z.benches) (j ∙ z.jobs)

-- a head for each bench, a record for each job number, and four words more
pub heads_long : (t : List ℕ) (s : Size) → SizeOf t s → length (layout_in t).heads ≡ s.benches
heads_long t s z = fits_heads t z.fit ∙ z.benches

pub entries_long : (t : List ℕ) (s : Size) → SizeOf t s → length (layout_in t).entries ≡ s.jobs
entries_long t s z = fits_entries t z.fit ∙ z.jobs

pub words_long : (t : List ℕ) (s : Size) → SizeOf t s → length (words t) ≡ 4 + s.benches + 4 * s.jobs
words_long t s z = omega (arith, length_words t)

-- one less than a number, 0 wrapped, is below a limit exactly if the number is 1 to the limit
pub wrapped_within : (n x r : ℕ) → n < 2 ^ 64 → r < 2 ^ 64 → (r + 1) % 2 ^ 64 ≡ x → ltb r n ≡ within 1 n x
wrapped_within n x r m l e =
    tests_same (ltb r n) (within 1 n x) (λ t. let h = ltb→lt r n t in within_both 1 n x (omega arith) (omega arith), λ t. let h = within_low 1 n x t in let k = within_high 1 n x t in lt→ltb r n (omega arith))

-- numbers that pass the tests of a size ..
pub job_in : (s : Size) (j : ℕ) → T (within 1 s.jobs j) → JobIn s j
job_in s j w = record { least = within_low 1 s.jobs j w; most = within_high 1 s.jobs j w }

pub bench_in : (s : Size) (x : ℕ) → T (within 1 s.benches x) → BenchIn s x
bench_in s x w = record { least = within_low 1 s.benches x w; most = within_high 1 s.benches x w }

-- .. or of a table's board
pub board_job : {t : List ℕ} {s : Size} (j : ℕ) → SizeOf t s → T (within 1 (length (decode t).named) j) → JobIn s j
board_job {t} {s} j z w = job_in s j (subst (λ (n : ℕ). T (within 1 n j)) z.board_jobs w)

pub board_bench : {t : List ℕ} {s : Size} (x : ℕ) → SizeOf t s → T (within 1 (decode t).benches x) → BenchIn s x
board_bench {t} {s} x z w = bench_in s x (subst (λ (n : ℕ). T (within 1 n x)) z.board_benches w)

-- zeros are numbers by bench
pub zeros_by_bench : (s : Size) → ByBench s (replicate (most_benches + 1) 0)
zeros_by_bench s =
    let n : ℕ = most_benches + 1 in
    record {
      long = length-replicate {A = ℕ} n 0;
      beyond = λ x h. each_get_d (λ m. m ≡ 0) (replicate n 0) x 0 refl (each_replicate (λ m. m ≡ 0) n 0 refl);
    }

module _ {t : List ℕ} {s : Size} (z : SoundTable t s) where
  -- a sound table's numbers of jobs and benches are its board's
  pub job_of_board : (j : ℕ) {h : Bool} → h ≡ within 1 s.jobs j → h ≡ within 1 (length (decode t).named) j
  job_of_board j e = rw z.size.board_jobs e

  pub bench_of_board : (x : ℕ) {h : Bool} → h ≡ within 1 s.benches x → h ≡ within 1 (decode t).benches x
  bench_of_board x e = rw z.size.board_benches e
