-- Sizes within the limits, and the size of a table.
use Rattle.std.specs.Prelude.{◌≡◌, ℕ, ◌+◌, ◌<◌, ◌≤◌, Bool, false, cond, T, List, [], ◌∷◌, ◌&&◌, length, slice_index, Result, Ok, Err}
use Rattle.spec_lists.specs.Lists.{within}
use Rattle.spec_table.specs.Table.{most_benches, most_jobs, length_for, fits, sound, decode, Storable}
use Rattle.spec_calls.specs.Answers.{refusal_number, sizes}
use Rattle.table_refusals.specs.Refusals.{refusal_of}
use Rattle.table_refusals.specs.declared.Refusal.{Refusal}
use Rattle.table_refusals.specs.declared.Refusal.TheVariants.{Sizes}
use Rattle.table_words.specs.Bytes.{layout_in}
use Rattle.table_size.specs.declared.Size.{Size}

-- "Benches are numbered 1 to 500, jobs 1 to 4,000"
pub record Limits (s : Size) : Type 0 where
  pub benches_least : 1 ≤ s.benches
  pub benches_most : s.benches ≤ most_benches
  pub jobs_least : 1 ≤ s.jobs
  pub jobs_most : s.jobs ≤ most_jobs

-- the test passes, and s is the size of these numbers
pub record Fits (fit : Bool) (benches jobs : ℕ) (s : Size) : Type 0 where
  pub passed : T fit
  pub same_benches : s.benches ≡ benches
  pub same_jobs : s.jobs ≡ jobs

-- the test does not pass, and r is refusal 1
pub record Misfits (fit : Bool) (r : Refusal) : Type 0 where
  pub failed : fit ≡ false
  pub refusal : r ≡ Sizes

-- the size where the test passes, and refusal 1 where it does not
abbrev pub FitIf : Bool → ℕ → ℕ → Result Size Refusal → Type 0
FitIf fit benches jobs (Ok s) = Fits fit benches jobs s
FitIf fit benches jobs (Err r) = Misfits fit r

-- each case in document 01's numbers: 0 and the sizes, or the refusal's
abbrev pub sizing_numbers : Result Size Refusal → List ℕ
sizing_numbers (Ok s) = 0 ∷ s.benches ∷ s.jobs ∷ []
sizing_numbers (Err r) = refusal_number (refusal_of r) ∷ []

-- r is the size where the sizes fit, and in document 01's numbers 0 and the sizes, or refusal 1
pub record SizingOf (fit : Bool) (benches jobs : ℕ) (r : Result Size Refusal) : Type 0 where
  pub value : FitIf fit benches jobs r
  pub numbers : sizing_numbers r ≡ cond fit (0 ∷ benches ∷ jobs ∷ []) (refusal_number sizes ∷ [])

-- r is what numbers of benches and jobs are as a size: the size, where they are within the limits
abbrev pub SizeFor : ℕ → ℕ → Result Size Refusal → Type 0
SizeFor benches jobs r = SizingOf (within 1 most_benches benches && within 1 most_jobs jobs) benches jobs r

-- r is the size of a table: "every other call reads B and J there", in words 0 and 1; refusal 1 where they do not fit
abbrev pub SizeIn : List ℕ → Result Size Refusal → Type 0
SizeIn t r = SizingOf (fits t) (layout_in t).benches (layout_in t).jobs r

-- s is the size of the table t, whose sizes fit
pub record SizeOf (t : List ℕ) (s : Size) : Type 0 where
  pub limits : Limits s
  pub fit : T (fits t)
  pub long : length t ≡ length_for s.benches s.jobs
  pub benches : (layout_in t).benches ≡ s.benches
  pub jobs : (layout_in t).jobs ≡ s.jobs
  pub board_benches : (decode t).benches ≡ s.benches
  pub board_jobs : length (decode t).named ≡ s.jobs

-- j is a job number of 1 to J
pub record JobIn (s : Size) (j : ℕ) : Type 0 where
  pub least : 1 ≤ j
  pub most : j ≤ s.jobs

-- x is a bench of 1 to B
pub record BenchIn (s : Size) (x : ℕ) : Type 0 where
  pub least : 1 ≤ x
  pub most : x ≤ s.benches

-- numbers by bench, 0 beyond the last bench
pub record ByBench (s : Size) (numbers : List ℕ) : Type 0 where
  pub long : length numbers ≡ most_benches + 1
  pub beyond : (x : ℕ) → s.benches < x → slice_index numbers x ≡ 0

-- a sound table of size s
pub record SoundTable (t : List ℕ) (s : Size) : Type 0 where
  pub size : SizeOf t s
  pub sound : T (sound t)
  pub storable : Storable (decode t)
