-- The pass over the jobs in rising order: at each bench the job that is due, the next one that its chain leads to.
use Rattle.std.specs.Prelude.{ℕ, ◌+◌, ◌<◌, ◌≡◌, ◌⊎◌, ◌≢◌, List, map, length, get_or, set, Result, Ok, Err}
use Rattle.spec_lists.specs.Lists.{range}
use Rattle.spec_table.specs.Table.{most_benches, Entry, holder_in, decode, encode}
use Rattle.table_words.specs.Bytes.{layout_in}
use Rattle.table_size.specs.Sizes.{BenchIn, ByBench, SoundTable}
use Rattle.table_size.specs.Written.{with_heads}
use Rattle.table_size.specs.declared.Size.{Size}
use Rattle.table_board.specs.BoardView.{HoldsBoard, Loaded}
use Rattle.table_chains.specs.Chains.{pushed_from}
use Rattle.table_record_form.specs.Kinds.{kind_of, CountedTo}
use Rattle.table_record_form.specs.declared.Counted.{Counted}
use Rattle.table_record_form.specs.declared.Kind.TheVariants.{Vacant, Fitting, Unfit}
use Rattle.table_rising.specs.declared.Turn.{Turn}

-- the due jobs of benches 1 to B, as heads of chains
abbrev pub due_heads : Size → List ℕ → List ℕ
due_heads s due = map (λ x. get_or due x 0) (range 1 s.benches)

-- every due job fits a word
abbrev pub DueWords : Size → List ℕ → Type 0
DueWords s due = (x : ℕ) → BenchIn s x → get_or due x 0 < 65536

-- loads before job j is met: no bench has more than the jobs before it
pub record Before (s : Size) (j : ℕ) (loads : List ℕ) : Type 0 where
  pub long : length loads ≡ most_benches + 1
  pub below : (x : ℕ) → BenchIn s x → get_or loads x 0 < j

-- job j with the record e fits and was due at its holder: the next job on that chain, which fits a word, is due now,
-- and the holder has one job more
pub record Met (s : Size) (e : Entry) (j : ℕ) (due loads due₂ loads₂ : List ℕ) : Type 0 where
  pub fits : kind_of s.benches e ≡ Fitting
  pub in_turn : get_or due (holder_in e) 0 ≡ j
  pub next : due₂ ≡ set due (holder_in e) e.next
  pub word : e.next < 65536
  pub load : loads₂ ≡ set loads (holder_in e) (get_or loads (holder_in e) 0 + 1)

-- job j with the record e can't be met: the record does not fit, or another job is due at its holder
abbrev pub Unmet : Size → Entry → ℕ → List ℕ → Type 0
Unmet s e j due =
    (kind_of s.benches e ≡ Unfit) ⊎ ((kind_of s.benches e ≡ Fitting) × (get_or due (holder_in e) 0 ≢ j))

-- what is left of the due jobs and the loads after job j, by what is told of it: they stay where there is no such job,
-- and where it does not fit or is not due, and the pass ends
abbrev pub MetAs : Size → Entry → ℕ → List ℕ → List ℕ → List ℕ → List ℕ → Turn → Type 0
MetAs s e j due loads due₂ loads₂ Turn.Vacant = (kind_of s.benches e ≡ Vacant) × (due₂ ≡ due) × (loads₂ ≡ loads)
MetAs s e j due loads due₂ loads₂ Turn.Met = Met s e j due loads due₂ loads₂
MetAs s e j due loads due₂ loads₂ Turn.NotMet = (due₂ ≡ due) × (loads₂ ≡ loads) × Unmet s e j due

-- all jobs were met, n of which stand: pushed from the last down, from the jobs that are due now, they give the table's
-- own chains; all records fit; and at each bench its load was counted
pub record Passed (t : List ℕ) (s : Size) (due loads : List ℕ) (n : ℕ) : Type 0 where
  pub chains : pushed_from s.jobs (with_heads (layout_in t) (due_heads s due)) ≡ layout_in t
  pub records : CountedTo t s s.jobs n
  pub loaded : Loaded (decode t) loads

-- how many jobs were met: all, or so many of them, and their records are counted
abbrev pub ReachedAs : List ℕ → Size → List ℕ → List ℕ → Result ℕ Counted → Type 0
ReachedAs t s due loads (Ok n) = Passed t s due loads n
ReachedAs t s due loads (Err c) = CountedTo t s c.records c.jobs

-- no job is due: every chain came to its end
abbrev pub NoneDue : Size → List ℕ → Type 0
NoneDue s due = (x : ℕ) → BenchIn s x → get_or due x 0 ≡ 0

-- the pass got through: the table is sound, its bytes are those of its board, every chain rising, and the loads are its
-- benches'
pub record Rising (t : List ℕ) (s : Size) (loads : List ℕ) : Type 0 where
  pub bytes : t ≡ encode (decode t)
  pub sound : SoundTable t s
  pub loaded : Loaded (decode t) loads

-- a table of size s whose bytes are the encoding of the board that its records hold, every chain rising
pub record Encoded (t : List ℕ) (s : Size) : Type 0 where
  pub holds_board : HoldsBoard t s
  pub bytes : t ≡ encode (decode t)

-- what is met of such a table: all jobs, and none is due in the end
abbrev pub AllInTurn : Size → List ℕ → Result ℕ Counted → Type 0
AllInTurn s due (Ok n) = NoneDue s due
AllInTurn s due (Err c) = ⊥

-- the pass did not get through: the bytes are not the encoding of a board; the first `done` records are counted
pub record NotRising (t : List ℕ) (s : Size) (loads : List ℕ) (done count : ℕ) : Type 0 where
  pub other : Encoded t s → ⊥
  pub counted : CountedTo t s done count
  pub by_bench : ByBench s loads

-- what each end of the pass says
abbrev pub PassOf : List ℕ → Size → List ℕ → Result (Unit {0}) Counted → Type 0
PassOf t s loads (Ok u) = Rising t s loads
PassOf t s loads (Err c) = NotRising t s loads c.records c.jobs
