-- The layout with one part of it written anew.
use Rattle.std.specs.Prelude.{◌≡◌, ℕ, zero, suc, ◌<◌, List, replicate, slice_index, slice_set}
use Rattle.table_size.specs.declared.Size.{Size}
use Rattle.spec_lists.specs.Lists.{nth, update}
use Rattle.table_size.specs.Sizes.{SizeOf, BenchIn, ByBench}
use Rattle.spec_table.specs.Table.{Entry, Layout, vacant}
use Rattle.table_words.specs.Bytes.{layout_in}

-- job j's record
abbrev pub record_in : List ℕ → ℕ → Entry
record_in t j = nth (layout_in t).entries j vacant

-- j is the first job on bench x's chain
pub record HeadOf (t : List ℕ) (x j : ℕ) : Type 0 where
  pub head : j ≡ nth (layout_in t).heads x 0
  pub small : j < 65536

-- at each bench the first job on its chain
pub record HeadsOf (t : List ℕ) (s : Size) (heads : List ℕ) : Type 0 where
  pub by_bench : ByBench s heads
  pub head : (x : ℕ) → BenchIn s x → slice_index heads x ≡ nth (layout_in t).heads x 0

-- a record with another word at place k: 0 and 1 are the names, 2 the holder, 3 the next job
abbrev pub with_word : ℕ → ℕ → Entry → Entry
with_word zero w e = record { names = slice_set e.names 0 w; holder = e.holder; next = e.next }
with_word (suc zero) w e = record { names = slice_set e.names 1 w; holder = e.holder; next = e.next }
with_word (suc (suc zero)) w e = record { names = e.names; holder = w; next = e.next }
with_word (suc (suc (suc k))) w e = record { names = e.names; holder = e.holder; next = w }

-- a record with another next job
abbrev pub with_next : Entry → ℕ → Entry
with_next e n = record { names = e.names; holder = e.holder; next = n }

-- the layout with another first job on bench x's chain
abbrev pub with_head : Layout → ℕ → ℕ → Layout
with_head l x j =
    record { benches = l.benches; jobs = l.jobs; standing = l.standing; spare = l.spare; heads = update l.heads x j; entries = l.entries }

-- the layout with other chains' heads
abbrev pub with_heads : Layout → List ℕ → Layout
with_heads l heads =
    record { benches = l.benches; jobs = l.jobs; standing = l.standing; spare = l.spare; heads = heads; entries = l.entries }

-- no chain has a job
abbrev pub cleared : Layout → Layout
cleared l = with_heads l (replicate l.benches 0)

-- the layout with another record of job j
abbrev pub with_entry : Layout → ℕ → Entry → Layout
with_entry l j e =
    record { benches = l.benches; jobs = l.jobs; standing = l.standing; spare = l.spare; heads = l.heads; entries = update l.entries j e }

-- the layout with word 2 written anew and word 3 zero
abbrev pub with_standing : Layout → ℕ → Layout
with_standing l n =
    record { benches = l.benches; jobs = l.jobs; standing = n; spare = 0; heads = l.heads; entries = l.entries }

-- a table of size s that has the layout l: l fixes all its bytes
pub record HasLayout (t : List ℕ) (s : Size) (l : Layout) : Type 0 where
  pub size : SizeOf t s
  pub layout : layout_in t ≡ l
