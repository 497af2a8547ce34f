-- The table as the crate above sees it: a board, and what each promise says of it.
use Rattle.std.specs.Prelude.{ℕ, ◌+◌, ◌≤◌, ◌≡◌, List, T, length, get_or}
use Rattle.spec_lists.specs.Lists.{member, In, nth}
use Rattle.spec_table.specs.Board.{Board, names_of, holder_of, load, names_fit}
use Rattle.spec_table.specs.Table.{most_benches, decode, Storable}
use Rattle.table_size.specs.Sizes.{SizeOf, JobIn, BenchIn}
use Rattle.table_size.specs.declared.Size.{Size}

-- a table of size s whose records hold a board, whatever its chains are
pub record HoldsBoard (t : List ℕ) (s : Size) : Type 0 where
  pub size : SizeOf t s
  pub storable : Storable (decode t)

-- k is a place in the list, counted from 1
pub record Position (names : List ℕ) (k : ℕ) : Type 0 where
  pub least : 1 ≤ k
  pub most : k ≤ length names

-- the k-th bench that job j names
pub record NameOf (t : List ℕ) (s : Size) (j k x : ℕ) : Type 0 where
  pub value : x ≡ nth (names_of (decode t) j) k 0
  pub named : In x (names_of (decode t) j)
  pub bench : BenchIn s x

-- the bench that holds job j, 0 for none
pub record HolderOf (t : List ℕ) (s : Size) (j x : ℕ) : Type 0 where
  pub value : x ≡ holder_of (decode t) j
  pub most : x ≤ s.benches

-- names and a holder for job j that a record can hold
pub record Fillable (s : Size) (j : ℕ) (names : List ℕ) (h : ℕ) : Type 0 where
  pub job : JobIn s j
  pub pair : length names ≡ 2
  pub fit : T (names_fit s.benches names)
  pub held : T (member h names)

-- at each bench its load, which is 0 beyond the last bench
pub record Loaded (b : Board) (loads : List ℕ) : Type 0 where
  pub long : length loads ≡ most_benches + 1
  pub bench : (x : ℕ) → 1 ≤ x → x ≤ most_benches → get_or loads x 0 ≡ load b.holders x
