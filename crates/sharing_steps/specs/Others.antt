-- A job's other bench.
use Rattle.std.specs.Prelude.{ℕ, ◌≤◌, ◌≡◌, cond, List, [], ◌∷◌, eqb}
use Rattle.spec_table.specs.Board.{Board, names_of, holder_of}
use Rattle.table_size.specs.declared.Size.{Size}

-- the first-named bench other than h, 0 where there is none
abbrev pub other_than : ℕ → List ℕ → ℕ
other_than h [] = 0
other_than h (x ∷ names) = let r = other_than h names in cond (eqb x h) r x

-- the bench that job j leads to from the one that holds it, 0 where it does not stand
abbrev pub other_of : Board → ℕ → ℕ
other_of b j = other_than (holder_of b j) (names_of b j)

-- y is that bench
pub record OtherOf (b : Board) (s : Size) (j y : ℕ) : Type 0 where
  pub value : y ≡ other_of b j
  pub most : y ≤ s.benches
