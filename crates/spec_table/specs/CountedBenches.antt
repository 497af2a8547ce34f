-- The heaviest load, found sooner (document 02, request 05): "The loop over benches, from bench 1 up, ends as soon as
-- the standing jobs not yet counted are no more than the best load so far, 0 at the start".
use Rattle.std.specs.Prelude.{ℕ, ◌-◌, ◌≤◌, Bool, T, leb}
use Rattle.spec_lists.specs.Lists.{total, greatest}
use Rattle.spec_table.specs.Board.{Board, standing, load}

-- "the best load so far, 0 at the start": the greatest of benches 1 to n, which are counted
abbrev pub best_so_far : Board → ℕ → ℕ
best_so_far b n = greatest n (load b.holders)

-- "the standing jobs not yet counted": less those that benches 1 to n hold
abbrev pub not_counted : Board → ℕ → ℕ
not_counted b n = standing b - total n (load b.holders)

-- they "are no more than the best load so far": with n benches counted the loop goes no further
abbrev pub count_ends : Board → ℕ → Bool
count_ends b n = leb (not_counted b n) (best_so_far b n)

-- "how many benches it counted: the least number at which that holds"
pub record BenchesCounted (b : Board) (n : ℕ) : Type 0 where
  pub holds : T (count_ends b n)
  pub least : (m : ℕ) → T (count_ends b m) → n ≤ m
