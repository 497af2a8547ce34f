-- What the counter program keeps, in the words of `Rattle.spec_counter.specs.Counter`.
use Rattle.std.specs.Prelude.{ℕ, ◌≤◌, ◌≡◌, List, length, take}
use Rattle.spec_table.specs.Table.{length_for, most_benches, most_jobs}
use Rattle.spec_counter.specs.Counter as paper
use Rattle.board_tally.specs.Counts.{tally_of}
use Rattle.counter_state.specs.declared.Counter.{Counter}

-- the most bytes of a table
abbrev pub table_most : ℕ
table_most = length_for most_benches most_jobs

-- the program's state: its table is a part of its own bytes
abbrev pub counter_of : Counter → List ℕ → paper.Counter
counter_of c bytes = record { table = take c.length bytes; tally = tally_of c.tally }

-- the program's own bytes have room for every table, and its table lies in them
pub record Room (c : Counter) (bytes : List ℕ) : Type 0 where
  pub long : length bytes ≡ table_most
  pub within : c.length ≤ table_most
