-- A job's record as the code holds it.
use Rattle.std.specs.Prelude.{ℕ, ◌<◌, ◌≡◌, List, [], ◌∷◌}
use Rattle.spec_lists.specs.Lists.{nth}
use Rattle.spec_table.specs.Table.{Entry}
use Rattle.table_records.specs.declared.Record.{Record}
use Rattle.table_size.specs.Written.{record_in}

-- the record that the code holds
abbrev pub entry_of : Record → Entry
entry_of r = record { names = r.first ∷ r.second ∷ []; holder = r.holder; next = r.next }

-- each of the four is a word
pub record RecordFits (r : Record) : Type 0 where
  pub first : r.first < 65536
  pub second : r.second < 65536
  pub holder : r.holder < 65536
  pub next : r.next < 65536

-- r is job j's record
pub record RecordOf (t : List ℕ) (j : ℕ) (r : Record) : Type 0 where
  pub entry : entry_of r ≡ record_in t j
  pub small : RecordFits r

-- x is the k-th bench that job j's record names, counted from 1
pub record NameAt (t : List ℕ) (j k x : ℕ) : Type 0 where
  pub value : x ≡ nth (record_in t j).names k 0
  pub small : x < 65536
