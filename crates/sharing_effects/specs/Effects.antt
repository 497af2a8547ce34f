-- What an arrival or a closing leaves of the table and of the list that is lent for the moved jobs, and what it tells.
use Rattle.std.specs.Prelude.{ℕ, ◌*◌, ◌≤◌, ◌<◌, ◌≡◌, List, length, Result, Ok, Err}
use Rattle.spec_table.specs.Board.{holder_of}
use Rattle.spec_table.specs.Table.{in_list, encode}
use Rattle.spec_sharing.specs.Sharing.{Change}
use Rattle.spec_calls.specs.Answers.{list_too_short}
use Rattle.table_refusals.specs.Refusals.{refusal_of}
use Rattle.table_refusals.specs.declared.Refusal.{Refusal}
use Rattle.sharing_effects.specs.declared.Effect.{Effect}

-- bytes that are lent to a change: the table's, and the list's
pub record Lent : Type 0 where
  pub table : List ℕ
  pub list : List ℕ

-- these bytes of a table and of a list
abbrev pub lent : List ℕ → List ℕ → Lent
lent table list = record { table = table; list = list }

-- the list is too short for the moves of the change c: "8 [..] found before anything is changed"
pub record TooShort (c : Change) (before after : Lent) (r : Refusal) : Type 0 where
  pub why : refusal_of r ≡ list_too_short
  pub short : length before.list < 2 * length c.moved
  pub left : after ≡ before

-- the change c of job j was made: the table is that of its board, the list has the moved jobs, and e tells the rest
pub record MadeAs (j : ℕ) (c : Change) (before after : Lent) (e : Effect) : Type 0 where
  pub room : 2 * length c.moved ≤ length before.list
  pub table : after.table ≡ encode c.board
  pub list : after.list ≡ in_list c.moved before.list
  pub holder : e.holder ≡ holder_of c.board j
  pub bench : e.bench ≡ c.bench
  pub moved : e.moved ≡ length c.moved

-- what comes of the change c of job j
abbrev pub AttemptOf : ℕ → Change → Lent → Lent → Result Effect Refusal → Type 0
AttemptOf j c before after (Err r) = TooShort c before after r
AttemptOf j c before after (Ok e) = MadeAs j c before after e
