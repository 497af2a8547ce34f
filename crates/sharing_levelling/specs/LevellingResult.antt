-- Levelling: the table is the rule's board, and the count is the rule's.
use Rattle.std.specs.Prelude.{ℕ, ◌≡◌, List}
use Rattle.spec_sharing.specs.Sharing.{Levelled, relevel, level}
use Rattle.spec_table.specs.Table.{decode, encode}
use Rattle.sharing_levelling.specs.declared.Levelling.{Levelling}

-- r and the table u are those of the levelling l
pub record IsLevelling (u : List ℕ) (l : Levelled) (r : Levelling) : Type 0 where
  pub bytes : u ≡ encode l.board
  pub paths : r.paths ≡ l.paths
  pub ended : r.level ≡ level l.board

-- levelling with this allowance
abbrev pub LevellingOf : List ℕ → List ℕ → ℕ → Levelling → Type 0
LevellingOf t u allowance r = IsLevelling u (relevel allowance (decode t)) r
