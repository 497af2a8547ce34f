-- Closing: the path is the rule's, found while every byte is as it was; what comes of it.
use Rattle.std.specs.Prelude.{ℕ, List, [], Result}
use Rattle.spec_table.specs.Board.{Board, holder_of, put}
use Rattle.spec_sharing.specs.Sharing.{closing_choice, close}
use Rattle.spec_table.specs.Table.{decode}
use Rattle.sharing_paths.specs.FoundPaths.{start_of, PathFound}
use Rattle.sharing_paths.specs.declared.FoundPath.{FoundPath}
use Rattle.sharing_effects.specs.Effects.{Lent, AttemptOf}
use Rattle.table_refusals.specs.declared.Refusal.{Refusal}
use Rattle.sharing_effects.specs.declared.Effect.{Effect}

-- the rule's path to the bench that loses job j is found
pub record ClosingFound (b : Board) (j : ℕ) (path : List ℕ) (r : FoundPath) : Type 0 where
  pub found :
      let x = holder_of b j in let choice = closing_choice (put b j [] 0) x in PathFound choice (start_of x choice) path r

-- what comes of the closing of job j
abbrev pub ClosingOf : ℕ → Lent → Lent → Result Effect Refusal → Type 0
ClosingOf j before after r = AttemptOf j (close (decode before.table) j) before after r
