-- Arrival: the path is the rule's, found while every byte is as it was; what comes of it.
use Rattle.std.specs.Prelude.{ℕ, ◌≡◌, ◌⊎◌, ◌≢◌, List, [], ◌∷◌, Result}
use Rattle.spec_table.specs.Board.{Board, put}
use Rattle.spec_sharing.specs.Sharing.{lightest_named, arrival_choice, arrive}
use Rattle.spec_table.specs.Table.{decode}
use Rattle.graph_lists.specs.Arrays.{at}
use Rattle.sharing_paths.specs.FoundPaths.{last_of, PathFound, AfterIn}
use Rattle.sharing_paths.specs.declared.FoundPath.{FoundPath}
use Rattle.sharing_effects.specs.Effects.{Lent, AttemptOf}
use Rattle.table_refusals.specs.declared.Refusal.{Refusal}
use Rattle.sharing_effects.specs.declared.Effect.{Effect}
use Rattle.sharing_arrival.specs.declared.Intake.{Intake}

-- bench x gets job j of these benches, and the rule's path from there is found: r and `path` tell it
pub record ArrivalFound (b : Board) (j : ℕ) (names : List ℕ) (x : ℕ) (path : List ℕ) (r : FoundPath) : Type 0 where
  pub getter : x ≡ lightest_named b.holders names
  pub found :
      PathFound (arrival_choice (put b j names x) x) (last_of x (arrival_choice (put b j names x) x)) path r

-- where job j is taken in: at the bench that it goes to, if it is the path's first, and then the rest of the path is
-- left; else at x, and the whole path is
abbrev pub EntersAt : Board → ℕ → ℕ → List ℕ → FoundPath → Intake → Type 0
EntersAt b j x path r e =
    ((r.jobs ≢ 0) × (at path 0 ≡ j) × (e.place ≡ 1) × AfterIn b path 1 r.jobs r.bench e.holder) ⊎
    (((r.jobs ≡ 0) ⊎ (at path 0 ≢ j)) × (e.place ≡ 0) × (e.holder ≡ x))

-- what comes of the arrival of job j for benches x and y
abbrev pub ArrivalOf : ℕ → ℕ → ℕ → Lent → Lent → Result Effect Refusal → Type 0
ArrivalOf j x y before after r = AttemptOf j (arrive (decode before.table) j (x ∷ y ∷ [])) before after r
