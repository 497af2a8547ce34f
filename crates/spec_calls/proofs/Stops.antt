-- What a levelling says: level exactly if no path improves, stopped exactly if one does.
use Prim.Native.Nat.{ℕ}
use mathlib.Core.Path.{◌≡◌, refl, ap}
use mathlib.Core.Logic.{◌↔◌}
use mathlib.Core.Bool.{Bool, true, false, cond, not}
use lib.Dec.{T, not_T}
use Rattle.spec_table.specs.Board.{Valid}
use Rattle.spec_lists.proofs.Tests.{true→T}
use Rattle.spec_calls.specs.Answers.{said, levelled, stopped}
use Rattle.spec_calls.specs.Calls.{levelling_outcome}
use Rattle.spec_sharing.specs.Sharing.{Levelled, level}
use Rattle.spec_sharing.specs.Paths.{BenchPath, improves, IsPath}
use Rattle.spec_sharing.proofs.Paths.{level_exact, unlevel_improves}

-- what an answer says of the test and the count behind it
pub says_level : (n m : ℕ) (z : Bool) → (said (cond z (levelled n) (stopped n)) ≡ said (levelled m)) ↔ (T z × (n ≡ m))
says_level n m true = (λ e. (tt, cc), λ d. ap (λ (k : ℕ). said (levelled k)) d.1)
says_level n m false = (λ e. absurd (true→T false cc), λ d. absurd d.0)

pub says_stopped : (n m : ℕ) (z : Bool) → (said (cond z (levelled n) (stopped n)) ≡ said (stopped m)) ↔ (T (not z) × (n ≡ m))
says_stopped n m true = (λ e. absurd (true→T false cc), λ d. absurd d.0)
says_stopped n m false = (λ e. (tt, cc), λ d. ap (λ (k : ℕ). said (stopped k)) d.1)

-- "It reports the paths turned, and "level" if no improving path is left, else "stopped"."
pub levelling_says_level : (r : Levelled) → Valid r.board → ((levelling_outcome r).answer ≡ said (levelled r.paths)) ↔ ((p : BenchPath) → IsPath r.board p → T (improves r.board p) → ⊥)
unfolding levelling_outcome
levelling_says_level r v =
    let s = says_level r.paths r.paths (level r.board) in
    let l = level_exact r.board v in
    (λ e. l.0 (s.0 e).0, λ f. s.1 (l.1 f, refl))

-- .. and "stopped" exactly if one is
pub levelling_says_stopped : (r : Levelled) → Valid r.board → ((levelling_outcome r).answer ≡ said (stopped r.paths)) ↔ ((p : BenchPath) × IsPath r.board p × T (improves r.board p))
unfolding levelling_outcome
levelling_says_stopped r v =
    let s = says_stopped r.paths r.paths (level r.board) in
    let l = level_exact r.board v in
    (λ e. unlevel_improves r.board (s.0 e).0, λ q. s.1 (not_T (level r.board) (λ t. l.0 t q.0 q.1 q.2), refl))
