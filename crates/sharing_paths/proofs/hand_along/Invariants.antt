-- The jobs go one after the other. The loop's invariant: what is left of the route, handed over from here, gives what the whole one does.
use Prim.Native.Nat.{ℕ}
use mathlib.Core.List.{List}
use Rattle.spec_table.specs.Table.{decode}
use Rattle.spec_sharing.specs.Paths.{Step}
use Rattle.sharing_paths.specs.FoundPaths.{RouteIn}
use Rattle.sharing_paths.proofs.HandingAlong.{Handing}
use Rattle.sharing_paths.proofs.hand_along.Given as goal

abbrev pub invariant-loop-place : goal.invariant-loop-place
invariant-loop-place l =
    (x : ℕ) (r : List Step) → RouteIn (decode l.initial.t) l.path l.first l.n l.end x r → Handing (decode l.initial.t) r l.t l.s l.path l.place l.n l.end
