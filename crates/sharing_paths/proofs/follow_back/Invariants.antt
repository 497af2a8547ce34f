-- The loop's invariant: the jobs from `left` on are listed, those before it lead to bench x (`Followed`).
use Prim.Native.Nat.{ℕ, ◌+◌}
use mathlib.Core.Path.{◌≡◌}
use mathlib.Core.List.{List}
use lib.ListN.{length}
use Rattle.spec_table.specs.Table.{most_benches, decode}
use Rattle.sharing_search.specs.Searching.{Course}
use Rattle.sharing_paths.specs.FoundPaths.{Behind}
use Rattle.sharing_paths.proofs.Following.{Followed}
use Rattle.sharing_paths.proofs.follow_back.Given as goal

abbrev pub invariant-loop-left : goal.invariant-loop-left
invariant-loop-left l = record {
  long : length l.path ≡ most_benches + 1;
  followed : (c : Course) (found : ℕ) (queue : List ℕ) (k : Behind (decode l.t) c l.s.benches found queue l.came l.y l.n) → Followed k.searching l.y l.n l.path l.x l.left;
}
