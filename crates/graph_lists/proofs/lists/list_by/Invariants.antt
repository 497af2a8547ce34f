-- The loop's invariant: the numbers from i on are listed.
use Prim.Native.Nat.{◌-◌}
use lib.ListN.{length}
use Rattle.graph_lists.proofs.Listing.{Listing}
use Rattle.graph_lists.proofs.lists.list_by.Given as goal

abbrev pub invariant-loop-i : goal.invariant-loop-i
invariant-loop-i l = Listing (length l.initial.head) (length l.initial.next) l.n l.key (l.i - 1) l.head l.next
