-- Meeting a job that is due undoes pushing it: so jobs met from the first up, until none is due, are those that were pushed from the last
-- down.
use Prim.Native.Nat.{ℕ, ◌≤◌}
use mathlib.Core.Path.{◌≡◌, sym, ap, ◌∙◌}
use mathlib.Core.List.{List}
use lib.ListN.{length}
use Rattle.spec_lists.specs.Lists.{nth, update}
use Rattle.spec_lists.proofs.Elements.{nth_update_same, update_again, update_same}
use Rattle.spec_table.specs.Table.{Entry, vacant, holder_in, Layout}
use Rattle.table_size.specs.Written.{with_heads, with_next}
use Rattle.table_chains.specs.Chains.{push_for, pushed}
use Rattle.table_chains.proofs.Rebuilding.{push_some}

-- a job without a holder is pushed by leaving it ..
pub undo_vacant : (l : Layout) (j : ℕ) (heads : List ℕ) → holder_in (nth l.entries j vacant) ≡ 0 → pushed j (with_heads l heads) ≡ with_heads l heads
unfolding pushed
undo_vacant l j heads e = ap (push_for (with_heads l heads) j) e

-- .. and one that was the head of its holder's chain, before the next job there became it, by putting it back
pub undo_standing : (l : Layout) (j h : ℕ) (heads : List ℕ) → holder_in (nth l.entries j vacant) ≡ h → 1 ≤ h → h ≤ length heads → nth heads h 0 ≡ j → pushed j (with_heads l (update heads h (nth l.entries j vacant).next)) ≡ with_heads l heads
unfolding pushed
undo_standing l j h heads e low high at =
    ap (push_for after j) e
    ∙ push_some after j h low
    ∙ (λ i. record { benches = l.benches; jobs = l.jobs; standing = l.standing; spare = l.spare; heads = back i; entries = same i })
  where
    r : Entry
    r = nth l.entries j vacant

    after : Layout
    after = with_heads l (update heads h r.next)

    back : update (update heads h r.next) h j ≡ heads
    back = update_again heads h r.next j ∙ ap (update heads h) (sym at) ∙ update_same heads h 0

    same : update l.entries j (with_next r (nth (update heads h r.next) h 0)) ≡ l.entries
    same = ap (λ (n : ℕ). update l.entries j (with_next r n)) (nth_update_same heads h r.next 0 low high) ∙ update_same l.entries j vacant
