-- The words are written one after the other. The loop's invariant: the first `i` of them are.
use Rattle.table_words.proofs.Bytes.{Listing}
use Rattle.table_words.proofs.write_list.Given as goal

abbrev pub invariant-loop-i : goal.invariant-loop-i
invariant-loop-i l = Listing l.initial.list l.words l.list l.i
