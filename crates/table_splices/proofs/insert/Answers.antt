-- The record is that of a job with these two benches and this holder; the link before its place then leads to it.
use mathlib.Core.Logic.{inl, inr}
use Rattle.table_splices.proofs.Spliced.{PlaceFor, put_in}
use Rattle.table_splices.proofs.insert.Goals as goal
use Rattle.table_splices.proofs.insert.Goals.{Joined-first-holder, then-first-holder, else-first-holder}

-- the word for the holder is chosen by the first bench
word : (c : Joined-first-holder) → PlaceFor c.args.first c.args.holder c.if-first-holder.word
word c = elim c.if-first-holder.branch [
  | then-first-holder w ↦ inl (w.if-first-holder.true, w.word-is)
  | else-first-holder w ↦ inr (w.if-first-holder.false, w.word-is)
]

pub returns : goal.returns
returns c = put_in c.args.gap c.requires.fillable (word (goal.at.returns c).Joined-first-holder) c.write_record.ensures c.link.ensures
