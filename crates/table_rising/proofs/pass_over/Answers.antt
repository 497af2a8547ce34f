-- All jobs in turn, word 3, word 2, and no job due in the end: then the bytes are the board's; of such bytes all that holds.
use Rattle.std.proofs.Common.{sym, subst, ◌∙◌, T, arith}
use Rattle.spec_lists.proofs.Tests.{true→T}
use Rattle.table_rising.proofs.Meeting.{passed_rising}
use Rattle.table_rising.proofs.InTurn.{encoded_spare, encoded_standing}
use Rattle.table_rising.proofs.pass_over.Goals as goal
use Rattle.table_rising.proofs.pass_over.Goals.{else-spare_word-eq0-via-then-spare_word-eq0+then-standing_word-count+else-none_due, else-spare_word-eq0-via-then-spare_word-eq0+else-standing_word-count, else-spare_word-eq0-via-else-spare_word-eq0}

pub returns-then-none_due : goal.returns-then-none_due
returns-then-none_due c =
    passed_rising
    c.requires.size_of
    c.in_ok-count.ensures.reached_as
    (c.none_due.ensures.0 (true→T _ c.if-none_due.true))
    (sym c.standing_word.ensures ∙ c.if-standing_word-count.true)
    (sym c.spare_word.ensures ∙ c.if-spare_word-eq0.true)
    (λ i. omega (arith, c.type_inv.t i))

pub returns-else-spare_word-eq0 : goal.returns-else-spare_word-eq0
returns-else-spare_word-eq0 c =
    let passed = c.in_ok-count.ensures.reached_as in
    record {
      other = λ k. elim c.else-spare_word-eq0.branch [
        | else-spare_word-eq0-via-then-spare_word-eq0+then-standing_word-count+else-none_due w ↦ subst T w.if-none_due.false (w.none_due.ensures.1 (c.in_ok-count.ensures.all_in_turn k))
        | else-spare_word-eq0-via-then-spare_word-eq0+else-standing_word-count w ↦ w.if-standing_word-count.false (w.standing_word.ensures ∙ encoded_standing k passed)
        | else-spare_word-eq0-via-else-spare_word-eq0 w ↦ w.if-spare_word-eq0.false (c.spare_word.ensures ∙ encoded_spare k)
      ];
      counted = rw c.jobs.ensures passed.records;
      by_bench = c.meet_all.ensures.by_bench;
    }
