-- Words 2 and 3, the records and the chains in turn: each of the four returns is one law of what the passes find.
use Rattle.std.proofs.Common.{◌≡◌, sym, ◌∙◌, arith}
use Rattle.table_words.specs.Bytes.{layout_in}
use Rattle.table_record_form.specs.Kinds.{counted}
use Rattle.table_chain_form.proofs.Formed.{table_whole, spare_formed, broken_formed, count_formed, counted_few, walked_formed}
use Rattle.table_chain_form.proofs.is_formed.Goals as goal
use Rattle.table_chain_form.proofs.is_formed.Goals.{After-count_records}

pub returns-then-spare_word-ne0-clause-value : goal.returns-then-spare_word-ne0-clause-value
returns-then-spare_word-ne0-clause-value c = sym (spare_formed (layout_in c.args.t.now) (λ e. c.if-spare_word-ne0.true (c.spare_word.ensures ∙ e)))

-- the records counted, with B as the table has it
found : (c : After-count_records) → counted (layout_in c.args.t.now).benches 0 (layout_in c.args.t.now).entries ≡ c.count_records.result
found c = rw c.requires.size_of.benches (sym c.count_records.ensures)

pub returns-in_default-clause-value : goal.returns-in_default-clause-value
returns-in_default-clause-value c =
    sym (broken_formed (layout_in c.args.t.now) (found (goal.at.returns-in_default-clause-value c).After-count_records ∙ c.in_default.is))

pub returns-then-standing_word-count-clause-value : goal.returns-then-standing_word-count-clause-value
returns-then-standing_word-count-clause-value c =
    let e = found (goal.at.returns-then-standing_word-count-clause-value c).After-count_records ∙ c.in-Some.is in
    sym (count_formed (layout_in c.args.t.now) _ e (λ q. c.if-standing_word-count.true (c.standing_word.ensures ∙ q)))

pub walk_all-requires-clause-count_le_jobs : goal.walk_all-requires-clause-count_le_jobs
walk_all-requires-clause-count_le_jobs c =
    let e = found (goal.at.walk_all-requires-clause-count_le_jobs c).After-count_records ∙ c.in-Some.is in
    omega (arith, counted_few (layout_in c.args.t.now) _ (table_whole c.args.t.now c.args.s c.requires.size_of) e, c.requires.size_of.jobs)

pub returns-clause-value : goal.returns-clause-value
returns-clause-value c =
    let spare = sym c.spare_word.ensures ∙ c.if-spare_word-ne0.false in
    let e = found (goal.at.returns-clause-value c).After-count_records ∙ c.in-Some.is in
    let standing = sym c.standing_word.ensures ∙ c.if-standing_word-count.false in
    let same = walked_formed (layout_in c.args.t.now) _ (table_whole c.args.t.now c.args.s c.requires.size_of) spare e standing in
    c.walk_all.ensures.value ∙ sym same
