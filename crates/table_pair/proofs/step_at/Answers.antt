-- A record is told by its kind and its holder; one that x holds names x, so only y is looked for.
use Rattle.std.proofs.Common.{◌≡◌, sym, ⊎_elim, inl, inr}
use Rattle.table_records.specs.Records.{entry_of}
use Rattle.table_record_form.specs.Kinds.{kind_of}
use Rattle.table_record_form.specs.declared.Kind.TheVariants.{Fitting}
use Rattle.table_pair.proofs.AtRecord.{read_unfit, read_unheld, read_match, read_next}
use Rattle.table_pair.proofs.step_at.Goals as goal
use Rattle.table_pair.proofs.step_at.Goals.{In-Fitting}

pub returns-in_default : goal.returns-in_default
returns-in_default c = read_unfit c.args.x c.args.y c.requires.size_of c.read_record-r.ensures c.kind_of.ensures c.in_default.not-Fitting

-- the record fits
fitting : (c : In-Fitting) → kind_of c.args.s.benches (entry_of c.read_record-r.result) ≡ Fitting
fitting c = sym c.in-Fitting.ensures

pub returns-then-holder_at-x : goal.returns-then-holder_at-x
returns-then-holder_at-x c = read_unheld c.args.x c.args.y c.requires.size_of c.read_record-r.ensures (fitting (goal.at.returns-then-holder_at-x c).In-Fitting) c.holder_at.ensures c.if-holder_at-x.true

pub returns-then-first-y : goal.returns-then-first-y
returns-then-first-y c =
    read_match c.args.x c.args.y c.requires.size_of c.read_record-r.ensures (fitting (goal.at.returns-then-first-y c).In-Fitting) c.holder_at.ensures c.if-holder_at-x.false
    (⊎_elim (λ w. inl w) (λ w. inr w.1) c.then-first-y.either)

pub returns : goal.returns
returns c =
    read_next c.args.x c.args.y c.requires.size_of c.read_record-r.ensures (fitting (goal.at.returns c).In-Fitting) c.holder_at.ensures c.if-holder_at-x.false
    c.if-first-y.false c.if-second-y.false
