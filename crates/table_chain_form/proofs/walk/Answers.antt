use Prim.Native.Nat.{◌-◌}
use native.Mathlib.Omega.{arith}
use mathlib.Core.Path.{◌≡◌, sym, ap, ◌∙◌}
use mathlib.Core.Logic.{⊎_elim}
use lib.Dec.{eqb}
use borrow.Author.Tests.{eq-eqb, ne_eqb, ltb-true}
use Rattle.spec_lists.specs.Lists.{nth}
use Rattle.spec_table.specs.Table.{holder_in}
use Rattle.table_words.specs.Bytes.{layout_in}
use Rattle.table_records.specs.Records.{entry_of}
use Rattle.table_chain_form.specs.ChainWalks.{only_if, walked}
use Rattle.table_size.proofs.Sizes.{entries_long}
use Rattle.table_chain_form.proofs.Walking.{walk_full, walk_step, walk_above}
use Rattle.table_chain_form.proofs.walk.Goals as goal
use Rattle.table_chain_form.proofs.walk.Goals.{After-holder_at}

pub returns-then-left-eq0 : goal.returns-then-left-eq0
returns-then-left-eq0 c =
    let es = (layout_in c.args.t.now).entries in
    let long = entries_long c.args.t.now c.args.s c.requires.size_of in
    ⊎_elim
    (λ w. walk_full es c.args.x c.loop-j.left c.loop-j.j (omega arith) (omega arith) ∙ c.loop-j.invariant)
    (λ w. walk_above es c.args.x c.loop-j.left c.loop-j.j (omega arith) (omega (arith, ltb-true)) ∙ c.loop-j.invariant)
    c.then-left-eq0.either

-- what is left of the walk after job j's record and holder are read
turn : (c : After-holder_at) → let a = c.args in let l = c.loop-j in let es = (layout_in a.t.now).entries in walked es a.x a.left (nth (layout_in a.t.now).heads a.x 0) ≡ only_if (eqb c.holder_at.result a.x) (walked es a.x (l.left - 1) c.read_record-next.result.next)
turn c =
    let a = c.args in
    let l = c.loop-j in
    let es = (layout_in a.t.now).entries in
    let step = walk_step es a.x l.left l.j (entry_of c.read_record-next.result) c.read_record-next.ensures.entry (omega arith) (omega arith) in
    rw (c.holder_at.ensures ∙ ap holder_in (sym c.read_record-next.ensures.entry)) (sym l.invariant ∙ step)

pub returns-then-holder_at-x : goal.returns-then-holder_at-x
returns-then-holder_at-x c = sym (rw (ne_eqb c.holder_at.result c.args.x c.if-holder_at-x.true) at (turn (goal.at.returns-then-holder_at-x c).After-holder_at))

pub loop-j-preserved : goal.loop-j-preserved
loop-j-preserved c = sym (rw (eq-eqb c.holder_at.result c.args.x c.if-holder_at-x.false) at (turn (goal.at.loop-j-preserved c).After-holder_at))
