use native.Mathlib.Omega.{arith}
use mathlib.Core.Path.{◌≡◌}
use Rattle.std.proofs.Common.{◌+◌, ◌-◌}
use Rattle.spec_lists.specs.Lists.{nth}
use Rattle.table_words.specs.Bytes.{layout_in}
use Rattle.table_header.proofs.Copying.{heads_start, heads_turn}
use Rattle.table_header.proofs.heads.copy_heads.Goals as goal

pub loop-x-init : goal.loop-x-init
loop-x-init c = heads_start c.args.t.now c.args.s c.args.heads.now c.requires.heads_value

pub loop-x-preserved : goal.loop-x-preserved
loop-x-preserved c =
    let x = c.loop-x.x in
    let here : x - 1 + 1 ≡ x = omega arith in
    let next : x + 1 - 1 ≡ x = omega arith in
    let head : c.head.result ≡ nth (layout_in c.args.t.now).heads (x - 1 + 1) 0 = rw here c.head.ensures.head in
    rw next (rw here at (heads_turn c.loop-x.invariant (omega arith) (omega arith) head))
