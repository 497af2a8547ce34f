-- One value behind the other, and there are three at most.
use Rattle.std.proofs.Common.{arith, ap, length}
use Rattle.std.proofs.lemmas.List.{length-take}
use Rattle.counter_printing.proofs.WrittenText.{wrote_start, wrote_next}
use Rattle.counter_printing.proofs.Output.values.Goals as goal

pub loop-value-init : goal.loop-value-init
loop-value-init c =
    let v = c.args.v in
    record {
      wrote = wrote_start c.args.self.now;
      short = omega arith;
      items = c.as_slice-value-items.ensures;
      few = omega (arith, ap length c.as_slice-value-items.ensures, length-take v.count v.numbers);
    }

pub loop-value-preserved : goal.loop-value-preserved
loop-value-preserved c =
    let k = c.loop-value.invariant in
    record {
      wrote = wrote_next c.as_slice-value-items.result.now c.loop-value.value-index (omega arith) k.wrote c.number.ensures.wrote;
      short = omega arith;
      items = k.items;
      few = k.few;
    }
