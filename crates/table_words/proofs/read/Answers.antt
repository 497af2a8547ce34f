-- Word i is bytes 2i and 2i + 1, low byte first, and each byte is below 256.
use native.Mathlib.Omega.{arith}
use Rattle.spec_table.proofs.Places.{word_at}
use Rattle.table_words.proofs.read.Goals as goal

pub returns : goal.returns
returns c =
    record {
      value = omega (arith, word_at c.args.bytes.now c.args.i c.requires);
      small = omega arith;
    }
