-- The word at place k among the names, by `name-word`.
use Prim.Native.Nat.{ℕ, ◌+◌, ◌-◌}
use mathlib.Core.Path.{subst}
use Rattle.table_words.specs.Bytes.{IsWord}
use Rattle.table_size.proofs.Written.{name_word}
use Rattle.table_records.proofs.name_at.Goals as goal

pub returns : goal.returns
returns c =
    let word = subst (λ (i : ℕ). IsWord c.args.t.now (i + c.args.k - 1) c.read.result) c.record_at.ensures c.read.ensures in
    record {
      value = name_word c.args.t.now c.args.s c.args.j c.requires.size_of c.requires.job_in c.args.k c.read.result c.requires.le_k c.requires.k_bound word;
      small = word.small;
    }
