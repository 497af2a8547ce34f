-- The four words read are job j's record, by `record-words`.
use Prim.Native.Nat.{ℕ, ◌+◌, ◌*◌}
use native.Mathlib.Omega.{arith}
use mathlib.Core.Path.{◌≡◌, sym, ap, ◌∙◌}
use mathlib.Core.List.{List, [], ◌∷◌}
use Rattle.spec_table.specs.Table.{words}
use Rattle.spec_table.proofs.Places.{entry_from}
use Rattle.table_words.specs.Bytes.{IsWord}
use Rattle.table_size.specs.Sizes.{SizeOf, JobIn}
use Rattle.table_records.specs.Records.{RecordOf, entry_of}
use Rattle.table_size.specs.declared.Size.{Size}
use Rattle.table_records.specs.declared.Record.{Record}
use Rattle.table_size.proofs.Written.{record_words}
use Rattle.table_records.proofs.read_record.Goals as goal

-- words B + 4 × j and the next three are job j's record
four : (t : List ℕ) (s : Size) (j at : ℕ) (r : Record) → SizeOf t s → JobIn s j → at ≡ s.benches + 4 * j → IsWord t at r.first → IsWord t (at + 1) r.second → IsWord t (at + 2) r.holder → IsWord t (at + 3) r.next → RecordOf t j r
four t s j at r z i p a b h n =
    let f : entry_of r ≡ entry_from (words t) at = λ k. record { names = a.value k ∷ b.value k ∷ []; holder = h.value k; next = n.value k } in
    record {
      entry = f ∙ ap (entry_from (words t)) p ∙ sym (record_words t s j z i);
      small = record { first = a.small; second = b.small; holder = h.small; next = n.small };
    }

pub returns : goal.returns
returns c =
    let at : ℕ = c.record_at-at.result in
    let r : Record = record { first = c.read-first.result; second = c.read-second.result; holder = c.read-holder.result; next = c.read-next.result } in
    four c.args.t.now c.args.s c.args.j at r c.requires.size_of c.requires.job_in (omega (arith, c.record_at-at.ensures)) c.read-first.ensures c.read-second.ensures c.read-holder.ensures c.read-next.ensures
