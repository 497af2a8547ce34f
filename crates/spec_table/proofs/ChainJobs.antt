-- The jobs on the chains of a sound table.
use Prim.Native.Nat.{ℕ}
use mathlib.Core.List.{List}
use lib.Dec.{T}
use Rattle.spec_lists.specs.Lists.{In, nth}
use Rattle.spec_table.specs.Table.{Entry, vacant, filled, only_standing}
use Rattle.spec_lists.proofs.Elements.{all_in}

-- no empty record is on a chain of standing jobs
pub on_chain_filled : (es : List Entry) (c : List ℕ) → T (only_standing es c) → (j : ℕ) → In j c → T (filled (nth es j vacant))
on_chain_filled es c t j k = all_in (λ j. filled (nth es j vacant)) j c t k
