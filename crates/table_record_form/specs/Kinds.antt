-- What a record is, and the pass over the records as the code goes.
use Rattle.std.specs.Prelude.{ℕ, suc, ◌≤◌, ◌≡◌, Bool, true, false, List, [], ◌∷◌, drop, Option, Some, None}
use Rattle.spec_table.specs.Table.{Entry, filled, entry_fits}
use Rattle.table_words.specs.Bytes.{layout_in}
use Rattle.table_size.specs.declared.Size.{Size}
use Rattle.table_record_form.specs.declared.Kind.{Kind}
use Rattle.table_record_form.specs.declared.Kind.TheVariants.{Vacant, Fitting, Unfit}

-- a record by the tests of a standing job's record
abbrev pub kind_if : Bool → Bool → Kind
kind_if false fits = Vacant
kind_if true true = Fitting
kind_if true false = Unfit

-- no job's record, a record that fits, or one that does not
unfoldable pub kind_of : ℕ → Entry → Kind
kind_of benches e = kind_if (filled e) (entry_fits benches e)

-- what a pass counts after a record: the same, one job more, or none where no sound table has the record
abbrev pub by_kind : Kind → Option ℕ → Option ℕ → Option ℕ
by_kind Vacant same more = same
by_kind Fitting same more = more
by_kind Unfit same more = None

-- the number of standing jobs' records, n before these; none if one does not fit
abbrev pub counted : ℕ → ℕ → List Entry → Option ℕ
counted benches n [] = Some n
counted benches n (e ∷ es) = by_kind (kind_of benches e) (counted benches n es) (counted benches (suc n) es)

-- the first `done` of a table's records are counted, and `count` of them stand: with the others that is the whole count
pub record CountedTo (t : List ℕ) (s : Size) (done count : ℕ) : Type 0 where
  pub number : done ≤ s.jobs
  pub few : count ≤ done
  pub rest : let es = (layout_in t).entries in counted s.benches count (drop done es) ≡ counted s.benches 0 es
