-- What a record is, told by its words.
use Prim.Native.Nat.{ℕ, ◌≤◌}
use native.Mathlib.Omega.{arith}
use mathlib.Core.Path.{◌≡◌, refl, sym, ap, ◌∙◌}
use mathlib.Core.Logic.{◌≢◌}
use mathlib.Core.Bool.{Bool, true, false}
use lib.Dec.{T}
use Rattle.spec_lists.specs.Lists.{within, Each}
use Rattle.spec_table.specs.Table.{Entry, filled, holder_in, entry_fits, entry_words}
use Rattle.spec_lists.proofs.Tests.{true→T, T→true, never→false, within_low, within_high, within_both}
use Rattle.spec_table.proofs.Named.{pair_fits}
use Rattle.spec_table.proofs.Clauses.{vacant_words, zero_words, fit_filled}
use Rattle.spec_table.proofs.Sound.{entry_tests, not_held}
use Rattle.table_records.specs.Records.{entry_of}
use Rattle.table_records.specs.declared.Record.{Record}
use Rattle.table_record_form.specs.Kinds.{kind_if, kind_of}
use Rattle.table_record_form.specs.declared.Kind.TheVariants.{Vacant, Fitting, Unfit}

-- "four zero words"
abbrev pub AllZero : Record → Type 0
AllZero r = Each (λ w. w ≡ 0) (entry_words (entry_of r))

-- "two different benches of 1 to B and holder 1 or 2"
pub record Fits (benches : ℕ) (r : Record) : Type 0 where
  pub first : T (within 1 benches r.first)
  pub second : T (within 1 benches r.second)
  pub apart : r.first ≢ r.second
  pub holder_least : 1 ≤ r.holder
  pub holder_most : r.holder ≤ 2

-- the test of a record says the same ..
entry_fits_lem : (benches : ℕ) (r : Record) → T (entry_fits benches (entry_of r)) → Fits benches r
entry_fits_lem benches r t =
    let tests = (entry_tests benches (entry_of r)).0 t in
    let named = (pair_fits benches r.first r.second).0 tests.0 in
    record {
      first = named.0;
      second = named.1;
      apart = named.2;
      holder_least = within_low 1 2 r.holder tests.1;
      holder_most = within_high 1 2 r.holder tests.1;
    }

-- .. and the other way round
fits_entry : (benches : ℕ) (r : Record) → Fits benches r → T (entry_fits benches (entry_of r))
fits_entry benches r f =
    let held = within_both 1 2 r.holder f.holder_least f.holder_most in
    (entry_tests benches (entry_of r)).1 ((pair_fits benches r.first r.second).1 (f.first, f.second, f.apart), held)

-- "A job number that is not standing has four zero words .."
pub vacant_kind : (benches : ℕ) (r : Record) → AllZero r → Vacant ≡ kind_of benches (entry_of r)
unfolding kind_of
vacant_kind benches r z = rw (zero_words (entry_of r) z) refl

-- ".. any other record is a standing job's"
standing_kind : (benches : ℕ) (r : Record) → (AllZero r → ⊥) → kind_if true (entry_fits benches (entry_of r)) ≡ kind_of benches (entry_of r)
unfolding kind_of
standing_kind benches r d = go (filled (entry_of r)) refl
  where
    fit : Bool
    fit = entry_fits benches (entry_of r)

    go : (z : Bool) → filled (entry_of r) ≡ z → kind_if true fit ≡ kind_if z fit
    go true q = refl
    go false q = absurd (d (vacant_words (entry_of r) q))

-- .. which fits, and then its first word is not 0 ..
pub fitting_kind : (benches : ℕ) (r : Record) → Fits benches r → Fitting ≡ kind_of benches (entry_of r)
fitting_kind benches r f =
    let fit = entry_fits benches (entry_of r) in
    let first = within_low 1 benches r.first f.first in
    ap (kind_if true) (sym (T→true fit (fits_entry benches r f))) ∙ standing_kind benches r (λ z. omega arith)

-- .. or does not
pub unfit_kind : (benches : ℕ) (r : Record) → (AllZero r → ⊥) → (Fits benches r → ⊥) → Unfit ≡ kind_of benches (entry_of r)
unfit_kind benches r d f =
    let fit = entry_fits benches (entry_of r) in
    let no = never→false fit (λ t. f (entry_fits_lem benches r t)) in
    ap (kind_if true) (sym no) ∙ standing_kind benches r d

-- what a kind says of a record

-- "four zero words" tell no holder ..
pub vacant_unheld : (benches : ℕ) (e : Entry) → kind_of benches e ≡ Vacant → holder_in e ≡ 0
unfolding kind_of
vacant_unheld benches e q = go (filled e) refl (entry_fits benches e) q
  where
    go : (y : Bool) → filled e ≡ y → (z : Bool) → kind_if y z ≡ Vacant → holder_in e ≡ 0
    go false p z k = not_held e p
    go true p true k = absurd (true→T false cc)
    go true p false k = absurd (true→T false cc)

-- .. and a record that fits passes the tests of a standing job's ..
pub fitting_tests : (benches : ℕ) (e : Entry) → kind_of benches e ≡ Fitting → T (entry_fits benches e)
unfolding kind_of
fitting_tests benches e q = go (filled e) (entry_fits benches e) refl q
  where
    go : (y z : Bool) → entry_fits benches e ≡ z → kind_if y z ≡ Fitting → T (entry_fits benches e)
    go false z p k = absurd (true→T false cc)
    go true false p k = absurd (true→T false cc)
    go true true p k = true→T (entry_fits benches e) p

-- .. and back ..
pub tests_fitting : (benches : ℕ) (e : Entry) → T (entry_fits benches e) → kind_of benches e ≡ Fitting
unfolding kind_of
tests_fitting benches e f = rw (T→true (filled e) (fit_filled benches e f), T→true (entry_fits benches e) f)

-- .. as it was read
pub fitting_fits : (benches : ℕ) (r : Record) → kind_of benches (entry_of r) ≡ Fitting → Fits benches r
fitting_fits benches r k = entry_fits_lem benches r (fitting_tests benches (entry_of r) k)
