-- What a record says to the walk that reads it.
use Prim.Native.Nat.{ℕ}
use Rattle.std.specs.Prelude.{Option, Some, None, Result, Ok, Err}
use Rattle.table_refusals.specs.declared.Refusal.{Refusal}
use Rattle.table_refusals.specs.declared.Refusal.TheVariants.{Unsound}
use mathlib.Core.Path.{◌≡◌, sym, ap, ◌∙◌, subst}
use mathlib.Core.Logic.{◌⊎◌, inl, inr, ⊎_elim}
use mathlib.Core.Bool.{Bool, true, cond}
use mathlib.Core.List.{List}
use lib.Dec.{T, eqb}
use borrow.Author.Tests.{ne_eqb}
use Rattle.spec_lists.specs.Lists.{member, In}
use Rattle.spec_lists.proofs.Tests.{T→true, never→false, both, left, right, T-eqb, eqb_T}
use Rattle.spec_lists.proofs.Elements.{in_nth}
use Rattle.spec_lists.proofs.NumberLists.{in_member}
use Rattle.spec_table.specs.Table.{Entry, holder_in, entry_fits}
use Rattle.spec_pair.specs.Pair.{is_held_by, names_both}
use Rattle.table_words.specs.Bytes.{layout_in}
use Rattle.table_size.specs.Sizes.{SizeOf}
use Rattle.table_size.specs.Written.{record_in}
use Rattle.table_size.specs.declared.Size.{Size}
use Rattle.table_records.specs.Records.{entry_of, RecordOf}
use Rattle.table_records.specs.declared.Record.{Record}
use Rattle.table_record_form.specs.Kinds.{kind_of}
use Rattle.table_record_form.specs.declared.Kind.{Kind}
use Rattle.table_record_form.specs.declared.Kind.TheVariants.{Fitting}
use Rattle.table_record_form.proofs.KindOfRecord.{fitting_tests, tests_fitting, fitting_fits}
use Rattle.table_pair.specs.Walking.{step_at}

-- what a record says to a walk along bench x's chain
abbrev step_of : ℕ → ℕ → ℕ → Entry → Result (Option ℕ) Refusal
step_of benches x y e = cond (is_held_by benches x e) (Ok (cond (names_both x y e.names) None (Some e.next))) (Err Unsound)

module _ {t : List ℕ} {s : Size} {j : ℕ} {r : Record} (x y : ℕ) (size : SizeOf t s) (record_of : RecordOf t j r) where
  -- the record that was read is job j's
  read_step : step_of s.benches x y (entry_of r) ≡ step_at (layout_in t) x y j
  unfolding step_at
  read_step i = step_of (sym size.benches i) x y (record_of.entry i)

  -- a record that x does not hold may not be read
  not_held_by : (T (is_held_by s.benches x (entry_of r)) → ⊥) → Err Unsound ≡ step_at (layout_in t) x y j
  not_held_by d =
      ap (λ (z : Bool). cond z (Ok (cond (names_both x y (entry_of r).names) None (Some r.next))) (Err Unsound)) (sym (never→false (is_held_by s.benches x (entry_of r)) d)) ∙ read_step

  -- it does not "name two different benches of 1 to B" ..
  pub read_unfit : {k : Kind} → k ≡ kind_of s.benches (entry_of r) → (k ≡ Fitting → ⊥) → Err Unsound ≡ step_at (layout_in t) x y j
  read_unfit e o =
      let benches = s.benches in
      not_held_by (λ h. o (e ∙ tests_fitting benches (entry_of r) (left (entry_fits benches (entry_of r)) (eqb (holder_in (entry_of r)) x) h)))

  module _ (fitting : kind_of s.benches (entry_of r) ≡ Fitting) {h : ℕ} (told : h ≡ holder_in (record_in t j)) where
    -- the holder that was read is its holder
    own_holder : holder_in (entry_of r) ≡ h
    own_holder = ap holder_in record_of.entry ∙ sym told

    -- .. or does not "have the walked one as holder" ..
    pub read_unheld : (h ≡ x → ⊥) → Err Unsound ≡ step_at (layout_in t) x y j
    read_unheld d =
        let e = entry_of r in
        not_held_by (λ k. d (sym own_holder ∙ T-eqb (holder_in e) x (right (entry_fits s.benches e) (eqb (holder_in e) x) k)))

    module _ (held : h ≡ x) where
      -- .. else x holds it, and is one of the benches that it names ..
      held_step : Ok (cond (member y (entry_of r).names) None (Some r.next)) ≡ step_at (layout_in t) x y j
      held_step =
          let e = entry_of r in
          let f = fitting_fits s.benches r fitting in
          let own = own_holder ∙ held in
          let fit : is_held_by s.benches x e ≡ true = T→true (is_held_by s.benches x e) (both (entry_fits s.benches e) (eqb (holder_in e) x) (fitting_tests s.benches e fitting) (eqb_T (holder_in e) x own)) in
          let named : In x e.names = subst (λ (z : ℕ). In z e.names) own (in_nth e.names r.holder 0 f.holder_least f.holder_most) in
          rw (fit, T→true (member x e.names) (in_member x e.names named)) at read_step

      -- .. so that it matches if it names y ..
      pub read_match : (r.first ≡ y) ⊎ (r.second ≡ y) → Ok None ≡ step_at (layout_in t) x y j
      read_match o =
          let names = (entry_of r).names in
          rw (T→true (member y names) (in_member y names (⊎_elim (λ e. inl (sym e)) (λ e. inr (inl (sym e))) o))) at held_step

      -- .. and leads on if not
      pub read_next : (r.first ≡ y → ⊥) → (r.second ≡ y → ⊥) → Ok (Some r.next) ≡ step_at (layout_in t) x y j
      read_next a b = rw (ne_eqb r.first y a, ne_eqb r.second y b) at held_step
