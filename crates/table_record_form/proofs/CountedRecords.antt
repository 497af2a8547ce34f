-- The pass over the records: one step of it, and what it has counted at its end.
use Rattle.std.specs.Prelude.{Some, None}
use Prim.Native.Nat.{ℕ, suc, ◌+◌, ◌≤◌, ◌<◌}
use native.Mathlib.Numerals.{add-one}
use native.Mathlib.Omega.{arith}
use mathlib.Core.Path.{◌≡◌, refl, sym, ap, subst, ◌∙◌}
use mathlib.Core.Logic.{inl, inr}
use mathlib.Core.Bool.{Bool, true, false}
use mathlib.Core.List.{List, [], ◌∷◌}
use lib.Dec.{T}
use lib.ListN.{length, drop, drop_of_length-le}
use lib.Seq.{drop-cons}
use Rattle.spec_lists.specs.Lists.{bit, In}
use Rattle.spec_table.specs.Table.{Entry, vacant, filled, entry_fits}
use Rattle.spec_lists.proofs.Tests.{true→T}
use Rattle.spec_table.proofs.Sound.{standing_from, standing_first}
use Rattle.table_record_form.specs.Kinds.{kind_if, kind_of, by_kind, counted, CountedTo}
use Rattle.table_words.specs.Bytes.{layout_in}
use Rattle.table_size.specs.Sizes.{SizeOf}
use Rattle.table_size.specs.Written.{record_in}
use Rattle.table_size.specs.declared.Size.{Size}
use Rattle.table_size.proofs.Sizes.{entries_long}
use Rattle.table_record_form.specs.declared.Kind.TheVariants.{Vacant, Fitting}

-- the records one by one

-- none is counted yet ..
pub counted_none : (t : List ℕ) (s : Size) → CountedTo t s 0 0
counted_none t s = record { number = omega arith; few = omega arith; rest = refl }

module _ {t : List ℕ} {s : Size} {done count : ℕ} (z : SizeOf t s) (c : CountedTo t s done count) where
  abbrev es : List Entry
  es = (layout_in t).entries

  -- .. what the next one, e, does to the count ..
  pub counted_step : {e : Entry} → done < s.jobs → e ≡ record_in t (done + 1) → by_kind (kind_of s.benches e) (counted s.benches count (drop (done + 1) es)) (counted s.benches (count + 1) (drop (done + 1) es)) ≡ counted s.benches 0 es
  counted_step d q =
      rw (q, add-one done, add-one count) (rw (drop-cons es done vacant (omega (arith, entries_long t s z))) at c.rest)

  -- .. it is no job's ..
  pub counted_pass : done < s.jobs → kind_of s.benches (record_in t (done + 1)) ≡ Vacant → CountedTo t s (done + 1) count
  counted_pass d k = record { number = omega arith; few = omega (arith, c.few); rest = rw k at (counted_step d refl) }

  -- .. or fits ..
  pub counted_turn : done < s.jobs → kind_of s.benches (record_in t (done + 1)) ≡ Fitting → CountedTo t s (done + 1) (count + 1)
  counted_turn d k = record { number = omega arith; few = omega (arith, c.few); rest = rw k at (counted_step d refl) }

  -- .. and none is left after the last
  pub counted_end : s.jobs ≤ done → counted s.benches 0 es ≡ Some count
  counted_end l =
      let few : length es ≤ done = omega (arith, entries_long t s z) in
      sym c.rest ∙ ap (counted s.benches count) (drop_of_length-le es few)

-- at its end

-- every filled record fits
abbrev pub AllFit : ℕ → List Entry → Type 0
AllFit benches es = (e : Entry) → In e es → T (filled e) → T (entry_fits benches e)

-- a pass that counts saw only records that fit, and counted the filled ones
pub counted_seen : (benches n i : ℕ) (es : List Entry) (m : ℕ) → counted benches n es ≡ Some m → AllFit benches es × (m ≡ n + length (standing_from i es))
unfolding kind_of
counted_seen benches n i [] m q = (λ e k f. absurd k, let d : n ≡ m = cc in omega arith)
counted_seen benches n i (e ∷ es) m q = go (filled e) (entry_fits benches e) refl refl (λ k r. counted_seen benches k (suc i) es m r) q
  where
    first : (T (filled e) → T (entry_fits benches e)) → AllFit benches es → AllFit benches (e ∷ es)
    first h r a (inl d) f = subst (λ (b : Entry). T (entry_fits benches b)) (sym d) (h (subst (λ (b : Entry). T (filled b)) d f))
    first h r a (inr k) f = r a k f

    go : (y z : Bool) → filled e ≡ y → entry_fits benches e ≡ z → ((k : ℕ) → counted benches k es ≡ Some m → AllFit benches es × (m ≡ k + length (standing_from (suc i) es))) → by_kind (kind_if y z) (counted benches n es) (counted benches (suc n) es) ≡ Some m → AllFit benches (e ∷ es) × (m ≡ n + length (standing_from i (e ∷ es)))
    go false z p q ih r =
        let h = ih n r in
        (first (λ f. absurd (subst T p f)) h.0, omega (arith, h.1, standing_first i e es, ap bit p))
    go true true p q ih r =
        let h = ih (suc n) r in
        (first (λ f. true→T (entry_fits benches e) q) h.0, omega (arith, h.1, standing_first i e es, ap bit p))
    go true false p q ih r = absurd (true→T false cc)

-- a pass over records that fit counts them
pub fit_counted : (benches n : ℕ) (es : List Entry) → AllFit benches es → counted benches n es ≡ None → ⊥
unfolding kind_of
fit_counted benches n [] f q = true→T false cc
fit_counted benches n (e ∷ es) f q = go (filled e) (entry_fits benches e) refl refl (λ k. fit_counted benches k es (λ a i. f a (inr i))) q
  where
    go : (y z : Bool) → filled e ≡ y → entry_fits benches e ≡ z → ((k : ℕ) → counted benches k es ≡ None → ⊥) → by_kind (kind_if y z) (counted benches n es) (counted benches (suc n) es) ≡ None → ⊥
    go false z p q ih r = ih n r
    go true true p q ih r = ih (suc n) r
    go true false p q ih r = subst T q (f e (inl refl) (true→T (filled e) p))
