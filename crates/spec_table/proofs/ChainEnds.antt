-- Chains that end: they list the same jobs whatever the fuel, none twice, and the chain from a job on them is their rest.
use Prim.Native.Nat.{ℕ, zero, suc}
use mathlib.Core.Path.{◌≡◌, refl, sym, ap, subst}
use mathlib.Core.Logic.{inl, inr}
use mathlib.Core.Bool.{not}
use mathlib.Core.List.{List, ◌∷◌}
use lib.Dec.{T}
use Rattle.spec_lists.specs.Lists.{member, distinct, In, nth}
use Rattle.spec_table.specs.Table.{Entry, vacant, follow}
use Rattle.spec_lists.proofs.Tests.{both}
use Rattle.spec_lists.proofs.NumberLists.{not_member}
use Rattle.spec_table.proofs.Sound.{Ends}

module _ (es : List Entry) where
  -- the job after job j
  abbrev pub after : ℕ → ℕ
  after j = (nth es j vacant).next

  -- a chain that ends within k jobs ends within one more ..
  pub ends_more : (k j : ℕ) → Ends es k j → Ends es (suc k) j
  ends_more zero zero e = tt
  ends_more zero (suc i) e = absurd e
  ends_more (suc k) zero e = tt
  ends_more (suc k) (suc i) e = ends_more k (after (suc i)) e

  -- .. and lists the same jobs with more fuel
  ends_same : (k j : ℕ) → Ends es k j → follow es (suc k) j ≡ follow es k j
  ends_same zero zero e = refl
  ends_same zero (suc i) e = absurd e
  ends_same (suc k) zero e = refl
  ends_same (suc k) (suc i) e = ap (λ (c : List ℕ). suc i ∷ c) (ends_same k (after (suc i)) e)

  -- the chain from a job on it ends too ..
  pub ends_on : (m k i j : ℕ) → Ends es k i → In j (follow es m i) → Ends es k j
  ends_on zero k i j e o = absurd o
  ends_on (suc m) k zero j e o = absurd o
  ends_on (suc m) zero (suc i) j e o = absurd e
  ends_on (suc m) (suc k) (suc i) j e (inl d) = subst (Ends es (suc k)) (sym d) e
  ends_on (suc m) (suc k) (suc i) j e (inr o) = ends_more k j (ends_on m k (after (suc i)) j e o)

  -- .. and goes on with the chain from the next job on
  pub ends_next : (k i : ℕ) → Ends es k (suc i) → follow es (suc k) (suc i) ≡ suc i ∷ follow es (suc k) (after (suc i))
  ends_next zero i e = absurd e
  ends_next (suc k) i e =
      let n = after (suc i) in
      ap (λ (c : List ℕ). suc i ∷ c) (sym (ends_same (suc k) n (ends_more k n e)))

  -- a chain that comes back to a job does not end ..
  ends_never : (m k i : ℕ) → In (suc i) (follow es m (after (suc i))) → Ends es k (suc i) → ⊥
  ends_never m zero i o e = e
  ends_never m (suc k) i o e = ends_never m k i o (ends_on m k (after (suc i)) (suc i) e o)

  -- .. so one that ends has no job twice
  pub ends_distinct : (m k j : ℕ) → Ends es k j → T (distinct (follow es m j))
  ends_distinct zero k j e = tt
  ends_distinct (suc m) k zero e = tt
  ends_distinct (suc m) zero (suc i) e = absurd e
  ends_distinct (suc m) (suc k) (suc i) e =
      let c = follow es m (after (suc i)) in
      both (not (member (suc i) c)) (distinct c) (not_member (suc i) c (λ o. ends_never m (suc k) i o e)) (ends_distinct m k (after (suc i)) e)
