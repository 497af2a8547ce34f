-- One load more: what it does to the loads and to the excess.
use Prim.Native.Nat.{ℕ, suc, ◌+◌, ◌-◌, ◌≤◌, ◌<◌}
use native.Mathlib.Omega.{arith}
use mathlib.Core.Path.{◌≡◌, refl, sym, ap}
use mathlib.Core.Bool.{Bool}
use mathlib.Core.List.{List}
use lib.Dec.{T, eqb}
use lib.ListN.{length}
use Rattle.spec_lists.specs.Lists.{bit, within, nth, update}
use Rattle.spec_table.specs.Board.{load, excess}
use Rattle.spec_sharing.specs.Demand2.{OneMore}
use Rattle.spec_lists.proofs.Tests.{Compared, same, other, compared, within_low, within_high}
use Rattle.spec_lists.proofs.Counting.{bit_same, bit_other, total_but_one, count_update}

-- "one more at x" from a sum ..
pub one_more : (benches : ℕ) (less more : List ℕ) (x : ℕ) → T (within 1 benches x) → ((y : ℕ) → 1 ≤ y → y ≤ benches → load more y ≡ load less y + bit (eqb x y)) → OneMore benches less more x
one_more benches less more x t f =
    let low = within_low 1 benches x t in
    let high = within_high 1 benches x t in
    record {
      positive = low;
      bench = high;
      here = omega (arith, f x low high, bit_same x x refl);
      elsewhere = λ y l u n. omega (arith, f y l u, bit_other x y (λ e. n (sym e)));
    }

-- .. and as one
pub more_load : (benches : ℕ) (less more : List ℕ) (x : ℕ) → OneMore benches less more x → (y : ℕ) → 1 ≤ y → y ≤ benches → load more y ≡ load less y + bit (eqb x y)
more_load benches less more x o y l u = go (compared x y)
  where
    go : {z : Bool} → Compared x y z → load more y ≡ load less y + bit z
    go (same e) = omega (arith, o.here, ap (load more) e, ap (load less) e)
    go (other d) = omega (arith, o.elsewhere y l u (λ e. d (sym e)))

-- giving bench a job that nobody holds
pub given_one : (benches : ℕ) (holders : List ℕ) (j a : ℕ) → 1 ≤ j → j ≤ length holders → nth holders j 0 ≡ 0 → T (within 1 benches a) → OneMore benches holders (update holders j a) a
given_one benches holders j a l u e t =
    one_more benches holders (update holders j a) a t (λ y p q. omega (arith, count_update holders j a y l u, bit_other (nth holders j 0) y (λ d. omega arith)))

-- taking a job away from the bench that holds it
pub taken_one : (benches : ℕ) (holders : List ℕ) (j : ℕ) → 1 ≤ j → j ≤ length holders → T (within 1 benches (nth holders j 0)) → OneMore benches (update holders j 0) holders (nth holders j 0)
taken_one benches holders j l u t =
    one_more benches (update holders j 0) holders (nth holders j 0) t (λ y p q. omega (arith, count_update holders j 0 y l u, bit_other 0 y (λ d. omega arith)))

module _ (benches : ℕ) (less more : List ℕ) (x : ℕ) (o : OneMore benches less more x) where
  -- the excess changes by what the raised load is above the height
  excess_one : (h : ℕ) → excess benches more h + (load less x - h) ≡ excess benches less h + (load more x - h)
  unfolding excess
  excess_one h =
      total_but_one benches (λ y. load more y - h) (λ y. load less y - h) x o.positive o.bench (λ y l u n. ap (λ (k : ℕ). k - h) (o.elsewhere y l u n))

  -- the excess above a height below the raised load rises by one ..
  pub excess_rises : (h : ℕ) → h < load more x → excess benches more h ≡ suc (excess benches less h)
  excess_rises h l = omega (arith, o.here, excess_one h)

  -- .. and above any other height it stays
  pub excess_stays : (h : ℕ) → load more x ≤ h → excess benches more h ≡ excess benches less h
  excess_stays h l = omega (arith, o.here, excess_one h)

  -- so it never falls, and rises by one at most
  pub excess_grows : (h : ℕ) → (excess benches less h ≤ excess benches more h) × (excess benches more h ≤ suc (excess benches less h))
  excess_grows h = (omega (arith, o.here, excess_one h), omega (arith, o.here, excess_one h))
