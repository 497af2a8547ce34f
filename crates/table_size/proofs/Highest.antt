-- The greatest of several numbers, one after the other.
use Rattle.std.proofs.Common.{◌≡◌, ℕ, ◌+◌, ◌<◌, ◌≤◌, max, add-one, arith}
use Rattle.spec_lists.specs.Lists.{greatest}

-- `most` is the greatest value of f over 1 to `done`, which is not above n
pub record Highest (n : ℕ) (f : ℕ → ℕ) (done most : ℕ) : Type 0 where
  pub few : done ≤ n
  pub value : most ≡ greatest done f

module _ {n : ℕ} {f : ℕ → ℕ} {done most : ℕ} (h : Highest n f done most) where
  -- over one more the greater one of two ..
  pub highest_turn : {p : ℕ} → done < n → p ≡ max most (f (done + 1)) → Highest n f (done + 1) p
  highest_turn l e = record { few = omega arith; value = rw add-one (cc (rw add-one at e, h.value)) }

  -- .. and in the end that over all
  pub highest_end : n ≤ done → most ≡ greatest n f
  highest_end l = let e : done ≡ n = omega (arith, h.few) in rw e at h.value
