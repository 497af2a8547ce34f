-- The arrays of a search: how many benches are found, and what one bench more changes.
use Prim.Native.Nat.{ℕ, zero, suc, ◌+◌, ◌≤◌, ◌<◌}
use native.Mathlib.Omega.{arith}
use native.Mathlib.Decide.{ℕ_discrete, dec_le}
use mathlib.Core.Path.{◌≡◌, refl, sym, ap, ◌∙◌}
use mathlib.Core.Logic.{◌≢◌}
use mathlib.Core.List.{List}
use lib.Dec.{ltb}
use lib.ListN.{length, set, replicate}
use lib.Seq.{get_or-set_same, get_or-set_other}
use borrow.Author.Tests.{lt-ltb, le-ltb, eq-eqb, ne_eqb}
use Rattle.spec_lists.specs.Lists.{bit, total}
use Rattle.spec_table.specs.Table.{most_benches}
use Rattle.spec_lists.proofs.Counting.{bit_le, total_most, total_but_one}
use Rattle.graph_lists.specs.Arrays.{at}
use Rattle.graph_lists.proofs.Listing.{array_at}
use Rattle.sharing_search.specs.Searching.{Discovered, Grown}

-- how many are found

-- a bench counts 1 if it was found ..
abbrev pub mark : List ℕ → ℕ → ℕ
mark came y = bit (ltb 0 (at came y))

mark_some : (came : List ℕ) (y : ℕ) → 1 ≤ at came y → mark came y ≡ 1
mark_some came y l = ap bit (lt-ltb 0 (at came y) l)

-- .. and else 0
mark_none : (came : List ℕ) (y : ℕ) → at came y ≡ 0 → mark came y ≡ 0
mark_none came y e = ap bit (le-ltb 0 (at came y) (omega arith))

-- nothing is found where every number is 0
pub found_none : (n : ℕ) {came : List ℕ} → came ≡ replicate (most_benches + 1) 0 → total n (mark came) ≡ 0
found_none zero e = refl
found_none (suc n) {came} e = omega (arith, found_none n e, mark_none came (suc n) (array_at (most_benches + 1) e (suc n)))

-- one more is found after bench y got its job
pub found_more : (n found y j : ℕ) (came : List ℕ) → found ≡ total n (mark came) → 1 ≤ y → y ≤ n → y < length came → at came y ≡ 0 → 1 ≤ j → found + 1 ≡ total n (mark (set came y j))
found_more n found y j came e l u long new least =
    let is = mark_some (set came y j) y (omega (arith, get_or-set_same came y j 0 long)) in
    omega (arith, mark_none came y new, is, total_but_one n (mark came) (mark (set came y j)) y l u (λ z _ _ d. sym (ap (λ (m : ℕ). bit (ltb 0 m)) (get_or-set_other came y z j 0 d))))

-- where nothing beyond n counts, at most n do
total_beyond : (m n : ℕ) (f : ℕ → ℕ) → ((x : ℕ) → f x ≤ 1) → ((x : ℕ) → n < x → f x ≡ 0) → total m f ≤ n
total_beyond zero n f most beyond = omega arith
total_beyond (suc m) n f most beyond = go (total_beyond m n f most beyond)
  where
    go : total m f ≤ n → total (suc m) f ≤ n
    go ih = elim (dec_le (suc m) n) [
      | yes u ↦ omega (arith, total_most (suc m) f most)
      | no u ↦ omega (arith, ih, beyond (suc m) (omega arith))
    ]

module _ (m n : ℕ) (came : List ℕ) (bench : (y : ℕ) → 1 ≤ at came y → y ≤ n) where
  -- nothing beyond n counts
  beyond : (y : ℕ) → n < y → mark came y ≡ 0
  beyond y l = elim (dec_le 1 (at came y)) [ yes h ↦ absurd (omega (arith, bench y h)) | no h ↦ mark_none came y (omega arith) ]

  -- no more benches are found than there are
  pub found_few : total m (mark came) ≤ n
  found_few = total_beyond m n (mark came) (λ y. bit_le (ltb 0 (at came y))) beyond

-- one bench found

module _ {y j found : ℕ} {queue came : List ℕ} where
  module _ {found' : ℕ} {queue' came' : List ℕ} (f : Discovered y j found queue came found' queue' came') where
    -- where the bench was found before, nothing changes ..
    pub discovered_had : at came y ≢ 0 → (found' ≡ found) × (queue' ≡ queue) × (came' ≡ came)
    discovered_had d =
        let e = ne_eqb (at came y) 0 d in
        (omega (arith, f.count, ap bit e), rw e at f.place, rw e at f.job)

    -- .. and else just these two numbers
    pub discovered_new : at came y ≡ 0 → (found' ≡ found + 1) × (queue' ≡ set queue found y) × (came' ≡ set came y j)
    discovered_new z =
        let e = eq-eqb (at came y) 0 z in
        (omega (arith, f.count, ap bit e), rw e at f.place, rw e at f.job)

-- more benches found

-- nothing is new
pub grown_none : {found : ℕ} {queue came : List ℕ} → Grown found queue came found queue came
grown_none = record { more = omega arith; before = λ i h. refl; kept = λ y h. refl }

-- more twice is more
pub grown_more : {found : ℕ} {queue came : List ℕ} {found₁ : ℕ} {queue₁ came₁ : List ℕ} {found₂ : ℕ} {queue₂ came₂ : List ℕ} → Grown found queue came found₁ queue₁ came₁ → Grown found₁ queue₁ came₁ found₂ queue₂ came₂ → Grown found queue came found₂ queue₂ came₂
grown_more g h = record {
  more = omega (arith, g.more, h.more);
  before = λ i l. h.before i (omega (arith, g.more)) ∙ g.before i l;
  kept = λ y l. let e = g.kept y l in h.kept y (omega arith) ∙ e;
}

-- one bench more
pub grown_one : {y j found : ℕ} {queue came : List ℕ} {found' : ℕ} {queue' came' : List ℕ} → Discovered y j found queue came found' queue' came' → Grown found queue came found' queue' came'
grown_one {y} {j} {found} {queue} {came} f = elim (ℕ_discrete (at came y) 0) [
  | yes z ↦
      let (n, q, k) = discovered_new f z in
      rw (n, q, k) (record {
        more = omega arith;
        before = λ i l. get_or-set_other queue found i y 0 (λ d. absurd (omega arith));
        kept = λ w l. get_or-set_other came y w j 0 (λ d. absurd (omega (arith, ap (at came) d)));
      })
  | no d ↦ let (n, q, k) = discovered_had f d in rw (n, q, k) grown_none
]
