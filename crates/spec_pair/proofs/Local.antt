-- "Only records to be read are tested": a table that agrees with another in the sizes, the two heads and the records that are read
-- is answered alike.
use Prim.Native.Nat.{ℕ, zero, suc, ◌+◌, ◌-◌, ◌*◌, ◌<◌}
use native.Mathlib.Omega.{arith}
use mathlib.Core.Path.{◌≡◌, refl, sym, ap, ◌∙◌}
use mathlib.Core.Logic.{inl, inr}
use mathlib.Core.Bool.{Bool, true, false, cond, false≢true}
use mathlib.Core.List.{List, [], ◌∷◌, ◌++◌}
use mathlib.Core.Option.{Option, none}
use lib.Dec.{T}
use lib.ListN.{get_or}
use Rattle.spec_lists.specs.Lists.{within, In, nth}
use Rattle.spec_table.specs.Board.{names_fit}
use Rattle.spec_table.specs.Table.{words, Layout, layout, vacant, follow, chains, fits}
use Rattle.spec_pair.specs.Pair.{Walk, read_then, walk, met_by, is_broken, first_walk, second_walk, unreadable_pair, records_read, job_found, AgreeFor}
use Rattle.spec_lists.proofs.Tests.{within_low, within_high}
use Rattle.spec_lists.proofs.Elements.{in_left, in_right}
use Rattle.spec_table.proofs.Named.{pair_fits}
use Rattle.spec_table.proofs.Places.{length_words, head_at, entry_from, entry_at, fits_length}
use Rattle.spec_table.proofs.Sound.{chain_from_lem}
use Rattle.spec_pair.proofs.Walks.{Turn, above, unfit, foreign, found, passed, turn, read_within}

-- the pair question is answered alike of two tables: refused alike, the same records read, and the same job if it is not refused
pub record SamePair (x y : ℕ) (t u : List ℕ) : Type 0 where
  pub broken : unreadable_pair (layout (words u)) x y ≡ unreadable_pair (layout (words t)) x y
  pub read : records_read (layout (words u)) x y ≡ records_read (layout (words t)) x y
  pub job : unreadable_pair (layout (words t)) x y ≡ false → job_found (layout (words u)) x y ≡ job_found (layout (words t)) x y

module _ (l m : Layout) (benches : m.benches ≡ l.benches) (jobs : m.jobs ≡ l.jobs) (x y : ℕ) (first : Option ℕ) where
  -- these jobs have the same records
  abbrev Same : List ℕ → Type 0
  Same js = (i : ℕ) → In i js → nth m.entries i vacant ≡ nth l.entries i vacant

  -- the walk along the chain from job j on
  abbrev along : Layout → ℕ → ℕ → ℕ → Walk
  along n before k j = walk n x y first before (follow n.entries k j)

  -- walks from the same job on are the same, if the records that the one reads are
  along_same : (before k j : ℕ) → Same (along l before k j).read → along m before k j ≡ along l before k j
  along_same before zero j f = refl
  along_same before (suc k) zero f = refl
  along_same before (suc k) (suc i) f = go (turn l x y first before (suc i) (follow l.entries k next)) f (along_same (suc i) k next)
    where
      next : ℕ
      next = (nth l.entries (suc i) vacant).next

      go : {w : Walk} → Turn l x y first before (suc i) (follow l.entries k next) w → Same w.read →
          (Same (along l (suc i) k next).read → along m (suc i) k next ≡ along l (suc i) k next) → along m before (suc k) (suc i) ≡ w
      go (above a) f ih = rw a
      go (unfit a n) f ih = rw (jobs, a, n)
      go (foreign a n h) f ih = rw (jobs, benches, f (suc i) (inl refl), a, n, h)
      go (found a n h q) f ih = rw (jobs, benches, f (suc i) (inl refl), a, n, h, q)
      go (passed a n h q) f ih =
          let onward = ap (read_then (suc i)) (ih (λ i o. f i (inr o))) in
          rw (jobs, benches, f (suc i) (inl refl), a, n, h, q) onward

  -- so are walks along bench x's chain, if it begins with the same job
  chain_same : nth m.heads x 0 ≡ nth l.heads x 0 → Same (walk l x y first 0 (nth (chains l) x [])).read →
      walk m x y first 0 (nth (chains m) x []) ≡ walk l x y first 0 (nth (chains l) x [])
  chain_same head f =
      ap (walk m x y first 0) (chain_from_lem m x ∙ (λ i. follow m.entries (suc (jobs i)) (head i)))
      ∙ along_same 0 (suc l.jobs) (nth l.heads x 0) (rw (chain_from_lem l x) at f)
      ∙ ap (walk l x y first 0) (sym (chain_from_lem l x))

-- of two tables that agree so, both fit or neither does: refusal 1 is the same
pub agree_fits : (x y : ℕ) (t u : List ℕ) → AgreeFor x y t u → fits u ≡ fits t
unfolding fits
agree_fits x y t u a = rw (a.long, a.benches, a.jobs)

module _ (x y : ℕ) (t u : List ℕ) (f : T (fits t)) (fit : T (names_fit (layout (words t)).benches (x ∷ y ∷ []))) (a : AgreeFor x y t u) where
  abbrev l : Layout
  l = layout (words t)

  abbrev m : Layout
  m = layout (words u)

  benches_same : m.benches ≡ l.benches
  unfolding layout
  benches_same = a.benches

  jobs_same : m.jobs ≡ l.jobs
  unfolding layout
  jobs_same = a.jobs

  -- a record that is read has the same words
  record_same : (j : ℕ) → T (within 1 l.jobs j) → In j (records_read l x y) → nth m.entries j vacant ≡ nth l.entries j vacant
  unfolding layout
  record_same j w i =
      let low = within_low 1 l.jobs j w in
      let high = within_high 1 l.jobs j w in
      let at = l.benches + 4 * j in
      let word : (k n : ℕ) → k < 4 → n ≡ 4 + l.benches + 4 * (j - 1) + k → get_or (words u) n 0 ≡ get_or (words t) n 0 = λ k n h e. rw e (a.records j k i h) in
      let w₀ = word 0 at (omega arith) (omega arith) in
      let w₁ = word 1 (at + 1) (omega arith) (omega arith) in
      let w₂ = word 2 (at + 2) (omega arith) (omega arith) in
      let w₃ = word 3 (at + 3) (omega arith) (omega arith) in
      entry_at (words u) j low (omega (arith, high, benches_same, fits_length t f, length_words u, a.long))
      ∙ ap (λ (n : ℕ). entry_from (words u) (n + 4 * j)) benches_same
      ∙ (λ i. record { names = w₀ i ∷ w₁ i ∷ []; holder = w₂ i; next = w₃ i })
      ∙ sym (entry_at (words t) j low (omega (arith, high, fits_length t f, length_words t)))

  head_same : (z : ℕ) → T (within 1 l.benches z) → get_or (words u) (3 + z) 0 ≡ get_or (words t) (3 + z) 0 → nth m.heads z 0 ≡ nth l.heads z 0
  head_same z w e =
      let low = within_low 1 l.benches z w in
      let high = within_high 1 l.benches z w in
      head_at (words u) z low (omega (arith, high, benches_same)) ∙ e ∙ sym (head_at (words t) z low high)

  -- the first walk is the same, for its records are read ..
  first_same : first_walk m x y ≡ first_walk l x y
  unfolding first_walk records_read
  first_same =
      let c = nth (chains l) x [] in
      chain_same l m benches_same jobs_same x y none (head_same x ((pair_fits l.benches x y).0 fit).0 a.first_head)
      (λ i o. record_same i (read_within l x y none 0 c i o) (go i o (is_broken (first_walk l x y).end)))
    where
      one : List ℕ
      one = (first_walk l x y).read

      two : List ℕ
      two = (second_walk l x y).read

      go : (i : ℕ) → In i one → (z : Bool) → In i (cond z one (one ++ two))
      go i o true = o
      go i o false = in_left i one two o

  -- .. and, if it is not broken, so is the second
  second_same : is_broken (first_walk l x y).end ≡ false → second_walk m x y ≡ second_walk l x y
  unfolding second_walk records_read
  second_same e =
      let o = met_by (first_walk l x y).end in
      let c = nth (chains l) y [] in
      ap (λ (w : Walk). walk m y x (met_by w.end) 0 (nth (chains m) y [])) first_same
      ∙ chain_same l m benches_same jobs_same y x o (head_same y ((pair_fits l.benches x y).0 fit).1 a.second_head)
      (λ i k. record_same i (read_within l y x o 0 c i k) (rw e (in_right i (first_walk l x y).read (second_walk l x y).read k)))

  -- "Only records to be read are tested"
  pub local : SamePair x y t u
  unfolding unreadable_pair records_read job_found
  local = go (is_broken (first_walk l x y).end) refl
    where
      go : (z : Bool) → is_broken (first_walk l x y).end ≡ z → SamePair x y t u
      go true e = record { broken = rw (first_same, e); read = rw (first_same, e); job = λ q. absurd (false≢true (sym (rw e at q))) }
      go false e = let d = second_same e in record { broken = rw (first_same, d); read = rw (first_same, d); job = λ q. rw (first_same, d) }
