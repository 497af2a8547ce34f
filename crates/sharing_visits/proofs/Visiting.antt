-- Marks: one bench's own, what one visit or walk adds to another's, and the pair that falls.
use Prim.Native.Nat.{ℕ, zero, suc, ◌+◌, ◌*◌, ◌≤◌, ◌<◌}
use native.Mathlib.Nat.{suc-mul, mul-le-mul_right}
use native.Mathlib.Omega.{arith}
use native.Mathlib.Decide.{ℕ_discrete}
use mathlib.Core.Path.{◌≡◌, refl, sym, ap, subst, ◌∙◌}
use mathlib.Core.Logic.{◌⊎◌, inl, inr, ⊎_elim, ◌≢◌, ◌↔◌}
use mathlib.Core.Bool.{Bool, true, false, not}
use mathlib.Core.List.{List, [], ◌∷◌}
use lib.Dec.{T, T_not}
use lib.ListN.{length, set, length-set}
use lib.Seq.{get_or-set_same, get_or-set_other}
use Rattle.spec_lists.specs.Lists.{bit, within, total, In}
use Rattle.spec_table.specs.Table.{most_benches, most_jobs}
use Rattle.spec_lists.proofs.Tests.{true→T, T→true, false→not, within_low, within_high, Compared, same, other, compared}
use Rattle.spec_lists.proofs.Counting.{total_le, total_but_one}
use Rattle.table_size.specs.declared.Size.{Size}
use Rattle.graph_lists.specs.Arrays.{at, Reached, here, step}
use Rattle.sharing_visits.specs.ArrayChains.{chain_along, chain_on, Walkable, FromChain, Leads}
use Rattle.sharing_visits.specs.Marks.{mark, Marks, Heavy, ClosedOver}

-- chains

module _ (next : List ℕ) where
  -- 0 begins no chain ..
  pub chain_none : {j : ℕ} → j ≡ 0 → chain_on next j ≡ []
  unfolding chain_on
  chain_none e = rw e refl

  -- .. any other number does ..
  chain_first : (j : ℕ) → j ≢ 0 → In j (chain_on next j)
  unfolding chain_on
  chain_first zero d = absurd (d refl)
  chain_first (suc i) d = inl refl

  -- .. a chain that is shorter than its fuel is the same with more ..
  chain_more : (k j : ℕ) → length (chain_along next k j) < k → chain_along next (suc k) j ≡ chain_along next k j
  chain_more zero j l = absurd (omega arith)
  chain_more (suc k) zero l = refl
  chain_more (suc k) (suc i) l = ap (λ (c : List ℕ). suc i ∷ c) (chain_more k (at next (suc i)) (omega arith))

  -- .. so one that ends goes on with the chain from the next job on
  pub chain_next : (j : ℕ) → j ≢ 0 → length (chain_on next j) ≤ most_jobs → chain_on next j ≡ j ∷ chain_on next (at next j)
  unfolding chain_on
  chain_next zero d l = absurd (d refl)
  chain_next (suc i) d l = ap (λ (c : List ℕ). suc i ∷ c) (sym (chain_more most_jobs (at next (suc i)) (omega arith)))

module _ {next to : List ℕ} {j : ℕ} (w : Walkable next to j) where
  -- a number that begins a chain is a job's or 0 ..
  pub walk_most : j ≤ most_jobs
  walk_most = elim (ℕ_discrete j 0) [ yes e ↦ omega arith | no d ↦ w.jobs j (chain_first next j d) ]

  module _ (d : j ≢ 0) where
    -- .. that job leads to a bench ..
    pub walk_leads : T (within 1 most_benches (at to j))
    walk_leads = w.leads j (chain_first next j d)

    -- .. and the chain after it can be walked too
    pub walk_rest : Walkable next to (at next j)
    walk_rest =
        let e = chain_next next j d w.ends in
        let on : (i : ℕ) → In i (chain_on next (at next j)) → In i (chain_on next j) = λ i o. rw e (inr o) in
        record {
          ends = omega (arith, w.ends, ap length e);
          jobs = λ i o. w.jobs i (on i o);
          leads = λ i o. w.leads i (on i o);
        }

-- what falls

-- how many of benches 1 to n are not marked
unmarked : ℕ → List Bool → ℕ
unmarked n marks = total n (λ y. bit (not (mark marks y)))

-- a mark that stays is not counted more
bit_unmarked : (a b : Bool) → (T a → T b) → bit (not b) ≤ bit (not a)
bit_unmarked true b f = omega (arith, ap (λ (z : Bool). bit (not z)) (T→true b (f tt)))
bit_unmarked false true f = omega arith
bit_unmarked false false f = omega arith

-- where no mark goes, no more are unmarked ..
unmarked_less : (n : ℕ) (marks marks' : List Bool) → ((y : ℕ) → T (mark marks y) → T (mark marks' y)) → unmarked n marks' ≤ unmarked n marks
unfolding unmarked
unmarked_less n marks marks' f =
    total_le n (λ y. bit (not (mark marks' y))) (λ y. bit (not (mark marks y))) (λ y l u. bit_unmarked (mark marks y) (mark marks' y) (f y))

-- .. and one mark more is one unmarked bench less
unmarked_one : (n : ℕ) (marks : List Bool) (x : ℕ) → 1 ≤ x → x ≤ n → x < length marks → mark marks x ≡ false → unmarked n marks ≡ suc (unmarked n (set marks x true))
unfolding unmarked
unmarked_one n marks x l u h e =
    let f : ℕ → ℕ = λ y. bit (not (mark marks y)) in
    let g : ℕ → ℕ = λ y. bit (not (mark (set marks x true) y)) in
    let p : f x ≡ 1 = ap (λ (z : Bool). bit (not z)) e in
    let q : g x ≡ 0 = ap (λ (z : Bool). bit (not z)) (get_or-set_same marks x true false h) in
    omega (arith, total_but_one n f g x l u (λ y k m d. sym (ap (λ (z : Bool). bit (not z)) (get_or-set_other marks x y true false d))))

-- the pair of unmarked benches and remaining chain, as one number
pub falling : List Bool → List ℕ → ℕ
falling marks chain = unmarked most_benches marks * (most_jobs + 1) + length chain

-- it falls where a bench is marked, whatever chain is walked then ..
pub falls_marked : (marks : List Bool) (x : ℕ) (chain : List ℕ) → Marks marks → T (within 1 most_benches x) → mark marks x ≡ false → length chain ≤ most_jobs → falling (set marks x true) chain < falling marks []
unfolding falling
falls_marked marks x chain m b e f =
    let l = within_low 1 most_benches x b in
    let h = within_high 1 most_benches x b in
    let u = unmarked most_benches (set marks x true) in
    let n : unmarked most_benches marks ≡ suc u = unmarked_one most_benches marks x l h (omega (arith, m.long)) e in
    rw n (omega (arith, suc-mul u (most_jobs + 1)))

-- .. and where no mark goes and less of the chain is left
falls_left : (marks marks' : List Bool) (chain chain' : List ℕ) → ((y : ℕ) → T (mark marks y) → T (mark marks' y)) → length chain' < length chain → falling marks' chain' < falling marks chain
unfolding falling
falls_left marks marks' chain chain' f r =
    omega (arith, mul-le-mul_right (most_jobs + 1) (unmarked_less most_benches marks marks' f))

module _ {next to : List ℕ} (marks : List Bool) {j : ℕ} (w : Walkable next to j) (d : j ≢ 0) where
  -- so a job's other bench ..
  pub falls_visit : falling marks [] < falling marks (chain_on next j)
  falls_visit = falls_left marks marks (chain_on next j) [] (λ y t. t) (omega (arith, ap length (chain_next next j d w.ends)))

  -- .. and the chain after it leave less to do
  pub falls_walk : (marks' : List Bool) → ((y : ℕ) → T (mark marks y) → T (mark marks' y)) → falling marks' (chain_on next (at next j)) < falling marks (chain_on next j)
  falls_walk marks' f =
      falls_left marks marks' (chain_on next j) (chain_on next (at next j)) f (omega (arith, ap length (chain_next next j d w.ends)))

-- what benches bring in

-- a mark more leaves one for each bench
pub marks_set : (m : List Bool) (x : ℕ) → Marks m → Marks (set m x true)
marks_set m x l = record { long = length-set m x true ∙ l.long }

module _ {J : ℕ → ℕ → Type 0} where
  -- marked benches bring in nothing ..
  closed_none : (P : ℕ → Type 0) (m : List Bool) → Marks m → ((y : ℕ) → P y → T (mark m y)) → ClosedOver J P m m
  closed_none P m l f =
      record {
        long = l;
        grows = λ y t. t;
        every = f;
        only = λ y n t. absurd (T_not (mark m y) n t);
        shut = λ z y n t. absurd (T_not (mark m z) n t);
      }

  -- .. nor does a single one
  pub closed_marked : (x : ℕ) (m : List Bool) → Marks m → mark m x ≡ true → ClosedOver J (λ y. y ≡ x) m m
  closed_marked x m l e = closed_none (λ y. y ≡ x) m l (λ y i. true→T (mark m y) (ap (mark m) i ∙ e))

  -- some benches, and then others
  closed_both : (P Q R : ℕ → Type 0) (m m₁ m₂ : List Bool) → ((y : ℕ) → R y ↔ (P y ⊎ Q y)) → ClosedOver J P m m₁ → ClosedOver J Q m₁ m₂ → ClosedOver J R m m₂
  closed_both P Q R m m₁ m₂ f p q =
      record {
        long = q.long;
        grows = λ y t. q.grows y (p.grows y t);
        every = λ y r. ⊎_elim (λ i. q.grows y (p.every y i)) (λ i. q.every y i) ((f y).0 r);
        only = λ y n t. only y n t (mark m₁ y) refl;
        shut = λ z y n t j. shut z y n t j (mark m₁ z) refl;
      }
    where
      only : (y : ℕ) → T (not (mark m y)) → T (mark m₂ y) → (b : Bool) → mark m₁ y ≡ b → (x : ℕ) × R x × Reached J x y
      only y n t true e = let r = p.only y n (true→T (mark m₁ y) e) in (r.0, (f r.0).1 (inl r.1), r.2)
      only y n t false e = let r = q.only y (false→not (mark m₁ y) e) t in (r.0, (f r.0).1 (inr r.1), r.2)

      shut : (z y : ℕ) → T (not (mark m z)) → T (mark m₂ z) → J z y → (b : Bool) → mark m₁ z ≡ b → T (mark m₂ y)
      shut z y n t j true e = q.grows y (p.shut z y n (true→T (mark m₁ z) e) j)
      shut z y n t j false e = q.shut z y (false→not (mark m₁ z) e) t j

module _ (head next to : List ℕ) where
  -- a job on x's chain leads to y
  abbrev J : ℕ → ℕ → Type 0
  J = Leads head next to

  -- an unmarked bench: its own mark, and what its chain brings in
  pub closed_chain : (x : ℕ) (m m' : List Bool) → x < length m → mark m x ≡ false → ClosedOver J (FromChain next to (at head x)) (set m x true) m' → ClosedOver J (λ y. y ≡ x) m m'
  closed_chain x m m' h e p =
      record {
        long = p.long;
        grows = λ y t. p.grows y (kept y t (compared y x));
        every = λ y i. subst (λ (z : ℕ). T (mark m' z)) (sym i) (p.grows x own);
        only = λ y n t. (x, refl, only y n t (compared y x));
        shut = λ z y n t j. shut z y n t j (compared z x);
      }
    where
      own : T (mark (set m x true) x)
      own = true→T (mark (set m x true) x) (get_or-set_same m x true false h)

      kept : (y : ℕ) → T (mark m y) → {b : Bool} → Compared y x b → T (mark (set m x true) y)
      kept y t (same i) = subst (λ (z : ℕ). T (mark (set m x true) z)) (sym i) own
      kept y t (other d) = rw (get_or-set_other m x y true false d) t

      new : (y : ℕ) → T (not (mark m y)) → (y ≡ x → ⊥) → T (not (mark (set m x true) y))
      new y n d = rw (get_or-set_other m x y true false d) n

      only : (y : ℕ) → T (not (mark m y)) → T (mark m' y) → {b : Bool} → Compared y x b → Reached J x y
      only y n t (same i) = subst (λ (z : ℕ). Reached J x z) (sym i) (here x)
      only y n t (other d) = let r = p.only y (new y n d) t in step x r.0 y r.1 r.2

      shut : (z y : ℕ) → T (not (mark m z)) → T (mark m' z) → J z y → {b : Bool} → Compared z x b → T (mark m' y)
      shut z y n t j (same i) = p.every y (subst (λ (k : ℕ). J k y) i j)
      shut z y n t j (other d) = p.shut z y (new z n d) t j

  -- a chain that has ended brings in nothing ..
  pub closed_end : (j : ℕ) (m : List Bool) → Marks m → j ≡ 0 → ClosedOver J (FromChain next to j) m m
  closed_end j m l e = closed_none (FromChain next to j) m l (λ y (i, o, f). absurd (subst (In i) (chain_none next e) o))

  -- .. and one with a job on it that job's other bench, and what the chain after it does
  pub closed_job : (j : ℕ) (m m₁ m₂ : List Bool) → chain_on next j ≡ j ∷ chain_on next (at next j) → ClosedOver J (λ y. y ≡ at to j) m m₁ → ClosedOver J (FromChain next to (at next j)) m₁ m₂ → ClosedOver J (FromChain next to j) m m₂
  closed_job j m m₁ m₂ c p q =
      closed_both (λ y. y ≡ at to j) (FromChain next to (at next j)) (FromChain next to j) m m₁ m₂ (λ y. (λ (i, o, f). split i y f (subst (In i) c o), join y)) p q
    where
      split : (i y : ℕ) → at to i ≡ y → In i (j ∷ chain_on next (at next j)) → (y ≡ at to j) ⊎ FromChain next to (at next j) y
      split i y f (inl e) = inl (sym f ∙ ap (at to) e)
      split i y f (inr o) = inr (i, o, f)

      join : (y : ℕ) → (y ≡ at to j) ⊎ FromChain next to (at next j) y → FromChain next to j y
      join y (inl e) = (j, subst (In j) (sym c) (inl refl), sym e)
      join y (inr (i, o, f)) = (i, subst (In i) (sym c) (inr o), f)

-- the chains of the benches with load h or more

-- y is one of these benches, and comes before bench x
pub record Passed (loads : List ℕ) (h x y : ℕ) : Type 0 where
  pub least : 1 ≤ y
  pub before : y < x
  pub heavy : h ≤ at loads y

module _ {loads : List ℕ} {h x y : ℕ} where
  -- a bench that comes before x comes before the next one ..
  pub passed_on : Passed loads h x y → Passed loads h (x + 1) y
  passed_on p = record { least = p.least; before = omega (arith, p.before); heavy = p.heavy }

  -- .. one that comes before the next one is x or comes before x ..
  pub passed_before : y ≢ x → Passed loads h (x + 1) y → Passed loads h x y
  passed_before d p = record { least = p.least; before = omega (arith, p.before); heavy = p.heavy }

  -- .. and is not x where x has less
  pub passed_light : at loads x < h → Passed loads h (x + 1) y → Passed loads h x y
  passed_light l p = passed_before (λ e. omega (arith, p.heavy, ap (at loads) e)) p

-- at the end they are all of them
pub passed_all : (loads : List ℕ) (h x : ℕ) (s : Size) → x ≡ s.benches + 1 → (y : ℕ) → Passed loads h x y ↔ Heavy s loads h y
passed_all loads h x s e y = (
  λ p. (record { least = p.least; most = omega (arith, p.before) }, p.heavy),
  λ (b, l). record { least = b.least; before = omega (arith, b.most); heavy = l },
)

-- such a bench leads to y
abbrev pub FromPassed : (ℕ → ℕ → Type 0) → List ℕ → ℕ → ℕ → ℕ → Type 0
FromPassed J loads h x y = (z : ℕ) × Passed loads h x z × J z y
