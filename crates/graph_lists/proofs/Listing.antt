-- Arrays made of one value; numbers listed by a key: one turn of the listing, and what is on a list.
use Prim.Native.Nat.{ℕ, zero, suc, ◌+◌, ◌-◌, ◌≤◌, ◌<◌}
use native.Mathlib.Omega.{arith}
use native.Mathlib.Decide.{ℕ_discrete}
use mathlib.Core.Path.{◌≡◌, refl, sym, ap, ◌∙◌}
use mathlib.Core.Logic.{◌⊎◌, inl, inr, ◌↔◌, ◌≢◌}
use mathlib.Core.List.{List}
use lib.Dec.{T}
use lib.ListN.{length, get_or, set, replicate, length-set, length-replicate}
use lib.Seq.{get_or-set_same, get_or-set_other}
use Rattle.spec_lists.specs.Lists.{within}
use Rattle.spec_lists.proofs.Tests.{within_low, within_high, within_both}
use Rattle.spec_lists.proofs.Elements.{each_replicate, each_get_d}
use Rattle.graph_lists.specs.Arrays.{at}
use Rattle.graph_lists.specs.LinkedLists.{LeastFrom, Listable, ListedBy, On, on_head, on_tail}

-- arrays made of one value

-- an array made of one value has it everywhere, beyond its end too ..
pub array_at : {A : Type 0} {a : A} {l : List A} (n : ℕ) → l ≡ replicate n a → (k : ℕ) → get_or l k a ≡ a
array_at {a = a} n e k = rw e (each_get_d (λ x. x ≡ a) (replicate n a) k a refl (each_replicate (λ x. x ≡ a) n a refl))

-- .. and is as long as it was made
pub array_long : {A : Type 0} {n : ℕ} {l : List A} (a : A) → l ≡ replicate n a → length l ≡ n
array_long {n = n} a e = ap length e ∙ length-replicate n a

-- the least with a key

module _ {key : List ℕ} {n : ℕ} where
  -- beyond n there is no number
  least_none : (k : ℕ) → LeastFrom key n (suc n) k 0
  least_none k = record { found = λ d. absurd (d refl); least = λ m h l e. absurd (omega arith) }

  -- a number is the least from itself on with its key ..
  least_here : (i : ℕ) → i ≢ 0 → i ≤ n → LeastFrom key n i (at key i) i
  least_here i d h = record { found = λ _. (omega arith, h, refl); least = λ m l _ _. (d, l) }

  -- .. and for another key the least is the same with it and without it
  least_other : (i k r : ℕ) → k ≢ at key i → LeastFrom key n (suc i) k r → LeastFrom key n i k r
  least_other i k r d f =
      record {
        found = λ h. let g = f.found h in (omega (arith, g.0), g.1, g.2);
        least = λ m l h e. elim (ℕ_discrete m i) [
          | yes q ↦ absurd (d (rw q at (sym e)))
          | no q ↦ f.least m (omega arith) h e
        ];
      }

-- one turn of the listing

-- the numbers above i, to n, are listed by their keys, which are below m, in arrays of m and p numbers
pub record Listing (m p n : ℕ) (key : List ℕ) (i : ℕ) (head next : List ℕ) : Type 0 where
  pub heads : (k : ℕ) → k < m → LeastFrom key n (suc i) k (at head k)
  pub later : (a : ℕ) → i < a → a ≤ n → LeastFrom key n (suc a) (at key a) (at next a)
  pub number : i ≤ n
  pub long : length head ≡ m
  pub places : length next ≡ p

-- none is listed at first ..
pub listing_start : (n : ℕ) (key head next : List ℕ) → Listable n key head next → Listing (length head) (length next) n key n head next
listing_start n key head next l =
    record {
      heads = λ k h. rw (l.blank k) (least_none k);
      later = λ a h k. absurd (omega arith);
      number = omega arith;
      long = refl;
      places = refl;
    }

module _ {m p n : ℕ} {key : List ℕ} {i : ℕ} {head next : List ℕ} where
  -- .. each next one goes before those with its key ..
  pub listing_turn : Listing m p n key i head next → 0 < i → n < p → at key i < m → Listing m p n key (i - 1) (set head (at key i) i) (set next i (at head (at key i)))
  listing_turn l h w b =
      record {
        heads = λ k q. let e : suc (i - 1) ≡ i = omega arith in rw e (heads k q);
        later = later;
        number = omega (arith, l.number);
        long = length-set head (at key i) i ∙ l.long;
        places = length-set next i (at head (at key i)) ∙ l.places;
      }
    where
      heads : (k : ℕ) → k < m → LeastFrom key n i k (at (set head (at key i) i) k)
      heads k q =
          elim (ℕ_discrete k (at key i)) [
            | yes e ↦ rw (e, get_or-set_same head (at key i) i 0 (omega (arith, l.long))) (least_here i (omega arith) l.number)
            | no d ↦ rw (get_or-set_other head (at key i) k i 0 d) (least_other i k (at head k) d (l.heads k q))
          ]

      later : (a : ℕ) → i - 1 < a → a ≤ n → LeastFrom key n (suc a) (at key a) (at (set next i (at head (at key i))) a)
      later a g k =
          elim (ℕ_discrete a i) [
            | yes e ↦ rw (e, get_or-set_same next i (at head (at key i)) 0 (omega (arith, l.number, l.places))) (l.heads (at key i) b)
            | no d ↦ rw (get_or-set_other next i a (at head (at key i)) 0 d) (l.later a (omega arith) k)
          ]

  -- .. and in the end all are
  pub listing_end : Listing m p n key i head next → i ≡ 0 → ListedBy m n key head next
  listing_end l e =
      record {
        heads = λ k h. rw e at (l.heads k h);
        later = λ a h k. l.later a (omega arith) k;
        long = l.long;
      }

-- how many numbers can come

-- how many numbers to m can come from a on; a list ends with 0
abbrev pub left : ℕ → ℕ → ℕ
left m zero = 0
left m (suc a) = m - a

-- fewer can come from the next on
pub left_less : (m a b : ℕ) → a ≢ 0 → a ≤ m → (b ≡ 0) ⊎ ((a < b) × (b ≤ m)) → left m b < left m a
left_less m zero b d u r = absurd (d refl)
left_less m (suc a) zero d u r = omega arith
left_less m (suc a) (suc b) d u (inl e) = absurd (omega arith)
left_less m (suc a) (suc b) d u (inr r) = omega arith

-- lists by a key

module _ {m n : ℕ} {key head next : List ℕ} (l : ListedBy m n key head next) where
  -- on the list from the least of i to n with key k on are numbers of i to n with that key ..
  on_keyed : (i k r a : ℕ) → 1 ≤ i → LeastFrom key n i k r → On next r a → (i ≤ a) × (a ≤ n) × (at key a ≡ k)
  on_keyed i k r a h f (on_head _ d) = f.found d
  on_keyed i k r a h f (on_tail _ _ d o) =
      let g = f.found d in
      let q = on_keyed (suc r) (at key r) (at next r) a (omega arith) (l.later r (omega (arith, g.0)) g.1) o in
      (omega (arith, g.0, q.0), q.1, q.2 ∙ g.2)

  -- .. and all of them; less than `most` lie between i and the number
  keyed_on : (most i k r a : ℕ) → a < i + most → 1 ≤ i → LeastFrom key n i k r → i ≤ a → a ≤ n → at key a ≡ k → On next r a
  keyed_on zero i k r a w h f b t e = absurd (omega arith)
  keyed_on (suc most) i k r a w h f b t e =
      let g = f.least a b t e in
      let q = f.found g.0 in
      elim (ℕ_discrete a r) [
        | yes j ↦ rw j (on_head r g.0)
        | no d ↦
            on_tail r a g.0
            (keyed_on most (suc r) (at key r) (at next r) a (omega (arith, q.0)) (omega arith) (l.later r (omega (arith, q.0)) q.1) (omega (arith, g.1)) t (e ∙ sym q.2))
      ]

-- on the list of a key are just the numbers with that key
pub on_listed : {m n : ℕ} {key head next : List ℕ} → ListedBy m n key head next → (k a : ℕ) → k < m → On next (at head k) a ↔ (T (within 1 n a) × (at key a ≡ k))
on_listed {m} {n} {key} {head} {next} l k a h = (
  λ o. let g = on_keyed l 1 k (at head k) a (omega arith) (l.heads k h) o in (within_both 1 n a g.0 g.1, g.2),
  λ w. keyed_on l a 1 k (at head k) a (omega arith) (omega arith) (l.heads k h) (within_low 1 n a w.0) (within_high 1 n a w.0) w.1,
)
