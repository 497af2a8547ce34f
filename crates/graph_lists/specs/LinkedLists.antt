-- Numbers listed by a key, and what is on a list.
use Rattle.std.specs.Prelude.{ℕ, suc, ◌≤◌, ◌<◌, ◌≡◌, ◌≢◌, List, length}
use Rattle.graph_lists.specs.Arrays.{at}

-- r is the least number of i to n whose key is k, 0 where there is none
pub record LeastFrom (key : List ℕ) (n i k r : ℕ) : Type 0 where
  pub found : r ≢ 0 → (i ≤ r) × (r ≤ n) × (at key r ≡ k)
  pub least : (m : ℕ) → i ≤ m → m ≤ n → at key m ≡ k → (r ≢ 0) × (r ≤ m)

-- the arrays are long enough to list 1 to n by their keys, and nothing is listed yet
pub record Listable (n : ℕ) (key head next : List ℕ) : Type 0 where
  pub small : n < 65536
  pub keys : n < length key
  pub places : n < length next
  pub below : (i : ℕ) → 1 ≤ i → i ≤ n → at key i < length head
  pub blank : (k : ℕ) → at head k ≡ 0

-- 1 to n by their keys, which are below m: `head` has the least with each key, and `next` after each number the next
-- with the same key
pub record ListedBy (m n : ℕ) (key head next : List ℕ) : Type 0 where
  pub heads : (k : ℕ) → k < m → LeastFrom key n 1 k (at head k)
  pub later : (i : ℕ) → 1 ≤ i → i ≤ n → LeastFrom key n (suc i) (at key i) (at next i)
  pub long : length head ≡ m

-- b is on the list that begins with a; 0 ends a list
pub data On (next : List ℕ) : ℕ → ℕ → Type 0 where
  on_head : (a : ℕ) → a ≢ 0 → On next a a
  on_tail : (a b : ℕ) → a ≢ 0 → On next (at next a) b → On next a b
