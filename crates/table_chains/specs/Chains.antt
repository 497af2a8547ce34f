-- Chains made anew, as the code goes: from the last job down, each held job is pushed at the front of its holder's
-- chain.
use Rattle.std.specs.Prelude.{ℕ, zero, suc, ◌≤◌, ◌<◌, ◌≡◌, Bool, List, ◌∷◌, ◌↔◌, T, length, get_or}
use Rattle.spec_lists.specs.Lists.{nth, In, distinct}
use Rattle.spec_table.specs.Board.{stands, standing, holder_of}
use Rattle.spec_table.specs.Table.{Layout, vacant, holder_in, decode, encode, follow}
use Rattle.table_words.specs.Bytes.{layout_in}
use Rattle.table_size.specs.Written.{record_in, with_head, with_entry, with_next}
use Rattle.table_size.specs.declared.Size.{Size}
use Rattle.table_board.specs.BoardView.{HoldsBoard}
use Rattle.table_size.specs.Sizes.{BenchIn, SoundTable}

-- the jobs on a chain from job j on
unfoldable pub chain_from : List ℕ → ℕ → List ℕ
chain_from t j = follow (layout_in t).entries (suc (layout_in t).jobs) j

-- the first job on bench x's chain, as stored
abbrev pub stored_head : List ℕ → ℕ → ℕ
stored_head t x = nth (layout_in t).heads x 0

-- the job after job j on its chain, as stored
abbrev pub stored_next : List ℕ → ℕ → ℕ
stored_next t j = (record_in t j).next

-- bench x's chain begins with job j: on it are the jobs that x holds, each once
pub record ChainOf (t : List ℕ) (s : Size) (x j : ℕ) : Type 0 where
  pub stored : j ≡ stored_head t x
  pub small : j < 65536
  pub held : (i : ℕ) → In i (chain_from t j) ↔ (T (stands (decode t) i) × (holder_of (decode t) i ≡ x))
  pub once : T (distinct (chain_from t j))
  pub few : length (chain_from t j) ≤ s.jobs

-- at each bench the first job on its chain, and 0 beyond the last bench
pub record StoredHeads (t : List ℕ) (s : Size) (heads : List ℕ) : Type 0 where
  pub head : (x : ℕ) → BenchIn s x → get_or heads x 0 ≡ stored_head t x
  pub beyond : (x : ℕ) → s.benches < x → get_or heads x 0 ≡ 0

-- after job j on its chain comes the chain from job n on
pub record NextOf (t : List ℕ) (j n : ℕ) : Type 0 where
  pub stored : n ≡ stored_next t j
  pub small : n < 65536
  pub chain : chain_from t j ≡ j ∷ chain_from t n

-- the chains were made anew: the bytes are the board's, every chain rising
pub record ChainsRebuilt (t u : List ℕ) (s : Size) : Type 0 where
  pub bytes : u ≡ encode (decode t)
  pub sound : SoundTable u s
  pub board : decode u ≡ decode t

-- job j at the front of bench x's chain
abbrev pub push_at : Layout → ℕ → ℕ → Layout
push_at l j x = with_head (with_entry l j (with_next (nth l.entries j vacant) (nth l.heads x 0))) x j

-- job j at the front of its holder's chain, if it has one
abbrev pub push_for : Layout → ℕ → ℕ → Layout
push_for l j zero = l
push_for l j (suc x) = push_at l j (suc x)

-- job j pushed, by the holder that its record tells
unfoldable pub pushed : ℕ → Layout → Layout
pushed j l = push_for l j (holder_in (nth l.entries j vacant))

-- jobs j, j - 1, .. 1 pushed in turn
abbrev pub pushed_from : ℕ → Layout → Layout
pushed_from zero l = l
pushed_from (suc j) l = pushed_from j (pushed (suc j) l)

-- the table u is t after job j was pushed, and whether it stands
pub record Pushed (t u : List ℕ) (s : Size) (j : ℕ) (stood : Bool) : Type 0 where
  pub holds_board : HoldsBoard u s
  pub board : decode u ≡ decode t
  pub layout : layout_in u ≡ pushed j (layout_in t)
  pub stands : stood ≡ stands (decode t) j

-- the table u is t after all jobs were pushed; n is the number of those that stand
pub record Linked (t u : List ℕ) (s : Size) (n : ℕ) : Type 0 where
  pub holds_board : HoldsBoard u s
  pub board : decode u ≡ decode t
  pub layout : layout_in u ≡ pushed_from s.jobs (layout_in t)
  pub count : n ≡ standing (decode t)
