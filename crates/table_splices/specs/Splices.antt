-- A gap in a bench's chain, and the link there written anew.
use Rattle.std.specs.Prelude.{ℕ, zero, suc, ◌≤◌, ◌<◌, ◌≡◌, ◌≢◌, List}
use Rattle.spec_lists.specs.Lists.{nth, update}
use Rattle.spec_table.specs.Board.{Board, holder_of}
use Rattle.spec_table.specs.Table.{Entry, vacant, Layout, entry_for}
use Rattle.table_words.specs.Bytes.{layout_in}
use Rattle.table_size.specs.Sizes.{JobIn}
use Rattle.table_size.specs.Written.{with_next, with_entry, HasLayout}
use Rattle.table_size.specs.declared.Size.{Size}
use Rattle.table_order.specs.InOrder.{FirstFrom}
use Rattle.table_splices.specs.declared.Gap.{Gap}

-- r is the last job below j that bench x holds, 0 where there is none
pub record LastBelow (b : Board) (s : Size) (x j r : ℕ) : Type 0 where
  pub found : r ≢ 0 → (r < j) × JobIn s r × (holder_of b r ≡ x)
  pub last : (i : ℕ) → i < j → JobIn s i → holder_of b i ≡ x → (r ≢ 0) × (i ≤ r)

-- g is where job j belongs in bench x's chain
pub record GapOf (b : Board) (s : Size) (x j : ℕ) (g : Gap) : Type 0 where
  pub before : LastBelow b s x j g.before
  pub behind : FirstFrom b s x j g.behind

-- the heads with job n after place i in bench x's chain ..
abbrev pub linked_heads : List ℕ → ℕ → ℕ → ℕ → List ℕ
linked_heads heads x zero n = update heads x n
linked_heads heads x (suc i) n = heads

-- .. and the records
abbrev pub linked_entries : List Entry → ℕ → ℕ → List Entry
linked_entries entries zero n = entries
linked_entries entries (suc i) n = update entries (suc i) (with_next (nth entries (suc i) vacant) n)

-- the layout with job n after job i in bench x's chain, or at its front where i is 0
abbrev pub linked : Layout → ℕ → ℕ → ℕ → Layout
linked l x i n =
    record {
      benches = l.benches;
      jobs = l.jobs;
      standing = l.standing;
      spare = l.spare;
      heads = linked_heads l.heads x i n;
      entries = linked_entries l.entries i n;
    }

-- the layout with job j's record written, these its benches and h its holder, and put into h's chain at this gap
abbrev pub inserted : Layout → ℕ → List ℕ → ℕ → Gap → Layout
inserted l j names h g = linked (with_entry l j (entry_for names h g.behind)) h g.before j

-- the table u is t with job j put in so
pub record Inserted (t u : List ℕ) (s : Size) (j : ℕ) (names : List ℕ) (h : ℕ) (g : Gap) : Type 0 where
  pub layout : HasLayout u s (inserted (layout_in t) j names h g)
