-- A sound table's chains as the crate above sees them.
use Prim.Native.Nat.{ℕ, zero, suc, ◌≤◌}
use native.Mathlib.Omega.{arith}
use native.Mathlib.Decide.{ℕ_discrete}
use mathlib.Core.Path.{◌≡◌, refl, sym, ap, subst}
use mathlib.Core.Logic.{inl, ◌↔◌}
use mathlib.Core.List.{List, [], ◌∷◌}
use lib.Dec.{T}
use Rattle.spec_lists.specs.Lists.{within, distinct, In, nth}
use Rattle.spec_table.specs.Board.{holder_of, stands}
use Rattle.spec_table.specs.Table.{Entry, chains, decode}
use Rattle.spec_lists.proofs.Tests.{within_both}
use Rattle.spec_lists.proofs.Elements.{in_each, in_nth}
use Rattle.spec_lists.proofs.Counting.{distinct_count, few}
use Rattle.spec_table.proofs.Sound.{Ends, chain_ends, chain_from_lem, on_chain}
use Rattle.spec_table.proofs.ChainEnds.{ends_on, ends_next, ends_distinct}
use Rattle.spec_table.proofs.Named.{holder_bench}
use Rattle.table_board.proofs.RecordsAsBoard.{stands_job}
use Rattle.table_size.proofs.Sizes.{heads_long, board_bench}
use Rattle.table_words.specs.Bytes.{layout_in}
use Rattle.table_size.specs.Sizes.{JobIn, BenchIn, SoundTable}
use Rattle.table_records.specs.Records.{RecordOf}
use Rattle.table_size.specs.Written.{HeadOf}
use Rattle.table_records.specs.declared.Record.{Record}
use Rattle.table_chains.specs.Chains.{chain_from, stored_head, stored_next, ChainOf, NextOf}
use Rattle.table_size.specs.declared.Size.{Size}

-- "Next 0 ends a chain"
pub chain_end : (t : List ℕ) → chain_from t 0 ≡ []
unfolding chain_from
chain_end t = refl

-- any other number begins one
pub chain_begins : (t : List ℕ) (j : ℕ) → 1 ≤ j → In j (chain_from t j)
unfolding chain_from
chain_begins t zero l = absurd (omega arith)
chain_begins t (suc i) l = inl refl

-- the chains of a sound table

-- bench x's chain is the chain from its head
head_chain : (t : List ℕ) (x : ℕ) → nth (chains (layout_in t)) x [] ≡ chain_from t (stored_head t x)
unfolding chain_from
head_chain t x = chain_from_lem (layout_in t) x

-- on it are the jobs that x holds
held_chain : (t : List ℕ) (s : Size) (x : ℕ) → SoundTable t s → BenchIn s x → (i : ℕ) → In i (chain_from t (stored_head t x)) ↔ (T (stands (decode t) i) × (holder_of (decode t) i ≡ x))
held_chain t s x z b i =
    let on = on_chain t z.sound i x b.least (omega (arith, z.size.board_benches, b.most)) in
    subst (λ (c : List ℕ). In i c ↔ (T (stands (decode t) i) × (holder_of (decode t) i ≡ x))) (head_chain t x) on

-- bench x's chain ends
head_ends : (t : List ℕ) (s : Size) (x : ℕ) → SoundTable t s → BenchIn s x → Ends (layout_in t).entries (layout_in t).jobs (stored_head t x)
head_ends t s x z b =
    let l = layout_in t in
    chain_ends t z.sound (nth l.heads x 0) (in_nth l.heads x 0 b.least (omega (arith, b.most, heads_long t s z.size)))

-- bench x's chain from its head
pub first_chain : (t : List ℕ) (s : Size) (x : ℕ) → SoundTable t s → BenchIn s x → ChainOf t s x (stored_head t x)
unfolding chain_from
first_chain t s x z b =
    record {
      stored = refl;
      small = elim (ℕ_discrete h 0) [ yes e ↦ omega arith | no d ↦ omega (arith, (job h (chain_begins t h (omega arith))).most, z.size.limits.jobs_most) ];
      held = held;
      once = once;
      few = few s.jobs c (distinct_count c once) (in_each (λ j. T (within 1 s.jobs j)) c (λ j i. within_both 1 s.jobs j (job j i).least (job j i).most));
    }
  where
    h : ℕ
    h = stored_head t x

    c : List ℕ
    c = chain_from t h

    held : (i : ℕ) → In i c ↔ (T (stands (decode t) i) × (holder_of (decode t) i ≡ x))
    held = held_chain t s x z b

    job : (i : ℕ) → In i c → JobIn s i
    job i o = stands_job t s i z.size ((held i).0 o).0

    once : T (distinct c)
    once = ends_distinct (layout_in t).entries (suc (layout_in t).jobs) (layout_in t).jobs h (head_ends t s x z b)

-- the chain after a standing job
pub next_chain : (t : List ℕ) (s : Size) (j : ℕ) → SoundTable t s → T (stands (decode t) j) → chain_from t j ≡ j ∷ chain_from t (stored_next t j)
unfolding chain_from
next_chain t s zero z p = absurd (omega (arith, (stands_job t s 0 z.size p).least))
next_chain t s (suc j) z p = ends_next es jobs j (ends_on es (suc jobs) jobs h (suc j) (head_ends t s x z bench) on)
  where
    es : List Entry
    es = (layout_in t).entries

    jobs : ℕ
    jobs = (layout_in t).jobs

    x : ℕ
    x = holder_of (decode t) (suc j)

    bench : BenchIn s x
    bench = board_bench x z.size (holder_bench (decode t) z.storable.valid (suc j) p)

    h : ℕ
    h = stored_head t x

    on : In (suc j) (chain_from t h)
    on = (held_chain t s x z bench (suc j)).1 (p, refl)

-- what was read

-- bench x's head begins its chain
pub first_read : (t : List ℕ) (s : Size) (x r : ℕ) → SoundTable t s → BenchIn s x → HeadOf t x r → ChainOf t s x r
first_read t s x r z b h = subst (ChainOf t s x) (sym h.head) (first_chain t s x z b)

-- a standing job's record tells the next job on its chain
pub next_read : (t : List ℕ) (s : Size) (j : ℕ) (r : Record) → SoundTable t s → T (stands (decode t) j) → RecordOf t j r → NextOf t j r.next
next_read t s j r z p f =
    let e : r.next ≡ stored_next t j = ap (λ (e : Entry). e.next) f.entry in
    record { stored = e; small = f.small.next; chain = rw e (next_chain t s j z p) }
