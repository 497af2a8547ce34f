-- The pass, job by job, and what it shows at its end.
use Prim.Native.Nat.{ℕ, suc, ◌+◌, ◌*◌, ◌≤◌, ◌<◌}
use native.Mathlib.Omega.{arith}
use native.Mathlib.Numerals.{add-one}
use mathlib.Core.Path.{◌≡◌, refl, sym, ap, subst, ◌∙◌}
use mathlib.Core.Logic.{◌↔◌}
use mathlib.Core.Bool.{Bool}
use mathlib.Core.List.{List}
use lib.Dec.{T, eqb}
use lib.ListN.{length, get_or, set, replicate, length-set, length-replicate}
use lib.Seq.{get_or-set_same, get_or-set_other}
use Rattle.spec_lists.specs.Lists.{greatest, In, nth, update}
use Rattle.spec_lists.proofs.Tests.{Compared, same, other, compared, T-eqb, eqb_T}
use Rattle.spec_lists.proofs.Elements.{each_nth, each_replicate, length_update, nth_update_same, nth_update_other}
use Rattle.spec_lists.proofs.NumberLists.{length_values, nth_range, values_same}
use Rattle.spec_lists.proofs.Counting.{greatest_above, greatest_most}
use Rattle.spec_table.specs.Board.{standing}
use Rattle.spec_table.specs.Table.{most_benches, words, Entry, vacant, filled, holder_in, entry_fits, Layout, layout_of, decode}
use Rattle.spec_table.proofs.Sound.{fit_storable, standing_from, standing_count, layout_pairs, two_benches, holder_within, holder_record}
use Rattle.spec_table.proofs.Places.{word_at}
use Rattle.table_words.specs.Bytes.{layout_in}
use Rattle.table_size.specs.Sizes.{SizeOf, BenchIn}
use Rattle.table_size.specs.Written.{record_in, HeadsOf, with_heads, with_standing, cleared}
use Rattle.table_size.specs.declared.Size.{Size}
use Rattle.table_size.proofs.Sizes.{heads_long, zeros_by_bench}
use Rattle.table_size.proofs.Written.{head_read}
use Rattle.table_board.specs.BoardView.{HoldsBoard}
use Rattle.table_board.proofs.RecordsAsBoard.{holders_long}
use Rattle.table_records.specs.Records.{entry_of, RecordOf, NameAt}
use Rattle.table_records.specs.declared.Record.{Record}
use Rattle.table_record_form.specs.Kinds.{kind_of, CountedTo}
use Rattle.table_record_form.specs.declared.Kind.TheVariants.{Vacant, Fitting}
use Rattle.table_record_form.proofs.KindOfRecord.{vacant_unheld, fitting_tests}
use Rattle.table_record_form.proofs.CountedRecords.{AllFit, counted_none, counted_pass, counted_turn, counted_end, counted_seen}
use Rattle.table_chains.specs.Chains.{pushed, pushed_from}
use Rattle.table_chains.proofs.Rebuilding.{rebuild_layout, rebuild_bytes}
use Rattle.table_rising.specs.Passing.{due_heads, DueWords, Before, Met, Passed, NoneDue, Rising}
use Rattle.table_rising.proofs.Undoing.{undo_vacant, undo_standing}
use Rattle.table_rising.proofs.LoadCounts.{LoadsTo, loads_start, loads_turn, loads_pass, loads_few, loads_end}

-- due jobs as heads

-- a list with the same job at each bench
due_heads_lem : (s : Size) (due heads : List ℕ) → length heads ≡ s.benches → ((x : ℕ) → BenchIn s x → nth heads x 0 ≡ get_or due x 0) → heads ≡ due_heads s due
due_heads_lem s due heads e f =
    values_same (λ x. get_or due x 0) 1 s.benches heads 0 e (λ k l. f (suc k) (record { least = omega arith; most = l }) ∙ ap (λ (x : ℕ). get_or due x 0) (omega arith))

-- another job due at a bench
due_set : (s : Size) (due : List ℕ) (x n : ℕ) → BenchIn s x → x < length due → update (due_heads s due) x n ≡ due_heads s (set due x n)
due_set s due x n b l = due_heads_lem s (set due x n) (update old x n) (length_update old x n ∙ long) (λ y i. go y i (compared x y))
  where
    old : List ℕ
    old = due_heads s due

    long : length old ≡ s.benches
    long = length_values (λ y. get_or due y 0) 1 s.benches

    go : (y : ℕ) → BenchIn s y → {z : Bool} → Compared x y z → nth (update old x n) y 0 ≡ get_or (set due x n) y 0
    go y i (same e) = rw (← e) (nth_update_same old x n 0 b.least (omega (arith, long, b.most)) ∙ sym (get_or-set_same due x n 0 l))
    go y i (other d) =
        nth_update_other old x y n 0 (λ e. d (sym e))
        ∙ nth_range (λ z. get_or due z 0) s.benches y 0 i.least i.most
        ∙ sym (get_or-set_other due x y n 0 (λ e. d (sym e)))

-- no job due at any
due_none : (s : Size) (due : List ℕ) → NoneDue s due → replicate s.benches 0 ≡ due_heads s due
due_none s due z = due_heads_lem s due (replicate s.benches 0) (length-replicate {A = ℕ} s.benches 0) (λ x b. each_nth (λ n. n ≡ 0) (replicate s.benches 0) x 0 refl (each_replicate (λ n. n ≡ 0) s.benches 0 refl) ∙ sym (z x b))

-- the first jobs on the chains fit a word
first_words : {t : List ℕ} {s : Size} {due : List ℕ} → SizeOf t s → HeadsOf t s due → ((i : ℕ) → get_or t i 0 < 256) → DueWords s due
first_words {t} {s} z h small x b =
    let i : ℕ = 3 + x in
    let w : get_or (words t) i 0 < 65536 = omega (arith, word_at t i (omega (arith, z.long, b.most)), small (2 * i), small (2 * i + 1)) in
    omega (arith, h.head x b, (head_read t s x (get_or (words t) i 0) z b (record { value = refl; small = w })).head)

-- records

-- a fitting record's holder is a bench
pub kind_bench : (t : List ℕ) (s : Size) (j : ℕ) → kind_of s.benches (record_in t j) ≡ Fitting → BenchIn s (holder_in (record_in t j))
kind_bench t s j q =
    let e = record_in t j in
    let pair = each_nth (λ (e : Entry). length e.names ≡ 2) (layout_in t).entries j vacant refl (layout_pairs (words t)) in
    let h = holder_within s.benches e (two_benches s.benches e pair (fitting_tests s.benches e q)) in
    record { least = h.0; most = h.1 }

-- one that was read

module _ (s : Size) {t : List ℕ} {j : ℕ} {r : Record} (f : RecordOf t j r) (k : kind_of s.benches (entry_of r) ≡ Fitting) where
  -- it is job j's
  read_fits : kind_of s.benches (record_in t j) ≡ Fitting
  read_fits = ap (kind_of s.benches) (sym f.entry) ∙ k

  module _ {x : ℕ} (a : NameAt t j r.holder x) where
    -- the name at that place is the holder ..
    holder_there : x ≡ holder_in (record_in t j)
    holder_there = a.value ∙ ap (λ (e : Entry). nth (record_in t j).names e.holder 0) f.entry

    -- .. a bench of 1 to B
    pub read_bench_lem : BenchIn s x
    read_bench_lem = subst (BenchIn s) (sym holder_there) (kind_bench t s j read_fits)

-- the pass

-- the first `done` jobs were met, `count` of which stand: pushed again, from the jobs that are due now, they give the table's own chains
pub record Meeting (t : List ℕ) (s : Size) (due loads : List ℕ) (count done : ℕ) : Type 0 where
  pub long : length due ≡ most_benches + 1
  pub words : DueWords s due
  pub chains : pushed_from done (with_heads (layout_in t) (due_heads s due)) ≡ layout_in t
  pub records : CountedTo t s done count
  pub loaded : LoadsTo (decode t).holders done loads
  pub beyond : (x : ℕ) → s.benches < x → get_or loads x 0 ≡ 0

-- none was met: each chain's first job is due ..
pub meeting_start : {t : List ℕ} {s : Size} {due loads : List ℕ} → SizeOf t s → HeadsOf t s due → loads ≡ replicate (most_benches + 1) 0 → ((i : ℕ) → get_or t i 0 < 256) → Meeting t s due loads 0 0
meeting_start {t} {s} {due} {loads} z h e small =
    record {
      long = h.by_bench.long;
      words = first_words z h small;
      chains = ap (with_heads (layout_in t)) (sym (due_heads_lem s due (layout_in t).heads (heads_long t s z) (λ x b. sym (h.head x b))));
      records = counted_none t s;
      loaded = rw e (loads_start (decode t).holders);
      beyond = rw e (zeros_by_bench s).beyond;
    }

-- .. until a job is not met, no bench has more than the jobs before it ..
module _ {t : List ℕ} {s : Size} {due loads : List ℕ} {count done : ℕ} (m : Meeting t s due loads count done) where
  pub meeting_before : SizeOf t s → Before s (done + 1) loads
  meeting_before z =
      record { long = m.loaded.long; below = λ x b. omega (arith, loads_few m.loaded x b.least (omega (arith, b.most, z.limits.benches_most))) }

module _ {t : List ℕ} {s : Size} {due loads : List ℕ} {count done : ℕ} (z : SizeOf t s) (m : Meeting t s due loads count done) (d : done < s.jobs) where
  abbrev e : Entry
  e = record_in t (done + 1)

  fewer : done < length (decode t).holders
  fewer = omega (arith, holders_long z)

  -- .. a record that is no job's leaves all as it was ..
  pub meeting_pass : {due₂ loads₂ : List ℕ} → (kind_of s.benches e ≡ Vacant) × (due₂ ≡ due) × (loads₂ ≡ loads) → Meeting t s due₂ loads₂ count (done + 1)
  meeting_pass (k, p, q) =
      rw (p, q)
      (record {
        long = m.long;
        words = m.words;
        chains = rw add-one (ap (pushed_from done) (undo_vacant (layout_in t) (suc done) (due_heads s due) (rw add-one at (vacant_unheld s.benches e k))) ∙ m.chains);
        records = counted_pass z m.records d k;
        loaded = loads_pass m.loaded fewer (sym (holder_record t (done + 1) ∙ vacant_unheld s.benches e k));
        beyond = m.beyond;
      })

  -- .. a job that is met in its turn leaves the next one on its chain due, and its holder with one more ..
  pub meeting_turn : {due₂ loads₂ : List ℕ} → Met s e (done + 1) due loads due₂ loads₂ → Meeting t s due₂ loads₂ (count + 1) (done + 1)
  meeting_turn w =
      rw (w.next, w.load)
      (record {
        long = length-set due h e.next ∙ m.long;
        words = λ x b. now_word x b (compared h x);
        chains = ap (λ (k : ℕ). pushed_from k met) (add-one done) ∙ ap (pushed_from done) undone ∙ m.chains;
        records = counted_turn z m.records d w.fits;
        loaded = loads_turn m.loaded h fewer (sym (holder_record t (done + 1))) bench.least (omega (arith, bench.most, z.limits.benches_most));
        beyond = λ x l. get_or-set_other loads h x (get_or loads h 0 + 1) 0 (λ i. omega (arith, bench.most)) ∙ m.beyond x l;
      })
    where
      h : ℕ
      h = holder_in e

      bench : BenchIn s h
      bench = kind_bench t s (done + 1) w.fits

      small : h < length due
      small = omega (arith, m.long, bench.most, z.limits.benches_most)

      now_word : (x : ℕ) → BenchIn s x → {y : Bool} → Compared h x y → get_or (set due h e.next) x 0 < 65536
      now_word x b (same q) = rw (← q) (omega (arith, get_or-set_same due h e.next 0 small, w.word))
      now_word x b (other n) = omega (arith, get_or-set_other due h x e.next 0 (λ i. n (sym i)), m.words x b)

      heads : List ℕ
      heads = due_heads s due

      many : length heads ≡ s.benches
      many = length_values (λ x. get_or due x 0) 1 s.benches

      due_here : nth heads h 0 ≡ done + 1
      due_here = nth_range (λ x. get_or due x 0) s.benches h 0 bench.least bench.most ∙ w.in_turn

      -- the layout with the jobs that are due then as heads
      met : Layout
      met = with_heads (layout_in t) (due_heads s (set due h e.next))

      after : Layout
      after = with_heads (layout_in t) (update heads h e.next)

      undone : pushed (suc done) met ≡ with_heads (layout_in t) heads
      undone =
          ap (λ (l : List ℕ). pushed (suc done) (with_heads (layout_in t) l)) (sym (due_set s due h e.next bench small))
          ∙ ap (λ (j : ℕ). pushed j after) (sym (add-one done))
          ∙ undo_standing (layout_in t) (done + 1) h heads refl bench.least (omega (arith, many, bench.most)) due_here

-- .. and in the end all are met
pub meeting_end : {t : List ℕ} {s : Size} {due loads : List ℕ} {count done : ℕ} → SizeOf t s → Meeting t s due loads count done → s.jobs ≤ done → Passed t s due loads count
meeting_end {t} {s} {due} {loads} {count} {done} z m l =
    record {
      chains = subst (λ (n : ℕ). pushed_from n (with_heads (layout_in t) (due_heads s due)) ≡ layout_in t) all m.chains;
      records = subst (λ (n : ℕ). CountedTo t s n count) all m.records;
      loaded = loads_end m.loaded (omega (arith, holders_long z));
    }
  where
    all : done ≡ s.jobs
    all = omega (arith, m.records.number)

-- the end

-- the greatest number that is due is 0 exactly if no job is
pub most_due : (s : Size) (due : List ℕ) {most : ℕ} → most ≡ greatest s.benches (λ x. get_or due x 0) → T (eqb most 0) ↔ NoneDue s due
most_due s due {most} e = (
  λ q x b. omega (arith, T-eqb most 0 q, e, greatest_above s.benches (λ y. get_or due y 0) x b.least b.most),
  λ none. eqb_T most 0 (omega (arith, e, greatest_most s.benches (λ y. get_or due y 0) 0 (λ x i u. omega (arith, none x (record { least = i; most = u }))))),
)

-- all jobs were met ..
module _ {t : List ℕ} {s : Size} {due loads : List ℕ} {n : ℕ} (z : SizeOf t s) (p : Passed t s due loads n) where
  -- .. so the filled records fit, and are n ..
  seen : AllFit s.benches (layout_in t).entries × (n ≡ 0 + length (standing_from 1 (layout_in t).entries))
  seen = counted_seen s.benches 0 1 (layout_in t).entries n (counted_end z p.records (omega arith))

  -- .. and so are the standing jobs
  pub passed_count : n ≡ standing (decode t)
  passed_count = omega (arith, seen.1, standing_count t)

-- all jobs were met and none is due: the layout is that of the board ..
module _ {t : List ℕ} {s : Size} {due loads : List ℕ} {n : ℕ} (z : SizeOf t s) (p : Passed t s due loads n) (none : NoneDue s due) (standing_word : (layout_in t).standing ≡ n) (spare : (layout_in t).spare ≡ 0) where
  holds : HoldsBoard t s
  holds = record { size = z; storable = fit_storable t z.fit (subst (λ (b : ℕ). (e : Entry) → In e (layout_in t).entries → T (filled e) → T (entry_fits b e)) (sym z.benches) (seen z p).0) }

  -- no chain has a job before the first is pushed
  emptied : with_heads (layout_in t) (due_heads s due) ≡ cleared (layout_in t)
  emptied = ap (with_heads (layout_in t)) (sym (due_none s due none) ∙ ap (λ (b : ℕ). replicate b 0) (sym z.benches))

  laid : layout_in t ≡ layout_of (decode t)
  laid =
      (λ i. record { benches = l.benches; jobs = l.jobs; standing = (standing_word ∙ passed_count z p) i; spare = spare i; heads = l.heads; entries = l.entries })
      ∙ ap (λ (m : Layout). with_standing m (standing (decode t))) (sym p.chains ∙ ap (pushed_from s.jobs) emptied)
      ∙ rebuild_layout t s holds
    where
      l : Layout
      l = layout_in t

  -- .. so the bytes are, too
  pub passed_rising : ((i : ℕ) → get_or t i 0 < 256) → Rising t s loads
  passed_rising small =
      let r = rebuild_bytes t t s holds z small laid in
      record { bytes = r.bytes; sound = r.sound; loaded = p.loaded }
