-- A job put into a chain, taken out of one, or both: what the code writes leaves the layout of the changed board, and so its bytes.
use Prim.Native.Nat.{ℕ, zero, suc, ◌+◌, ◌-◌, ◌≤◌, ◌<◌}
use native.Mathlib.Omega.{arith}
use native.Mathlib.Decide.{ℕ_discrete}
use mathlib.Core.Path.{◌≡◌, refl, sym, ap, subst, ◌∙◌}
use mathlib.Core.Logic.{◌⊎◌, ◌≢◌}
use mathlib.Core.Bool.{false, not}
use mathlib.Core.List.{List, [], ◌∷◌}
use lib.Dec.{T, not_T}
use lib.ListN.{length, get_or}
use Rattle.spec_lists.specs.Lists.{bit, member, empty, update}
use Rattle.spec_table.specs.Board.{names_of, holder_of, stands, standing, put, held_by, names_fit}
use Rattle.spec_table.specs.Table.{Entry, vacant, Layout, position_of, entry_for, decode, Storable}
use Rattle.spec_lists.proofs.Tests.{T→true, false→not}
use Rattle.spec_lists.proofs.Elements.{empty_in, is_empty, length_filter, two_elements, each_nth, length_update, update_same}
use Rattle.spec_lists.proofs.NumberLists.{member_in}
use Rattle.spec_table.proofs.Named.{fit_bench, holder_none, holder_bench, named_stands, named_bench}
use Rattle.spec_table.proofs.Splicing.{Lowest, Before, Linked, link_in, Recorded, entry_names, entry_next, holder_two, standing_put}
use Rattle.table_words.specs.Bytes.{layout_in}
use Rattle.table_size.specs.Sizes.{JobIn, BenchIn}
use Rattle.table_size.specs.Written.{record_in, HasLayout, with_entry, with_standing}
use Rattle.table_size.specs.declared.Size.{Size}
use Rattle.table_size.proofs.Sizes.{heads_long, entries_long, bench_in, board_bench}
use Rattle.table_records.specs.Records.{RecordOf}
use Rattle.table_records.specs.declared.Record.{Record}
use Rattle.table_board.specs.BoardView.{Fillable}
use Rattle.table_board.proofs.RecordsAsBoard.{sound_holds_board, stands_job, put_storable, fillable_storable}
use Rattle.table_order.specs.InOrder.{InOrder, TableOf}
use Rattle.table_order.proofs.Ordered.{in_order_laid_out, first_from_lowest}
use Rattle.table_splices.specs.Splices.{GapOf, linked, inserted, Inserted}
use Rattle.table_splices.specs.declared.Gap.{Gap}
use Rattle.table_splices.proofs.Linking.{link_apart, entry_there, count_apart, linked_wide, linked_long}
use Rattle.table_splices.proofs.Chained.{gap_before, kept_chain, other_chain, put_chain, taken_chain, spliced, written, relinked}

-- a job that is put in

-- the bench that is to hold it is one of 1 to B
pub fillable_bench : {s : Size} {j h : ℕ} {names : List ℕ} → Fillable s j names h → BenchIn s h
fillable_bench {s} {h} {names} f = bench_in s h (fit_bench s.benches names h f.fit (member_in h names f.held))

-- the word p for the holder h of a job whose first-named bench is a: 1 for that one, 2 for the other
abbrev pub PlaceFor : ℕ → ℕ → ℕ → Type 0
PlaceFor a h p = ((a ≡ h) × (p ≡ 1)) ⊎ ((a ≡ h → ⊥) × (p ≡ 2))

-- its record is written and then the link to it
pub put_in : {t u v : List ℕ} {s : Size} {j first second h w : ℕ} (gap : Gap) → Fillable s j (first ∷ second ∷ []) h → PlaceFor first h w → HasLayout u s (with_entry (layout_in t) j (record { names = first ∷ second ∷ []; holder = w; next = gap.behind })) → HasLayout v s (linked (layout_in u) h gap.before j) → Inserted t v s j (first ∷ second ∷ []) h gap
put_in {t} {u} {v} {s} {j} {first} {second} {h} {w} gap f word one two =
    let names : List ℕ = first ∷ second ∷ [] in
    let at : w ≡ position_of h names = holder_two names h w refl (member_in h names f.held) word in
    let written : layout_in u ≡ with_entry (layout_in t) j (entry_for names h gap.behind) =
    one.layout ∙ ap (λ (p : ℕ). with_entry (layout_in t) j (record { names = names; holder = p; next = gap.behind })) at in
    record { layout = record { size = two.size; layout = two.layout ∙ ap (λ (l : Layout). linked l h gap.before j) written } }

-- two names, one by one
two_names : {names : List ℕ} → length names ≡ 2 → get_or names 0 0 ∷ get_or names 1 0 ∷ [] ≡ names
two_names {names} e = let p = two_elements names e in rw p.2 refl

-- the number of standing jobs

-- there are at most as many as jobs ..
standing_few : {t : List ℕ} {s : Size} → InOrder t s → standing (decode t) ≤ s.jobs
standing_few {t} o = omega (arith, length_filter (λ (names : List ℕ). not (empty names)) (decode t).named, o.sound.size.board_jobs)

-- .. so is what is read of it where a job was put in ..
pub inserted_few : {t u : List ℕ} {s : Size} {j h n : ℕ} {names : List ℕ} {gap : Gap} → InOrder t s → Inserted t u s j names h gap → n ≡ (layout_in u).standing → n ≤ s.jobs
inserted_few o p q = omega (arith, ap (λ (l : Layout). l.standing) p.layout.layout, (in_order_laid_out o).standing, standing_few o)

-- .. and where one was taken out, which was counted
pub removed_few : {t u v : List ℕ} {s : Size} {n : ℕ} (j : ℕ) (e : Entry) (x i m : ℕ) → InOrder t s → T (stands (decode t) j) → HasLayout u s (with_entry (layout_in t) j e) → HasLayout v s (linked (layout_in u) x i m) → n ≡ (layout_in v).standing → (1 ≤ n) × (n ≤ s.jobs)
removed_few {t} {u} {v} {s} {n} j e x i m o p one two q =
    let job = stands_job t s j o.sound.size p in
    let same : n ≡ standing (decode t) =
    q ∙ ap (λ (l : Layout). l.standing) two.layout ∙ ap (λ (l : Layout). l.standing) one.layout ∙ (in_order_laid_out o).standing in
    let less = standing_put (decode t) j [] 0 job.least (omega (arith, job.most, o.sound.size.board_jobs)) in
    (omega (arith, same, less, ap bit (T→true (stands (decode t) j) p)), omega (arith, same, standing_few o))

-- a job that comes: put in, and counted
pub add_spliced : {t u v : List ℕ} {s : Size} {j h count : ℕ} {names : List ℕ} {gap : Gap} → InOrder t s → Fillable s j names h → stands (decode t) j ≡ false → GapOf (decode t) s h j gap → Inserted t u s j (get_or names 0 0 ∷ get_or names 1 0 ∷ []) h gap → count ≡ (layout_in u).standing → HasLayout v s (with_standing (layout_in u) (count + 1)) → ((i : ℕ) → get_or v i 0 < 256) → TableOf v s (put (decode t) j names h)
add_spliced {t} {u} {v} {s} {j} {h} {count} {names} {gap} o f free found two q counted bytes =
    spliced o job h names k counted.size bytes (with_standing m (count + 1)) (counted.layout ∙ ap (λ (l : Layout). with_standing l (count + 1)) put_in.layout.layout) number refl
    (relinked o job h names k _ (length_update (layout_in t).entries j new ∙ entries_long t s o.sound.size) (written o job h names k gap.behind) bench before j)
    links
  where
    job : JobIn s j
    job = f.job

    put_in : Inserted t u s j names h gap
    put_in = subst (λ (l : List ℕ). Inserted t u s j l h gap) (two_names f.pair) two

    k : Storable (put (decode t) j names h)
    k = fillable_storable (sound_holds_board t s o.sound) f

    bench : BenchIn s h
    bench = fillable_bench f

    before : Before (decode t).holders h j gap.before
    before = gap_before o job h bench found.before

    some : T (not (empty names))
    some = not_T (empty names) (λ e. empty_in h names e (member_in h names f.held))

    new : Entry
    new = entry_for names h gap.behind

    m : Layout
    m = inserted (layout_in t) j names h gap

    free_job : holder_of (decode t) j ≡ 0
    free_job = holder_none (decode t) o.sound.storable.valid j (is_empty (names_of (decode t) j) (false→not (stands (decode t) j) free))

    number : count + 1 ≡ standing (put (decode t) j names h)
    number =
        omega (arith, q, ap (λ (l : Layout). l.standing) put_in.layout.layout, (in_order_laid_out o).standing, standing_put (decode t) j names h job.least (omega (arith, job.most, o.sound.size.board_jobs)), ap bit free, ap bit (T→true (not (empty names)) some))

    behind : Lowest (decode t).holders h j new.next
    behind = rw (entry_next names h gap.behind some) (first_from_lowest o bench.least found.behind)

    links : (x : ℕ) → BenchIn s x → Linked (update (decode t).holders j h) x (link_in (with_standing m (count + 1)) x)
    links x w i c = rw (count_apart m (count + 1) x i) (go (ℕ_discrete x h) i c)
      where
        go : Dec (x ≡ h) → Linked (update (decode t).holders j h) x (link_in m x)
        go (yes e) = rw e (put_chain o job h new bench (λ e. omega (arith, bench.least, free_job)) before behind)
        go (no d) = other_chain o job h (with_entry (layout_in t) j new) j d before (kept_chain o job h new w (λ e. omega (arith, w.least, free_job)) (λ e. d (sym e)))

-- a job that is taken out

-- the bench that holds a standing job is one of 1 to B
pub holder_in_lem : {t : List ℕ} {s : Size} {x : ℕ} (j : ℕ) → InOrder t s → T (stands (decode t) j) → x ≡ holder_of (decode t) j → BenchIn s x
holder_in_lem {t} {s} {x} j o p e =
    rw e (board_bench (holder_of (decode t) j) o.sound.size (holder_bench (decode t) o.sound.storable.valid j p))

-- the link from job j is the next job in its record
record_link : {t : List ℕ} {j : ℕ} {r : Record} (x : ℕ) → 1 ≤ j → RecordOf t j r → r.next ≡ link_in (layout_in t) x j
record_link {j = zero} x l f = absurd (omega arith)
record_link {j = suc k} x l f = ap (λ (e : Entry). e.next) f.entry

-- a job that goes: its record emptied, the link before it leads on, and it is not counted
pub remove_spliced : {t u v w : List ℕ} {s : Size} {j x count : ℕ} {gap : Gap} {gone : Record} → InOrder t s → T (stands (decode t) j) → x ≡ holder_of (decode t) j → GapOf (decode t) s x j gap → RecordOf t j gone → HasLayout u s (with_entry (layout_in t) j vacant) → HasLayout v s (linked (layout_in u) x gap.before gone.next) → count ≡ (layout_in v).standing → HasLayout w s (with_standing (layout_in v) (count - 1)) → ((i : ℕ) → get_or w i 0 < 256) → TableOf w s (put (decode t) j [] 0)
remove_spliced {t} {u} {v} {w} {s} {j} {x} {count} {gap} {gone} o p held found next one two q three bytes =
    spliced o job 0 [] k three.size bytes (with_standing m (count - 1)) (three.layout ∙ ap (λ (l : Layout). with_standing l (count - 1)) linked_on) number refl
    (relinked o job 0 [] k _ entries (written o job 0 [] k 0) bench before gone.next)
    links
  where
    job : JobIn s j
    job = stands_job t s j o.sound.size p

    bench : BenchIn s x
    bench = holder_in_lem j o p held

    before : Before (decode t).holders x j gap.before
    before = gap_before o job 0 bench found.before

    empty_record : Layout
    empty_record = with_entry (layout_in t) j vacant

    entries : length empty_record.entries ≡ s.jobs
    entries = length_update (layout_in t).entries j vacant ∙ entries_long t s o.sound.size

    m : Layout
    m = linked empty_record x gap.before gone.next

    linked_on : layout_in v ≡ m
    linked_on = two.layout ∙ ap (λ (l : Layout). linked l x gap.before gone.next) one.layout

    k : Storable (put (decode t) j [] 0)
    k = put_storable (decode t) o.sound.storable j [] 0 tt tt tt

    number : count - 1 ≡ standing (put (decode t) j [] 0)
    number =
        omega (arith, q, ap (λ (l : Layout). l.standing) linked_on, (in_order_laid_out o).standing, standing_put (decode t) j [] 0 job.least (omega (arith, job.most, o.sound.size.board_jobs)), ap bit (T→true (stands (decode t) j) p))

    links : (y : ℕ) → BenchIn s y → Linked (update (decode t).holders j 0) y (link_in (with_standing m (count - 1)) y)
    links y w i c = rw (count_apart m (count - 1) y i) (go (ℕ_discrete y x) i c)
      where
        go : Dec (y ≡ x) → Linked (update (decode t).holders j 0) y (link_in m y)
        go (yes e) =
            rw e
            (taken_chain o job 0 empty_record bench (sym held) (λ e. omega (arith, bench.least)) before (record_link x job.least next) (heads_long t s o.sound.size) entries (λ i n c. entry_there (layout_in t) j vacant x i n))
        go (no d) =
            other_chain o job 0 empty_record gone.next d before (kept_chain o job 0 vacant w (λ e. d (sym e ∙ sym held)) (λ e. omega (arith, w.least)))

-- a job that another bench gets

-- the names in a standing job's record are the job's ..
record_names : {t : List ℕ} {s : Size} {j : ℕ} {r : Record} → InOrder t s → T (stands (decode t) j) → RecordOf t j r → r.first ∷ r.second ∷ [] ≡ names_of (decode t) j
record_names {t} {s} {j} {r} o p f =
    ap (λ (e : Entry). e.names) (f.entry ∙ (in_order_laid_out o).records j) ∙ entry_names (names_of (decode t) j) (holder_of (decode t) j) (record_in t j).next p

-- .. so any of them can hold it
pub record_fillable : {t : List ℕ} {s : Size} {j y : ℕ} {r : Record} → InOrder t s → T (member y (names_of (decode t) j)) → RecordOf t j r → Fillable s j (r.first ∷ r.second ∷ []) y
record_fillable {t} {s} {j} {y} {r} o m f =
    let named = member_in y (names_of (decode t) j) m in
    let p = named_stands (decode t) j y named in
    let names = record_names o p f in
    let fit = each_nth (λ (a : List ℕ). T (names_fit (decode t).benches a)) (decode t).named j [] tt o.sound.storable.valid.names in
    record {
      job = stands_job t s j o.sound.size p;
      pair = refl;
      fit = subst (λ (n : ℕ). T (names_fit n (r.first ∷ r.second ∷ []))) o.sound.size.board_benches (subst (λ (a : List ℕ). T (names_fit (decode t).benches a)) (sym names) fit);
      held = subst (λ (a : List ℕ). T (member y a)) (sym names) m;
    }

-- a bench that a job names is one of 1 to B
pub name_bench : {t : List ℕ} {s : Size} (j y : ℕ) → InOrder t s → T (member y (names_of (decode t) j)) → BenchIn s y
name_bench {t} {s} j y o m =
    board_bench y o.sound.size (named_bench (decode t) o.sound.storable.valid j y (member_in y (names_of (decode t) j) m))

-- handed to another it is put in there, and the link before it in the chain that it was in leads on
pub hand_spliced : {t u v : List ℕ} {s : Size} {j x y : ℕ} {from to : Gap} {was : Record} → InOrder t s → T (member y (names_of (decode t) j)) → x ≡ holder_of (decode t) j → x ≢ y → RecordOf t j was → GapOf (decode t) s x j from → GapOf (decode t) s y j to → Inserted t u s j (was.first ∷ was.second ∷ []) y to → HasLayout v s (linked (layout_in u) x from.before was.next) → ((i : ℕ) → get_or v i 0 < 256) → TableOf v s (held_by (decode t) (update (decode t).holders j y))
hand_spliced {t} {u} {v} {s} {j} {x} {y} {from} {to} {was} o member held apart read found_from_lem found-to put_in last bytes =
    subst (TableOf v s) same_names
    (spliced o job y names k last.size bytes m ahead number spare
    (relinked o job y names k _ long recorded bench before was.next)
    links)
  where
    stood : T (stands (decode t) j)
    stood = named_stands (decode t) j y (member_in y (names_of (decode t) j) member)

    names : List ℕ
    names = was.first ∷ was.second ∷ []

    job : JobIn s j
    job = stands_job t s j o.sound.size stood

    bench : BenchIn s x
    bench = holder_in_lem j o stood held

    next_bench : BenchIn s y
    next_bench = name_bench j y o member

    before : Before (decode t).holders x j from.before
    before = gap_before o job y bench found_from_lem.before

    next_before : Before (decode t).holders y j to.before
    next_before = gap_before o job y next_bench found-to.before

    k : Storable (put (decode t) j names y)
    k = fillable_storable (sound_holds_board t s o.sound) (record_fillable o member read)

    new : Entry
    new = entry_for names y to.behind

    one : Layout
    one = with_entry (layout_in t) j new

    two : Layout
    two = inserted (layout_in t) j names y to

    m : Layout
    m = linked two x from.before was.next

    ahead : layout_in v ≡ m
    ahead = last.layout ∙ ap (λ (l : Layout). linked l x from.before was.next) put_in.layout.layout

    same_names : put (decode t) j names y ≡ held_by (decode t) (update (decode t).holders j y)
    same_names =
        let back = ap (update (decode t).named j) (record_names o stood read) ∙ update_same (decode t).named j [] in
        λ i. record { benches = (decode t).benches; named = back i; holders = update (decode t).holders j y }

    number : m.standing ≡ standing (put (decode t) j names y)
    number = (in_order_laid_out o).standing ∙ ap standing (sym same_names)

    spare : m.spare ≡ 0
    spare = (in_order_laid_out o).spare

    one_long : length one.entries ≡ s.jobs
    one_long = length_update (layout_in t).entries j new ∙ entries_long t s o.sound.size

    long : length two.entries ≡ s.jobs
    long = linked_long one.entries to.before j ∙ one_long

    recorded : Recorded two.entries (put (decode t) j names y)
    recorded = relinked o job y names k _ one_long (written o job y names k to.behind) next_bench next_before j

    links : (z : ℕ) → BenchIn s z → Linked (update (decode t).holders j y) z (link_in m z)
    links z w = go (ℕ_discrete z x) (ℕ_discrete z y)
      where
        go : Dec (z ≡ x) → Dec (z ≡ y) → Linked (update (decode t).holders j y) z (link_in m z)
        go (yes e) q =
            rw e
            (taken_chain o job y two bench (sym held) (λ e. apart (sym e)) before (record_link x job.least read) (linked_wide one.heads y to.before j ∙ heads_long t s o.sound.size) long
            (λ i n c. link_apart (decode t).holders one y to.before j x i apart next_before.place c ∙ entry_there (layout_in t) j new x i n))
        go (no d) (yes e) =
            rw e
            (other_chain o job y two was.next (λ e. apart (sym e)) before
            (put_chain o job y new next_bench (λ e. apart (held ∙ e)) next_before (first_from_lowest o next_bench.least found-to.behind)))
        go (no d) (no n) =
            other_chain o job y two was.next d before
            (other_chain o job y one j n next_before (kept_chain o job y new w (λ e. d (sym e ∙ sym held)) (λ e. n (sym e))))
