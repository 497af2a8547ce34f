-- Chains made anew: pushing every standing job, from the last down, leaves the layout of the board.
use Prim.Native.Nat.{ℕ, zero, suc, ◌+◌, ◌-◌, ◌≤◌, ◌<◌}
use native.Mathlib.Omega.{arith}
use mathlib.Core.Path.{◌≡◌, refl, sym, ap, ◌∙◌, subst}
use mathlib.Core.Logic.{◌⊎◌, inl, inr, ◌≢◌}
use mathlib.Core.Bool.{Bool, true, false, not}
use mathlib.Core.List.{List, [], ◌∷◌, ◌++◌, map, append-nil}
use lib.Dec.{eqb}
use lib.ListN.{length, get_or, take, drop, length-drop}
use lib.Seq.{length-take-le, take-length, drop-length, take-suc, drop-cons, append_snoc, get_or_at, set_at, map-set_same}
use borrow.Author.Tests.{ne_eqb}
use Rattle.std.specs.Int.{from_bool}
use Rattle.spec_lists.specs.Lists.{bit, range, filter, empty, nth, update}
use Rattle.spec_table.specs.Board.{Board, names_of, holder_of, standing, stands}
use Rattle.spec_table.specs.Table.{Entry, vacant, filled, holder_in, Layout, layout_of, board_of, decode, encode, first_held, entry_for, entries_from, bytes_of, flat, Storable}
use Rattle.spec_lists.proofs.Elements.{length_filter}
use Rattle.spec_lists.proofs.NumberLists.{nth_range, values_replicate, update_range}
use Rattle.spec_lists.proofs.Counting.{filter_counts}
use Rattle.spec_table.proofs.Places.{layout_bytes}
use Rattle.spec_table.proofs.Sound.{names_in, TwoBenches, holder_within, holder_place, Standing, holder_record}
use Rattle.spec_table.proofs.Encode.{encode_sound, decode_encode}
use Rattle.table_words.specs.Bytes.{layout_in}
use Rattle.table_size.specs.Sizes.{SizeOf, JobIn}
use Rattle.table_size.specs.Written.{HeadOf, with_head, with_entry, with_standing, HasLayout, with_next, cleared}
use Rattle.table_board.specs.BoardView.{HoldsBoard}
use Rattle.table_chains.specs.Chains.{ChainsRebuilt, push_at, push_for, pushed, pushed_from, Pushed, Linked}
use Rattle.table_size.specs.declared.Size.{Size}
use Rattle.table_size.proofs.Sizes.{entries_long}
use Rattle.table_size.proofs.Written.{with_both}
use Rattle.table_board.proofs.RecordsAsBoard.{holds_record, stands_held}

-- a standing job's record: "two different benches of 1 to B and holder 1 or 2"

-- with another next job it is a standing job's too
filled_next : (benches : ℕ) (e : Entry) (n : ℕ) → TwoBenches benches e → filled (with_next e n) ≡ true
filled_next benches e n r = rw (r.names, ne_eqb r.first 0 (λ q. omega (arith, r.first_bench.0)))

-- it is the record of its names and its holder with that next job
entry_next : (benches : ℕ) (e : Entry) (n : ℕ) → Standing benches e → with_next e n ≡ entry_for (names_in e) (holder_in e) n
entry_next benches e n r =
    let two = r.benches_two in
    let place : ℕ → Entry = λ h. record { names = e.names; holder = h; next = n } in
    ap place (holder_place benches e two) ∙ rw (r.is_filled, two.names)

-- the jobs one after the other, from the last down

-- the benches that the records' jobs name, and their holders
abbrev named_in : List Entry → List (List ℕ)
named_in es = map names_in es

abbrev holders_in : List Entry → List ℕ
holders_in es = map holder_in es

-- the layout after the jobs from j + 1 on, with these records, were pushed; the records before them are as they were
abbrev stage : Layout → ℕ → List Entry → List Entry → Layout
stage l j front back =
    with_both l
    (map (λ x. first_held (suc j) x (holders_in back)) (range 1 l.benches))
    (front ++ entries_from (suc j) (named_in back) (holders_in back))

-- a job without a holder changes nothing ..
turn_vacant : (l : Layout) (j : ℕ) (front back : List Entry) → stage l (suc j) (front ++ (vacant ∷ [])) back ≡ stage l j front (vacant ∷ back)
turn_vacant l j front back =
    let heads = update_range (λ x. first_held (suc (suc j)) x (holders_in back)) l.benches 0 (suc j) (omega arith) in
    let entries = append_snoc front vacant (entries_from (suc (suc j)) (named_in back) (holders_in back)) in
    λ i. with_both l (heads i) (entries i)

-- .. one with a holder comes before the later ones
module _ (l : Layout) (j : ℕ) (front : List Entry) (e : Entry) (back : List Entry) (q : length front ≡ j) where
  -- the layout before the turn, the records after the job's, and the first of these jobs that a bench holds
  abbrev old : Layout
  old = stage l (suc j) (front ++ (e ∷ [])) back

  abbrev late : List Entry
  late = entries_from (suc (suc j)) (named_in back) (holders_in back)

  abbrev first : ℕ → ℕ
  first x = first_held (suc (suc j)) x (holders_in back)

  here : nth old.entries (suc j) vacant ≡ e
  here = rw (append_snoc front e late) (get_or_at front e late vacant j q)

  turn_standing : Standing l.benches e → push_at old (suc j) (holder_in e) ≡ stage l j front (e ∷ back)
  turn_standing r =
      let b = holder_within l.benches e r.benches_two in
      let h : ℕ = holder_in e in
      let new : Entry = entry_for (names_in e) h (first h) in
      let heads = update_range first l.benches h (suc j) b.1 in
      let next : with_next (nth old.entries (suc j) vacant) (nth old.heads h 0) ≡ new =
      rw (here, nth_range first l.benches h 0 b.0 b.1) (entry_next l.benches e (first h) r) in
      let entries : update old.entries (suc j) (with_next (nth old.entries (suc j) vacant) (nth old.heads h 0)) ≡ front ++ new ∷ late =
      rw (next, append_snoc front e late) (set_at front e late new j q) in
      λ i. with_both l (heads i) (entries i)

-- before the last job no chain has a job
stage_none : (l : Layout) → cleared l ≡ stage l (length l.entries) (take (length l.entries) l.entries) (drop (length l.entries) l.entries)
stage_none l =
    let es : List Entry = l.entries in
    let heads = sym (values_replicate {A = ℕ} (λ x. 0) 1 l.benches 0 (λ x u. refl)) in
    let entries = sym (append-nil es) in
    rw (take-length es, drop-length es) (λ i. with_both l (heads i) (entries i))

-- what is held by a bench of 1 to B is put at the front of its chain
pub push_some : (l : Layout) (j x : ℕ) → 1 ≤ x → push_for l j x ≡ push_at l j x
push_some l j zero u = absurd (omega arith)
push_some l j (suc x) u = refl

-- one turn
turn : (l : Layout) (j : ℕ) (front : List Entry) (e : Entry) (back : List Entry) → length front ≡ j → (e ≡ vacant) ⊎ Standing l.benches e → pushed (suc j) (stage l (suc j) (front ++ (e ∷ [])) back) ≡ stage l j front (e ∷ back)
unfolding pushed
turn l j front e back q r = ap (λ (a : Entry). push_for (old l j front e back q) (suc j) (holder_in a)) (here l j front e back q) ∙ go r
  where
    go : (e ≡ vacant) ⊎ Standing l.benches e → push_for (old l j front e back q) (suc j) (holder_in e) ≡ stage l j front (e ∷ back)
    go (inl v) = rw v (turn_vacant l j front back)
    go (inr w) =
        push_some (old l j front e back q) (suc j) (holder_in e) (holder_within l.benches e w.benches_two).0
        ∙ turn_standing l j front e back q w

-- all turns
turns : (l : Layout) → ((j : ℕ) → (nth l.entries j vacant ≡ vacant) ⊎ Standing l.benches (nth l.entries j vacant)) → (j : ℕ) → j ≤ length l.entries → pushed_from j (stage l j (take j l.entries) (drop j l.entries)) ≡ stage l 0 [] l.entries
turns l r zero u = refl
turns l r (suc j) u =
    let es : List Entry = l.entries in
    let e : Entry = get_or es j vacant in
    let step : pushed (suc j) (stage l (suc j) (take (suc j) es) (drop (suc j) es)) ≡ stage l j (take j es) (drop j es) =
    rw (take-suc es j vacant u, drop-cons es j vacant u) (turn l j (take j es) e (drop (suc j) es) (length-take-le j es (omega arith)) (r (suc j))) in
    ap (pushed_from j) step ∙ turns l r j (omega arith)

-- tables

-- a table of the same size whose layout holds the same board
same_board : (t u : List ℕ) (s : Size) (l : Layout) → HoldsBoard t s → HasLayout u s l → board_of l ≡ board_of (layout_in t) → HoldsBoard u s × (decode u ≡ decode t)
unfolding decode
same_board t u s l k d e =
    let b : decode u ≡ decode t = ap board_of d.layout ∙ e in
    (record { size = d.size; storable = subst Storable (sym b) k.storable }, b)

-- other heads are the same board
pub cleared_holds_board : (t u : List ℕ) (s : Size) → HoldsBoard t s → HasLayout u s (cleared (layout_in t)) → HoldsBoard u s × (decode u ≡ decode t)
unfolding board_of
cleared_holds_board t u s k l = same_board t u s (cleared (layout_in t)) k l refl

-- a pushed job is the same board
pub pushed_holds_board : (t u : List ℕ) (s : Size) (j : ℕ) → HoldsBoard t s → JobIn s j → HasLayout u s (pushed j (layout_in t)) → HoldsBoard u s × (decode u ≡ decode t)
unfolding board_of pushed
pushed_holds_board t u s zero k i l = absurd (omega (arith, i.least))
pushed_holds_board t u s (suc j) k i l = same_board t u s (pushed (suc j) (layout_in t)) k l (go (holds_record t s (suc j) k))
  where
    es : List Entry
    es = (layout_in t).entries

    e : Entry
    e = get_or es j vacant

    go : (e ≡ vacant) ⊎ Standing s.benches e → board_of (push_for (layout_in t) (suc j) (holder_in e)) ≡ board_of (layout_in t)
    go (inl v) = rw v refl
    go (inr w) =
        let n : ℕ = nth (layout_in t).heads (holder_in e) 0 in
        let named = map-set_same names_in es j (with_next e n) vacant (rw (filled_next s.benches e n w.benches_two, w.is_filled)) in
        let holders = map-set_same holder_in es j (with_next e n) vacant refl in
        ap board_of (push_some (layout_in t) (suc j) (holder_in e) (holder_within s.benches e w.benches_two).0)
        ∙ (λ m. record { benches = (layout_in t).benches; named = named m; holders = holders m })

-- a job without a holder is pushed by leaving it ..
pub push_vacant : {t : List ℕ} {s : Size} {j : ℕ} → HoldsBoard t s → holder_of (decode t) j ≡ 0 → Pushed t t s j false
unfolding pushed
push_vacant {t} {s} {j} k e =
    record {
      holds_board = k;
      board = refl;
      layout = ap (push_for (layout_in t) j) (sym e ∙ holder_record t j);
      stands = sym (stands_held t s j k ∙ ap (λ (h : ℕ). not (eqb h 0)) e);
    }

-- .. and one that bench x holds by another next job in its record and another head of x
pub push_held : {t v u : List ℕ} {s : Size} {j x n : ℕ} → HoldsBoard t s → JobIn s j → x ≡ holder_of (decode t) j → x ≢ 0 → HeadOf t x n → HasLayout v s (with_entry (layout_in t) j (with_next (nth (layout_in t).entries j vacant) n)) → HasLayout u s (with_head (layout_in v) x j) → Pushed t u s j true
unfolding pushed
push_held {t} {v} {u} {s} {j} {x} {n} k i h d w next head =
    let e : Entry = nth (layout_in t).entries j vacant in
    let at : pushed j (layout_in t) ≡ push_at (layout_in t) j x = ap (push_for (layout_in t) j) (sym (holder_record t j) ∙ sym h) ∙ push_some (layout_in t) j x (omega arith) in
    let layout : layout_in u ≡ pushed j (layout_in t) =
    head.layout
    ∙ ap (λ (l : Layout). with_head l x j) next.layout
    ∙ ap (λ (m : ℕ). with_head (with_entry (layout_in t) j (with_next e m)) x j) w.head
    ∙ sym at in
    let same = pushed_holds_board t u s j k i (record { size = head.size; layout = layout }) in
    let held : eqb (holder_of (decode t) j) 0 ≡ false = ne_eqb (holder_of (decode t) j) 0 (λ e. d (h ∙ e)) in
    record { holds_board = same.0; board = same.1; layout = layout; stands = sym (stands_held t s j k ∙ ap not held) }

-- jobs pushed one after the other

-- the number of standing jobs after job j
abbrev standing_after : Board → ℕ → ℕ
standing_after b j = length (filter (λ names. not (empty names)) (drop j b.named))

-- one job more, if it stands
standing_step : (b : Board) (j : ℕ) → j < length b.named → standing_after b j ≡ standing_after b (suc j) + bit (stands b (suc j))
standing_step b j u =
    let more = filter_counts (λ (names : List ℕ). not (empty names)) (names_of b (suc j)) (drop (suc j) b.named) in
    rw (drop-cons b.named j [] u) (omega (arith, more))

-- the table u is t after the jobs above j were pushed, n of which stand; the others are left to push
pub record Pushing (t u : List ℕ) (s : Size) (n j : ℕ) : Type 0 where
  pub number : j ≤ s.jobs
  pub holds_board : HoldsBoard u s
  pub board : decode u ≡ decode t
  pub rest : pushed_from j (layout_in u) ≡ pushed_from s.jobs (layout_in t)
  pub count : n ≡ standing_after (decode t) j

-- at first none was pushed ..
pub pushing_start : (t : List ℕ) (s : Size) → HoldsBoard t s → Pushing t t s 0 s.jobs
pushing_start t s k =
    record {
      number = omega arith;
      holds_board = k;
      board = refl;
      rest = refl;
      count = rw (sym k.size.board_jobs, drop-length (decode t).named);
    }

-- what stands counts 1
from_bit : (b : Bool) → from_bool b ≡ bit b
from_bit true = refl
from_bit false = refl

-- .. each turn pushes the next one down ..
pub pushing_turn : {t u v : List ℕ} {s : Size} {n m j : ℕ} {stood : Bool} → 1 ≤ j → Pushing t u s n j → Pushed u v s j stood → m ≡ from_bool stood → Pushing t v s (n + m) (j - 1)
pushing_turn {j = zero} l p q f = absurd (omega arith)
pushing_turn {t} {m} {j = suc j} {stood} l p q f =
    let e : suc j - 1 ≡ j = omega arith in
    let named : List (List ℕ) = (decode t).named in
    let few : j < length named = omega (arith, p.number, p.holds_board.size.board_jobs, ap (λ (b : Board). length b.named) p.board) in
    let held : m ≡ bit (stands (decode t) (suc j)) = f ∙ from_bit stood ∙ ap bit (q.stands ∙ ap (λ (b : Board). stands b (suc j)) p.board) in
    rw e
    (record {
      number = omega (arith, p.number);
      holds_board = q.holds_board;
      board = q.board ∙ p.board;
      rest = ap (pushed_from j) q.layout ∙ p.rest;
      count = omega (arith, p.count, standing_step (decode t) j few);
    })

-- .. and at last all were pushed
pub pushing_end : {t u : List ℕ} {s : Size} {n : ℕ} → Pushing t u s n 0 → Linked t u s n
pushing_end p = record { holds_board = p.holds_board; board = p.board; layout = p.rest; count = p.count }

-- those that were pushed and stand are no more than the jobs ..
pub pushing_few : {t u : List ℕ} {s : Size} {n j : ℕ} → Pushing t u s n j → n ≤ s.jobs
pushing_few {t} {u} {s} {n} {j} p =
    let named : List (List ℕ) = (decode t).named in
    let long : length named ≡ s.jobs = ap (λ (b : Board). length b.named) (sym p.board) ∙ p.holds_board.size.board_jobs in
    omega (arith, p.count, length_filter (λ names. not (empty names)) (drop j named), length-drop j named)

-- .. and so are all that stand
pub linked_few : {t u : List ℕ} {s : Size} {n : ℕ} → Linked t u s n → n ≤ s.jobs
linked_few {t} {u} {s} {n} l =
    let p : Pushing t u s n 0 = record { number = omega arith; holds_board = l.holds_board; board = l.board; rest = l.layout; count = l.count } in
    pushing_few p

-- all pushed, with the count written, are the layout of the board
pub rebuild_layout : (t : List ℕ) (s : Size) → HoldsBoard t s → with_standing (pushed_from s.jobs (cleared (layout_in t))) (standing (decode t)) ≡ layout_of (decode t)
unfolding layout_of decode board_of
rebuild_layout t s k =
    ap (λ (m : Layout). with_standing m n) all
    ∙ (λ i. record { benches = l.benches; jobs = jobs i; standing = n; spare = 0; heads = end.heads; entries = end.entries })
  where
    l : Layout
    l = layout_in t

    es : List Entry
    es = l.entries

    rows : (j : ℕ) → (nth es j vacant ≡ vacant) ⊎ Standing l.benches (nth es j vacant)
    rows j = rw k.size.benches (holds_record t s j k)

    n : ℕ
    n = standing (decode t)

    end : Layout
    end = stage l 0 [] es

    all : pushed_from s.jobs (cleared l) ≡ end
    all =
        ap (λ (j : ℕ). pushed_from j (cleared l)) (sym (entries_long t s k.size))
        ∙ ap (pushed_from (length es)) (stage_none l)
        ∙ turns l rows (length es) (omega arith)

    jobs : l.jobs ≡ length (named_in es)
    jobs = k.size.jobs ∙ sym k.size.board_jobs

-- a table with the layout of the board is the board's
pub rebuild_bytes : (t u : List ℕ) (s : Size) → HoldsBoard t s → SizeOf u s → ((i : ℕ) → get_or u i 0 < 256) → layout_in u ≡ layout_of (decode t) → ChainsRebuilt t u s
unfolding encode
rebuild_bytes t u s k z b l =
    let bytes : u ≡ encode (decode t) =
    layout_bytes u z.fit b ∙ ap (λ (m : Layout). bytes_of (flat m)) l in
    let board : decode u ≡ decode t = ap decode bytes ∙ decode_encode (decode t) k.storable in
    record {
      bytes = bytes;
      sound = record { size = z; sound = rw bytes (encode_sound (decode t) k.storable); storable = rw board k.storable };
      board = board;
    }

-- the heads cleared, all jobs pushed, and then their number written
pub rebuild_all : {t u v w : List ℕ} {s : Size} {n : ℕ} → HoldsBoard t s → HasLayout u s (cleared (layout_in t)) → Linked u v s n → HasLayout w s (with_standing (layout_in v) n) → ((i : ℕ) → get_or w i 0 < 256) → ChainsRebuilt t w s
rebuild_all {t} {u} {v} {w} {s} {n} k d l last b =
    let count : n ≡ standing (decode t) = l.count ∙ ap standing (cleared_holds_board t u s k d).1 in
    let all : layout_in v ≡ pushed_from s.jobs (cleared (layout_in t)) = l.layout ∙ ap (pushed_from s.jobs) d.layout in
    rebuild_bytes t w s k last.size b
    (last.layout
    ∙ ap (λ (m : Layout). with_standing m n) all
    ∙ ap (with_standing (pushed_from s.jobs (cleared (layout_in t)))) count
    ∙ rebuild_layout t s k)
