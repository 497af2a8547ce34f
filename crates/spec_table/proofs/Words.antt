-- Words and bytes: what is written reads back, a board's words fit its table, and a blanked table is the board without jobs.
use Prim.Native.Nat.{ℕ, zero, suc, ◌+◌, ◌-◌, ◌*◌, ◌/◌, ◌%◌, ◌≤◌, ◌<◌}
use native.Mathlib.Omega.{arith}
use native.Mathlib.Nat.{mod-eq_of_lt}
use mathlib.Core.Path.{◌≡◌, refl, sym, ap, ◌∙◌}
use mathlib.Core.Bool.{not}
use mathlib.Core.List.{List, [], ◌∷◌, ◌++◌, map, flat_map, append-nil}
use lib.Dec.{T, eqb, leb}
use lib.ListN.{length, get_or, take, drop, length-append, length-drop, take-append-drop}
use lib.Seq.{take_at, drop_at, drop-append-add}
use Rattle.spec_lists.specs.Lists.{within, range, Each, empty}
use Rattle.spec_table.specs.Board.{Board, Shares, names_fit}
use Rattle.spec_table.specs.Table.{paired, words, bytes_of, in_list, most_benches, most_jobs, length_for, sizes_fit, Entry, Layout, entries_in, layout, fits, first_held, position_of, entry_for, entries_from, layout_of, entry_words, flat, encode, Storable}
use Rattle.spec_lists.proofs.Tests.{five, cond_le, T-eqb, eqb_T, leb_T, within_high}
use Rattle.spec_lists.proofs.Elements.{two_elements, in_each, each_append, each_map, length_filter}
use Rattle.spec_lists.proofs.NumberLists.{length_values}
use Rattle.spec_table.proofs.Named.{length_shares, fit_bench}
use Rattle.spec_table.proofs.Loads.{benches_most, named_most}

-- words and bytes

-- bytes of words below 65,536 read back as the same words, whatever bytes follow ..
pub words_append : (ws rest : List ℕ) → Each (λ w. w < 65536) ws → words (bytes_of ws ++ rest) ≡ ws ++ words rest
words_append [] rest s = refl
words_append (w ∷ ws) rest s = let e : w % 256 + 256 * (w / 256 % 256) ≡ w = omega arith in rw (e, words_append ws rest s.1)

-- .. or none
pub words_bytes_of : (ws : List ℕ) → Each (λ w. w < 65536) ws → words (bytes_of ws) ≡ ws
words_bytes_of ws s = ap words (sym (append-nil (bytes_of ws))) ∙ words_append ws [] s ∙ append-nil ws

-- two bytes are written for each word
pub length_bytes_of : (ws : List ℕ) → length (bytes_of ws) ≡ 2 * length ws
length_bytes_of [] = refl
length_bytes_of (w ∷ ws) = omega (arith, length_bytes_of ws)

-- a lent list as it is left: n words, and beyond them what was there
pub record ListLeft (ws : List ℕ) (n : ℕ) (list left : List ℕ) : Type 0 where
  pub read : take n (words left) ≡ ws
  pub beyond : drop (2 * n) left ≡ drop (2 * n) list
  pub long : length left ≡ length list

-- the list is as long as it was, or as the words
pub in_list_long : (ws list : List ℕ) → length (in_list ws list) ≡ 2 * length ws + (length list - 2 * length ws)
in_list_long ws list =
    length-append (bytes_of ws) (drop (2 * length ws) list) ∙ omega (arith, length_bytes_of ws, length-drop (2 * length ws) list)

-- so it is with words in a list that is long enough for them
pub in_list_lem : (ws list : List ℕ) → Each (λ w. w < 65536) ws → 2 * length ws ≤ length list → ListLeft ws (length ws) list (in_list ws list)
in_list_lem ws list s l =
    let rest = drop (2 * length ws) list in
    record {
      read = ap (take (length ws)) (words_append ws rest s) ∙ take_at ws (words rest) (length ws) refl;
      beyond = drop_at (bytes_of ws) rest (2 * length ws) (length_bytes_of ws);
      long = omega (arith, in_list_long ws list);
    }

-- every byte that is written is a byte
pub bytes_of_bytes : (ws : List ℕ) → Each (λ y. y < 256) (bytes_of ws)
bytes_of_bytes [] = tt
bytes_of_bytes (w ∷ ws) = (omega arith, (omega arith, bytes_of_bytes ws))

-- bytes are the bytes of their words
pub bytes_of_words : (t : List ℕ) → length t % 2 ≡ 0 → ((i : ℕ) → get_or t i 0 < 256) → bytes_of (words t) ≡ t
bytes_of_words [] e b = refl
bytes_of_words (x ∷ []) e b = absurd (omega arith)
bytes_of_words (x ∷ y ∷ t) e b =
    let low : x < 256 = b 0 in
    let high : y < 256 = b 1 in
    let p : (x + 256 * y) % 256 ≡ x = omega arith in
    let d : (x + 256 * y) / 256 ≡ y = omega arith in
    let q : (x + 256 * y) / 256 % 256 ≡ y = rw d (mod-eq_of_lt high) in
    rw (p, q, bytes_of_words t (omega arith) (λ i. b (suc (suc i))))

-- layouts

-- a layout that a table of its sizes has room for: a head for each bench, two names in each record
pub record WellSized (l : Layout) : Type 0 where
  pub heads : length l.heads ≡ l.benches
  pub entries : Each (λ e. length e.names ≡ 2) l.entries

-- the words of a record with two names read back as that record
entries_in_entry : (e : Entry) (ws : List ℕ) → length e.names ≡ 2 → entries_in (entry_words e ++ ws) ≡ e ∷ entries_in ws
entries_in_entry e ws two = let p = two_elements e.names two in rw p.2

-- the words of records with two names each read back as the same records
entries_in_words : (es : List Entry) → Each (λ e. length e.names ≡ 2) es → entries_in (flat_map entry_words es) ≡ es
unfolding flat_map
entries_in_words [] p = refl
entries_in_words (e ∷ es) p = rw (entries_in_entry e (flat_map entry_words es) p.0, entries_in_words es p.1)

-- records with two names have four words each
length_entry_words : (es : List Entry) → Each (λ e. length e.names ≡ 2) es → length (flat_map entry_words es) ≡ 4 * length es
unfolding flat_map
length_entry_words [] p = refl
length_entry_words (e ∷ es) p =
    omega (arith, length_entry_words es p.1, length-append (entry_words e) (flat_map entry_words es), length-append e.names (e.holder ∷ e.next ∷ []))

-- the words of a layout read back as the same layout
pub layout_flat : (l : Layout) → WellSized l → layout (flat l) ≡ l
unfolding layout flat
layout_flat l r = λ i. record { benches = l.benches; jobs = l.jobs; standing = l.standing; spare = l.spare; heads = heads i; entries = entries i }
  where
    front : List ℕ
    front = l.benches ∷ l.jobs ∷ l.standing ∷ l.spare ∷ l.heads

    records : List ℕ
    records = flat_map entry_words l.entries

    heads : take l.benches (l.heads ++ records) ≡ l.heads
    heads = take_at l.heads records l.benches r.heads

    entries : entries_in (drop (4 + l.benches) (front ++ records)) ≡ l.entries
    entries = rw (drop_at front records (4 + l.benches) (omega arith)) (entries_in_words l.entries r.entries)

-- a layout has "4 + B + 4 × J words"
pub length_flat : (l : Layout) → WellSized l → length (flat l) ≡ 4 + l.benches + 4 * length l.entries
unfolding flat
length_flat l r = omega (arith, length_entry_words l.entries r.entries, length-append l.heads (flat_map entry_words l.entries))

-- four words a record, and none left over
entries_in_all : (n : ℕ) (ws : List ℕ) → length ws ≡ 4 * n → flat_map entry_words (entries_in ws) ≡ ws
unfolding flat_map
entries_in_all n [] e = refl
entries_in_all n (a ∷ []) e = absurd (omega arith)
entries_in_all n (a ∷ b ∷ []) e = absurd (omega arith)
entries_in_all n (a ∷ b ∷ h ∷ []) e = absurd (omega arith)
entries_in_all zero (a ∷ b ∷ h ∷ m ∷ ws) e = absurd (omega arith)
entries_in_all (suc n) (a ∷ b ∷ h ∷ m ∷ ws) e = ap (λ (l : List ℕ). a ∷ b ∷ h ∷ m ∷ l) (entries_in_all n ws (omega arith))

-- and 4 + B + 4 × J words are those of their layout
pub flat_layout : (ws : List ℕ) (jobs : ℕ) → length ws ≡ 4 + (layout ws).benches + 4 * jobs → flat (layout ws) ≡ ws
unfolding layout flat
flat_layout [] jobs e = absurd (omega arith)
flat_layout (a ∷ []) jobs e = absurd (omega arith)
flat_layout (a ∷ b ∷ []) jobs e = absurd (omega arith)
flat_layout (a ∷ b ∷ c ∷ []) jobs e = absurd (omega arith)
flat_layout (a ∷ b ∷ c ∷ d ∷ ws) jobs e =
    let r : flat_map entry_words (entries_in (drop a ws)) ≡ drop a ws = entries_in_all jobs (drop a ws) (omega (arith, length-drop a ws)) in
    rw (drop-append-add (a ∷ b ∷ c ∷ d ∷ []) ws a, r, take-append-drop a ws)

-- the layout of a board

-- a board's layout has one record for each job number
pub length_entries : (i : ℕ) (named : List (List ℕ)) (holders : List ℕ) → Shares named holders → length (entries_from i named holders) ≡ length named
length_entries i [] holders s = refl
length_entries i (names ∷ named) [] s = absurd s
length_entries i (names ∷ named) (h ∷ holders) s = ap suc (length_entries (suc i) named holders s.1)

-- the records have two names each
entries_two : (i : ℕ) (named : List (List ℕ)) (holders : List ℕ) → Each (λ names. T (paired names)) named → Each (λ e. length e.names ≡ 2) (entries_from i named holders)
entries_two i [] holders p = tt
entries_two i (names ∷ named) [] p = tt
entries_two i ([] ∷ named) (h ∷ holders) p = (refl, entries_two (suc i) named holders p.1)
entries_two i ((x ∷ names) ∷ named) (h ∷ holders) p = (T-eqb (length (x ∷ names)) 2 p.0, entries_two (suc i) named holders p.1)

-- a table of the board's sizes has room for its layout
pub well_sized : (b : Board) → Storable b → WellSized (layout_of b)
unfolding layout_of
well_sized b s =
    record {
      heads = length_values (λ x. first_held 1 x b.holders) 1 b.benches;
      entries = entries_two 1 b.named b.holders s.pairs;
    }

-- small words

-- the first job that a bench holds is not after the last job
first_held_le : (i x : ℕ) (holders : List ℕ) → first_held i x holders ≤ i + length holders
first_held_le i x [] = omega arith
first_held_le i x (h ∷ holders) =
    cond_le (eqb h x) i (first_held (suc i) x holders) (i + suc (length holders)) (omega arith) (omega (arith, first_held_le (suc i) x holders))

-- a place is not after the end of the list
position_of_le : (h : ℕ) (names : List ℕ) → position_of h names ≤ length names
position_of_le h [] = omega arith
position_of_le h (x ∷ names) = cond_le (eqb x h) 1 (suc (position_of h names)) (suc (length names)) (omega arith) (omega (arith, position_of_le h names))

abbrev SmallWord : ℕ → Type 0
SmallWord w = w < 65536

-- no word of a record is above 65,535
entry_small : (benches : ℕ) (names : List ℕ) (h n : ℕ) → benches ≤ most_benches → n < 65536 → T (names_fit benches names) → T (paired names) → Each SmallWord (entry_words (entry_for names h n))
entry_small benches [] h n b m f p = omega arith
entry_small benches (x ∷ l) h n b m f p =
    let names : List ℕ = x ∷ l in
    each_append SmallWord names (position_of h names ∷ n ∷ [])
    (in_each SmallWord names (λ w i. omega (arith, within_high 1 benches w (fit_bench benches names w f i))))
    (omega (arith, position_of_le h names, T-eqb (length names) 2 p))

-- nor of the records of the jobs from i on
entries_small : (benches i : ℕ) (named : List (List ℕ)) (holders : List ℕ) → benches ≤ most_benches → i + length holders < 65536 → Each (λ names. T (names_fit benches names)) named → Each (λ names. T (paired names)) named → Each SmallWord (flat_map entry_words (entries_from i named holders))
unfolding flat_map
entries_small benches i [] holders b m f p = tt
entries_small benches i (names ∷ named) [] b m f p = tt
entries_small benches i (names ∷ named) (h ∷ holders) b m f p =
    let next : ℕ = first_held (suc i) h holders in
    each_append SmallWord (entry_words (entry_for names h next)) (flat_map entry_words (entries_from (suc i) named holders))
    (entry_small benches names h next b (omega (arith, first_held_le (suc i) h holders)) f.0 p.0)
    (entries_small benches (suc i) named holders b (omega arith) f.1 p.1)

-- no word of a board's layout is above 65,535
pub layout_of_small : (b : Board) → Storable b → Each (λ w. w < 65536) (flat (layout_of b))
unfolding flat layout_of
layout_of_small b s =
    let benches = benches_most b s in
    let jobs = named_most b s in
    let held : length b.holders ≡ length b.named = length_shares b.named b.holders s.valid.shares in
    let head : ℕ → ℕ = λ x. first_held 1 x b.holders in
    let heads : Each SmallWord (map head (range 1 b.benches)) = each_map SmallWord head (range 1 b.benches) (λ x i. omega (arith, first_held_le 1 x b.holders)) in
    let records : Each SmallWord (flat_map entry_words (entries_from 1 b.named b.holders)) = entries_small b.benches 1 b.named b.holders benches (omega arith) s.valid.names s.pairs in
    let rest = each_append SmallWord (map head (range 1 b.benches)) (flat_map entry_words (entries_from 1 b.named b.holders)) heads records in
    (omega arith, (omega arith, (omega (arith, length_filter (λ names. not (empty names)) b.named), (omega arith, rest))))

-- the table of a board

-- an encoded board's words are the words of its layout
words_encode : (b : Board) → Storable b → words (encode b) ≡ flat (layout_of b)
unfolding encode
words_encode b s = words_bytes_of (flat (layout_of b)) (layout_of_small b s)

-- an encoded board's words have the board's layout
pub layout_encode : (b : Board) → Storable b → layout (words (encode b)) ≡ layout_of b
layout_encode b s = rw (words_encode b s) (layout_flat (layout_of b) (well_sized b s))

-- an encoded board has the length that belongs to its sizes
length_encode : (b : Board) → Storable b → length (encode b) ≡ length_for b.benches (length b.named)
unfolding encode layout_of
length_encode b s =
    omega (arith, length_bytes_of (flat (layout_of b)), length_flat (layout_of b) (well_sized b s), length_entries 1 b.named b.holders s.valid.shares)

-- sizes within the limits fit the length that belongs to them
pub within_fit : (benches jobs : ℕ) → T (within 1 most_benches benches) → T (within 1 most_jobs jobs) → T (sizes_fit (length_for benches jobs) benches jobs)
unfolding sizes_fit
within_fit benches jobs b j =
    let len : ℕ = length_for benches jobs in
    (five (eqb (len % 2) 0) (leb 8 len) (within 1 most_benches benches) (within 1 most_jobs jobs) (eqb len len)).1
    (eqb_T (len % 2) 0 (omega arith), leb_T 8 len (omega arith), b, j, eqb_T len len refl)

-- an encoded board's sizes fit
pub fits_encode : (b : Board) → Storable b → T (fits (encode b))
unfolding fits flat layout_of
fits_encode b s = rw (words_encode b s, length_encode b s) (within_fit b.benches (length b.named) s.benches s.jobs)
