-- Records and the board that they hold.
use Prim.Native.Nat.{ℕ, ◌≤◌, ◌<◌}
use native.Mathlib.Omega.{arith}
use mathlib.Core.Path.{◌≡◌, refl, sym, ap, ◌∙◌}
use mathlib.Core.Logic.{◌⊎◌, inl, inr, ◌≢◌}
use mathlib.Core.Bool.{Bool, true, false, cond, not}
use mathlib.Core.List.{List, [], ◌∷◌}
use lib.Dec.{T, eqb}
use lib.ListN.{length, get_or, length-map}
use borrow.Author.Tests.{ne_eqb}
use Rattle.spec_lists.specs.Lists.{In, empty, nth}
use Rattle.spec_table.specs.Board.{Board, names_of, holder_of, stands, standing, put, load, may_hold, names_fit}
use Rattle.spec_table.specs.Table.{Entry, vacant, filled, holder_in, board_of, decode, paired, Storable}
use Rattle.spec_lists.proofs.Tests.{cond_le, T-eqb}
use Rattle.spec_lists.proofs.Elements.{each_nth, in_nth}
use Rattle.spec_lists.proofs.NumberLists.{member_in}
use Rattle.spec_table.proofs.Named.{changed_storable, named_may, stands_within, named_bench}
use Rattle.spec_sharing.proofs.Flip.{put_valid}
use Rattle.spec_table.proofs.CountedBenches.{load_outside}
use Rattle.spec_table.proofs.Sound.{names_in, two_paired, holder_within, holder_record, names_record, Standing, stored_record, standing_word}
use Rattle.table_words.specs.Bytes.{layout_in}
use Rattle.table_size.specs.Sizes.{JobIn, SoundTable, SizeOf}
use Rattle.table_size.specs.Written.{record_in}
use Rattle.table_records.specs.Records.{entry_of, RecordOf}
use Rattle.table_size.proofs.Sizes.{board_job, board_bench, entries_long}
use Rattle.table_records.specs.declared.Record.{Record}
use Rattle.table_board.specs.BoardView.{Position, NameOf, HoldsBoard, Fillable, HolderOf}
use Rattle.table_size.specs.declared.Size.{Size}

-- a sound table's records hold its board
pub sound_holds_board : (t : List ℕ) (s : Size) → SoundTable t s → HoldsBoard t s
sound_holds_board t s z = record { size = z.size; storable = z.storable }

-- a standing job's number is one of 1 to J
pub stands_job : (t : List ℕ) (s : Size) (j : ℕ) → SizeOf t s → T (stands (decode t) j) → JobIn s j
stands_job t s j z p = board_job j z (stands_within (decode t) j p)

-- the k-th name is one
pub name_in : (t : List ℕ) (j k : ℕ) → Position (names_of (decode t) j) k → In (nth (names_of (decode t) j) k 0) (names_of (decode t) j)
name_in t j k l = in_nth (names_of (decode t) j) k 0 l.least l.most

-- it is a bench
pub name_of : (t : List ℕ) (s : Size) (j k x : ℕ) → HoldsBoard t s → Position (names_of (decode t) j) k → x ≡ nth (names_of (decode t) j) k 0 → NameOf t s j k x
name_of t s j k x z l e =
    let i : In x (names_of (decode t) j) = rw e (name_in t j k l) in
    record { value = e; named = i; bench = board_bench x z.size (named_bench (decode t) z.storable.valid j x i) }

-- one record

-- a job that names a bench names those of its record
named_record : (t : List ℕ) (j x : ℕ) → In x (names_of (decode t) j) → names_of (decode t) j ≡ (record_in t j).names
named_record t j x i = go (filled (record_in t j)) (names_record t j)
  where
    go : (z : Bool) → names_of (decode t) j ≡ cond z (record_in t j).names [] → names_of (decode t) j ≡ (record_in t j).names
    go true q = q
    go false q = absurd (rw q at i)

-- a record of a board that is kept: no job's, all words zero, or a standing job's
pub holds_record : (t : List ℕ) (s : Size) (j : ℕ) → HoldsBoard t s → (nth (layout_in t).entries j vacant ≡ vacant) ⊎ Standing s.benches (nth (layout_in t).entries j vacant)
holds_record t s j k = rw (sym k.size.benches) (stored_record t k.storable.valid j)

-- one job

-- no job is held by a bench above B
pub holder_most : (t : List ℕ) (s : Size) (j : ℕ) → HoldsBoard t s → holder_of (decode t) j ≤ s.benches
holder_most t s j k = rw (holder_record t j) (go (holds_record t s j k))
  where
    go : (record_in t j ≡ vacant) ⊎ Standing s.benches (record_in t j) → holder_in (record_in t j) ≤ s.benches
    go (inl q) = rw q (omega arith)
    go (inr r) = (holder_within s.benches (record_in t j) r.benches_two).1

-- a table has a holder for each job number
pub holders_long : {t : List ℕ} {s : Size} → SizeOf t s → length (decode t).holders ≡ s.jobs
unfolding decode board_of
holders_long {t} {s} z = length-map (layout_in t).entries holder_in ∙ entries_long t s z

-- a bench beyond the last has no load
pub load_beyond : (t : List ℕ) (s : Size) (x : ℕ) → HoldsBoard t s → s.benches < x → load (decode t).holders x ≡ 0
load_beyond t s x k l = load_outside (decode t) k.storable.valid x (omega (arith, k.size.board_benches))

-- word 2 of a sound table is the number of its board's standing jobs
pub standing_read : (t : List ℕ) (s : Size) (n : ℕ) → SoundTable t s → n ≡ (layout_in t).standing → n ≡ standing (decode t)
standing_read t s n z e = e ∙ standing_word t z.sound

-- a job stands exactly if it has a holder
pub stands_held : (t : List ℕ) (s : Size) (j : ℕ) → HoldsBoard t s → stands (decode t) j ≡ not (eqb (holder_of (decode t) j) 0)
stands_held t s j k = rw (holder_record t j, names_record t j) (go (holds_record t s j k))
  where
    e : Entry
    e = record_in t j

    go : (e ≡ vacant) ⊎ Standing s.benches e → not (empty (names_in e)) ≡ not (eqb (holder_in e) 0)
    go (inl q) = rw q refl
    go (inr r) =
        let b = holder_within s.benches e r.benches_two in
        rw (ne_eqb (holder_in e) 0 (λ d. omega arith), r.is_filled, r.benches_two.names) refl

-- one that is held does
pub held_stands : (t : List ℕ) (s : Size) (j : ℕ) → HoldsBoard t s → holder_of (decode t) j ≢ 0 → T (stands (decode t) j)
held_stands t s j k d = rw (stands_held t s j k, ne_eqb (holder_of (decode t) j) 0 d) tt

-- a standing job names two benches, any other number none
pub names_length : (t : List ℕ) (s : Size) (j : ℕ) → HoldsBoard t s → length (names_of (decode t) j) ≡ cond (stands (decode t) j) 2 0
names_length t s j k = two (names_of (decode t) j) (each_nth (λ names. T (paired names)) (decode t).named j [] tt k.storable.pairs)
  where
    two : (names : List ℕ) → T (paired names) → length names ≡ cond (not (empty names)) 2 0
    two [] p = refl
    two (x ∷ names) p = T-eqb (length (x ∷ names)) 2 p

-- so it names at most two
pub names_most : (t : List ℕ) (s : Size) (j : ℕ) → HoldsBoard t s → length (names_of (decode t) j) ≤ 2
names_most t s j k = rw (names_length t s j k) (cond_le (stands (decode t) j) 2 0 2 (omega arith) (omega arith))

-- a job written anew

-- a table that can hold a board can hold it with a job written anew ..
pub put_storable : (b : Board) → Storable b → (j : ℕ) (names : List ℕ) (h : ℕ) → T (paired names) → T (names_fit b.benches names) → T (may_hold names h) → Storable (put b j names h)
put_storable b w j names h p f m =
    changed_storable b (put b j names h) j names w p (put_valid b w.valid j names h f m) refl refl

-- .. with one that a record can hold too
pub fillable_storable : {t : List ℕ} {s : Size} {j h : ℕ} {names : List ℕ} → HoldsBoard t s → Fillable s j names h → Storable (put (decode t) j names h)
fillable_storable {t} {s} {j} {h} {names} k f =
    put_storable (decode t) k.storable j names h (two_paired names f.pair) (rw k.size.board_benches f.fit) (named_may names h (member_in h names f.held))

-- a record that was read

-- the bench that the holder word tells holds the job
pub holder_read : (t : List ℕ) (s : Size) (j x : ℕ) → HoldsBoard t s → x ≡ holder_in (record_in t j) → HolderOf t s j x
holder_read t s j x k e = let value = e ∙ sym (holder_record t j) in record { value = value; most = omega (arith, value, holder_most t s j k) }

-- a job stands exactly if its record's first bench is not 0
pub stands_first : (t : List ℕ) (s : Size) (j : ℕ) (r : Record) → HoldsBoard t s → RecordOf t j r → not (eqb r.first 0) ≡ stands (decode t) j
stands_first t s j r k f = ap (λ (e : Entry). not (eqb (get_or e.names 0 0) 0)) f.entry ∙ go (holds_record t s j k)
  where
    e : Entry
    e = nth (layout_in t).entries j vacant

    go : (e ≡ vacant) ⊎ Standing s.benches e → not (eqb (get_or e.names 0 0) 0) ≡ stands (decode t) j
    go (inl q) = rw (names_record t j, q) refl
    go (inr r) =
        let z = r.benches_two in
        rw (names_record t j, r.is_filled, z.names, ne_eqb z.first 0 (λ d. omega (arith, z.first_bench))) refl

-- the benches that a job names are its record's, if it names any
names_read : (t : List ℕ) (j x : ℕ) (r : Record) → RecordOf t j r → In x (names_of (decode t) j) → names_of (decode t) j ≡ (entry_of r).names
names_read t j x r f i = named_record t j x i ∙ ap (λ (e : Entry). e.names) (sym f.entry)

-- the first-named ..
pub name_first : (t : List ℕ) (j n : ℕ) (r : Record) → RecordOf t j r → 1 ≤ n → n ≤ length (names_of (decode t) j) → n ≡ 1 → r.first ≡ nth (names_of (decode t) j) n 0
name_first t j n r f low high e =
    let names = names_of (decode t) j in
    rw (names_read t j (nth names n 0) r f (in_nth names n 0 low high), e) refl

-- .. and the second-named bench
pub name_second : (t : List ℕ) (s : Size) (j n : ℕ) (r : Record) → HoldsBoard t s → RecordOf t j r → 1 ≤ n → n ≤ length (names_of (decode t) j) → n ≢ 1 → r.second ≡ nth (names_of (decode t) j) n 0
name_second t s j n r k f low high d =
    let names = names_of (decode t) j in
    let two : n ≡ 2 = omega (arith, names_most t s j k) in
    rw (names_read t j (nth names n 0) r f (in_nth names n 0 low high), two) refl
