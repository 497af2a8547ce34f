-- Blanking: whatever the bytes were, it leaves the table of the board without jobs.
use Prim.Native.Nat.{ℕ, zero, suc, ◌+◌, ◌*◌, ◌≤◌}
use native.Mathlib.Omega.{arith}
use mathlib.Core.Path.{◌≡◌, refl, sym, subst, ◌∙◌}
use mathlib.Core.Bool.{Bool, true, false, not, false≢true}
use mathlib.Core.List.{List, [], flat_map}
use lib.Dec.{T}
use lib.ListN.{length, replicate, length-replicate, replicate-append-replicate}
use borrow.Author.Tests.{ne_eqb}
use Rattle.spec_lists.specs.Lists.{within, filter, empty}
use Rattle.spec_table.specs.Board.{Board, Shares, names_fit}
use Rattle.spec_table.specs.Table.{paired, most_benches, most_jobs, length_for, sizes_fit, first_held, entries_from, layout_of, entry_words, flat, sound, decode, encode, blank_table, Storable}
use Rattle.spec_calls.specs.Answers.{Outcome, is_refused, said, blanked, refused, sizes}
use Rattle.spec_calls.specs.Calls.{blanking}
use Rattle.spec_lists.proofs.Tests.{true→T}
use Rattle.spec_lists.proofs.Elements.{each_replicate}
use Rattle.spec_lists.proofs.NumberLists.{values_replicate}
use Rattle.spec_table.proofs.Places.{sized}
use Rattle.spec_table.proofs.Encode.{encode_sound, decode_encode}

-- a board without jobs
abbrev pub empty_board : ℕ → ℕ → Board
empty_board benches jobs = record { benches = benches; named = replicate jobs []; holders = replicate jobs 0 }

shares_empty : (n : ℕ) → Shares (replicate n []) (replicate n 0)
shares_empty zero = tt
shares_empty (suc n) = (tt, shares_empty n)

-- a table can hold the board without jobs
pub storable_empty : (benches jobs : ℕ) → T (within 1 most_benches benches) → T (within 1 most_jobs jobs) → Storable (empty_board benches jobs)
storable_empty benches jobs b j =
    record {
      valid = record { names = each_replicate (λ names. T (names_fit benches names)) jobs [] tt; shares = shares_empty jobs };
      benches = b;
      jobs = rw (length-replicate {A = List ℕ} jobs []) j;
      pairs = each_replicate (λ names. T (paired names)) jobs [] tt;
    }

-- no job stands on it
pub standing_empty : (n : ℕ) → length (filter {A = List ℕ} (λ names. not (empty names)) (replicate n [])) ≡ 0
standing_empty zero = refl
standing_empty (suc n) = standing_empty n

-- no bench, counted from 1, holds a job that does not stand
first_held_empty : (i x n : ℕ) → 1 ≤ x → first_held i x (replicate n 0) ≡ 0
first_held_empty i x zero l = refl
first_held_empty i x (suc n) l = rw (ne_eqb 0 x (omega arith)) (first_held_empty (suc i) x n l)

records_empty : (i n : ℕ) → flat_map entry_words (entries_from i (replicate n []) (replicate n 0)) ≡ replicate (4 * n) 0
unfolding flat_map
records_empty i zero = refl
records_empty i (suc n) = let e : 4 * suc n ≡ suc (suc (suc (suc (4 * n)))) = omega arith in rw (e, records_empty (suc i) n)

-- a blanked table is the encoding of the board without jobs
pub blank_is_encoded : (benches jobs : ℕ) → blank_table benches jobs ≡ encode (empty_board benches jobs)
unfolding blank_table encode flat layout_of
blank_is_encoded benches jobs =
    let e : 2 + benches + 4 * jobs ≡ suc (suc (benches + 4 * jobs)) = omega arith in
    rw (e, length-replicate {A = List ℕ} jobs [], standing_empty jobs, values_replicate (λ x. first_held 1 x (replicate jobs 0)) 1 benches 0 (λ x l. first_held_empty 1 x jobs l), records_empty 1 jobs, replicate-append-replicate {A = ℕ} benches (4 * jobs) 0)

-- "For a blank table" there are no jobs, and it is sound
pub blank_sound : (benches jobs : ℕ) → T (within 1 most_benches benches) → T (within 1 most_jobs jobs) → T (sound (blank_table benches jobs))
blank_sound benches jobs b j = rw (blank_is_encoded benches jobs) (encode_sound (empty_board benches jobs) (storable_empty benches jobs b j))

pub blank_decodes : (benches jobs : ℕ) → T (within 1 most_benches benches) → T (within 1 most_jobs jobs) → decode (blank_table benches jobs) ≡ empty_board benches jobs
blank_decodes benches jobs b j = rw (blank_is_encoded benches jobs) (decode_encode (empty_board benches jobs) (storable_empty benches jobs b j))

-- blanking whatever bytes of a fitting length leaves a sound table without jobs
pub record Blanked (benches jobs : ℕ) (o : Outcome) : Type 0 where
  pub answer : o.answer ≡ said blanked
  pub sound : T (sound o.table)
  pub board : decode o.table ≡ empty_board benches jobs

pub blanking_leaves : (benches jobs : ℕ) (t : List ℕ) → sizes_fit (length t) benches jobs ≡ true → Blanked benches jobs (blanking benches jobs t)
unfolding blanking
blanking_leaves benches jobs t e =
    let s = sized (length t) benches jobs (true→T (sizes_fit (length t) benches jobs) e) in
    rw e
    (record {
      answer = refl;
      sound = blank_sound benches jobs s.benches_within s.jobs_within;
      board = blank_decodes benches jobs s.benches_within s.jobs_within;
    })

-- where it is answered, they fit
pub blanking_fits : (benches jobs : ℕ) (t : List ℕ) → is_refused (blanking benches jobs t).answer ≡ false → sizes_fit (length t) benches jobs ≡ true
unfolding blanking
blanking_fits benches jobs t n = go (sizes_fit (length t) benches jobs) refl
  where
    go : (z : Bool) → sizes_fit (length t) benches jobs ≡ z → z ≡ true
    go true e = refl
    go false e = absurd (false≢true (sym n ∙ rw e))

-- .. and the table left is the blank one of these sizes
pub blanking_blank : (benches jobs : ℕ) (t : List ℕ) → sizes_fit (length t) benches jobs ≡ true → ((blanking benches jobs t).table ≡ blank_table benches jobs) × (sizes_fit (length_for benches jobs) benches jobs ≡ true)
unfolding blanking
blanking_blank benches jobs t e =
    let z = sized (length t) benches jobs (true→T (sizes_fit (length t) benches jobs) e) in
    (rw e, subst (λ (n : ℕ). sizes_fit n benches jobs ≡ true) z.exact e)

-- and where the length does not fit, it is refused with 1 and leaves all bytes
pub blanking_refused : (benches jobs : ℕ) (t : List ℕ) → sizes_fit (length t) benches jobs ≡ false → blanking benches jobs t ≡ record { answer = refused sizes; table = t; lent = [] }
unfolding blanking
blanking_refused benches jobs t e = rw e
