-- The table's places: words, heads and records, and sizes that fit.
use Prim.Native.Nat.{ℕ, zero, suc, ◌+◌, ◌*◌, ◌/◌, ◌%◌, ◌≤◌, ◌<◌}
use native.Mathlib.Omega.{arith}
use native.Mathlib.Nat.{add_assoc}
use mathlib.Core.Path.{◌≡◌, refl, sym, ap, ◌∙◌}
use mathlib.Core.Bool.{false}
use mathlib.Core.List.{List, [], ◌∷◌}
use lib.Dec.{T, eqb, leb}
use lib.ListN.{length, get_or, drop, length-take, length-drop}
use lib.Seq.{get_or-take, get_or-drop}
use Rattle.spec_lists.specs.Lists.{within, nth}
use Rattle.spec_table.specs.Table.{words, bytes_of, length_for, most_benches, most_jobs, sizes_fit, Entry, vacant, entries_in, layout, fits, flat}
use Rattle.spec_lists.proofs.Tests.{never→false, five, T-eqb, T-leb}
use Rattle.spec_table.proofs.Words.{bytes_of_words, flat_layout}

-- the table's places

-- the bytes of a word lie two behind those of the word before it
pub two_more : (n : ℕ) → 2 * suc n ≡ suc (suc (2 * n))
two_more n = omega arith

pub two_more_high : (n : ℕ) → 2 * suc n + 1 ≡ suc (suc (2 * n + 1))
two_more_high n = omega arith

-- word i is bytes 2i and 2i + 1, low byte first
pub word_at : (t : List ℕ) (i : ℕ) → 2 * i + 1 < length t → get_or (words t) i 0 ≡ get_or t (2 * i) 0 + 256 * get_or t (2 * i + 1) 0
word_at [] i h = omega arith
word_at (a ∷ []) i h = omega arith
word_at (a ∷ b ∷ t) zero h = refl
word_at (a ∷ b ∷ t) (suc i) h = rw (two_more_high i, two_more i) (word_at t i (omega arith))

-- a word is two bytes
pub length_words : (t : List ℕ) → length (words t) ≡ length t / 2
length_words [] = refl
length_words (a ∷ []) = refl
length_words (a ∷ b ∷ t) = omega (arith, length_words t)

-- word 3 + x is the head of bench x
pub head_at : (ws : List ℕ) (x : ℕ) → 1 ≤ x → x ≤ (layout ws).benches → nth (layout ws).heads x 0 ≡ get_or ws (3 + x) 0
unfolding layout
head_at ws zero l h = omega arith
head_at ws (suc i) l h =
    let e : 4 + i ≡ 3 + suc i = omega arith in
    get_or-take (get_or ws 0 0) (drop 4 ws) i 0 h ∙ get_or-drop 4 ws i 0 ∙ ap (λ (k : ℕ). get_or ws k 0) e

-- the record whose first word is word i
abbrev pub entry_from : List ℕ → ℕ → Entry
entry_from ws i = record { names = get_or ws i 0 ∷ get_or ws (i + 1) 0 ∷ []; holder = get_or ws (i + 2) 0; next = get_or ws (i + 3) 0 }

entry_from_drop : (n : ℕ) (ws : List ℕ) (i : ℕ) → entry_from (drop n ws) i ≡ entry_from ws (n + i)
entry_from_drop n ws i = simp (get_or-drop, add_assoc)

entries_in_at : (ws : List ℕ) (i : ℕ) → 4 * i + 4 ≤ length ws → get_or (entries_in ws) i vacant ≡ entry_from ws (4 * i)
entries_in_at [] i l = absurd (omega arith)
entries_in_at (a ∷ []) i l = absurd (omega arith)
entries_in_at (a ∷ b ∷ []) i l = absurd (omega arith)
entries_in_at (a ∷ b ∷ h ∷ []) i l = absurd (omega arith)
entries_in_at (a ∷ b ∷ h ∷ n ∷ ws) zero l = refl
entries_in_at (a ∷ b ∷ h ∷ n ∷ ws) (suc i) l =
    let e : 4 + 4 * i ≡ 4 * suc i = omega arith in
    entries_in_at ws i (omega arith) ∙ entry_from_drop 4 (a ∷ b ∷ h ∷ n ∷ ws) (4 * i) ∙ ap (entry_from (a ∷ b ∷ h ∷ n ∷ ws)) e

entries_in_length : (n : ℕ) (ws : List ℕ) → length ws ≡ 4 * n → length (entries_in ws) ≡ n
entries_in_length n [] e = omega arith
entries_in_length n (a ∷ []) e = omega arith
entries_in_length n (a ∷ b ∷ []) e = omega arith
entries_in_length n (a ∷ b ∷ h ∷ []) e = omega arith
entries_in_length zero (a ∷ b ∷ h ∷ m ∷ ws) e = omega arith
entries_in_length (suc n) (a ∷ b ∷ h ∷ m ∷ ws) e = ap suc (entries_in_length n ws (omega arith))

-- job j's record is words B + 4 × j, which is 4 + B + 4 × (j − 1), and the next three
pub entry_at : (ws : List ℕ) (j : ℕ) → 1 ≤ j → 4 + (layout ws).benches + 4 * j ≤ length ws → nth (layout ws).entries j vacant ≡ entry_from ws ((layout ws).benches + 4 * j)
unfolding layout
entry_at ws zero l h = absurd (omega arith)
entry_at ws (suc i) l h =
    let b = get_or ws 0 0 in
    let e : 4 + b + 4 * i ≡ b + 4 * suc i = omega arith in
    entries_in_at (drop (4 + b) ws) i (omega (arith, length-drop (4 + b) ws)) ∙ entry_from_drop (4 + b) ws (4 * i) ∙ ap (entry_from ws) e

-- sizes that fit

-- what it is for a byte length to fit B and J
pub record Sized (len benches jobs : ℕ) : Type 0 where
  pub even : len % 2 ≡ 0
  pub long : 8 ≤ len
  pub benches_within : T (within 1 most_benches benches)
  pub jobs_within : T (within 1 most_jobs jobs)
  pub exact : len ≡ length_for benches jobs

-- sizes that fit have this shape
pub sized : (len benches jobs : ℕ) → T (sizes_fit len benches jobs) → Sized len benches jobs
unfolding sizes_fit
sized len benches jobs t =
    let p = (five (eqb (len % 2) 0) (leb 8 len) (within 1 most_benches benches) (within 1 most_jobs jobs) (eqb len (length_for benches jobs))).0 t in
    record {
      even = T-eqb (len % 2) 0 p.0;
      long = T-leb 8 len p.1;
      benches_within = p.2;
      jobs_within = p.3;
      exact = T-eqb len (length_for benches jobs) p.4;
    }

-- a byte length does not fit where it has no such shape
pub misfit : (len benches jobs : ℕ) → (Sized len benches jobs → ⊥) → sizes_fit len benches jobs ≡ false
misfit len benches jobs f = never→false (sizes_fit len benches jobs) (λ t. f (sized len benches jobs t))

-- an odd length does not fit, whatever B and J
pub odd_refused : (len benches jobs : ℕ) → len % 2 ≡ 1 → sizes_fit len benches jobs ≡ false
odd_refused len benches jobs h = misfit len benches jobs (λ s. omega arith)

-- a length below 8 does not fit, whatever B and J
pub short_refused : (len benches jobs : ℕ) → len < 8 → sizes_fit len benches jobs ≡ false
short_refused len benches jobs h = misfit len benches jobs (λ s. omega arith)

-- a table that fits, by the sizes that its words 0 and 1 give
pub fits_sized : (t : List ℕ) → T (fits t) → Sized (length t) (layout (words t)).benches (layout (words t)).jobs
unfolding fits layout
fits_sized t f = sized (length t) (get_or (words t) 0 0) (get_or (words t) 1 0) f

-- a table that fits has the byte length of its B and J
pub fits_length : (t : List ℕ) → T (fits t) → length t ≡ length_for (layout (words t)).benches (layout (words t)).jobs
fits_length t f = (fits_sized t f).exact

-- a table that fits has a head for each bench
pub fits_heads : (t : List ℕ) → T (fits t) → length (layout (words t)).heads ≡ (layout (words t)).benches
unfolding layout
fits_heads t f = omega (arith, fits_length t f, length_words t, length-take (get_or (words t) 0 0) (drop 4 (words t)), length-drop 4 (words t))

-- a table that fits has a record for each job number
pub fits_entries : (t : List ℕ) → T (fits t) → length (layout (words t)).entries ≡ (layout (words t)).jobs
unfolding layout
fits_entries t f =
    let b = get_or (words t) 0 0 in
    entries_in_length (get_or (words t) 1 0) (drop (4 + b) (words t)) (omega (arith, fits_length t f, length_words t, length-drop (4 + b) (words t)))

-- a table that fits is its layout, written out: the layout fixes every byte
pub layout_bytes : (t : List ℕ) → T (fits t) → ((i : ℕ) → get_or t i 0 < 256) → t ≡ bytes_of (flat (layout (words t)))
layout_bytes t f b =
    let l = layout (words t) in
    sym (bytes_of_words t (fits_sized t f).even b) ∙ ap bytes_of (sym (flat_layout (words t) l.jobs (omega (arith, fits_length t f, length_words t))))
