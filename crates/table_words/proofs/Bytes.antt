-- Words and bytes: what a written word does to the words, the bytes that words stand for, and words in a lent list.
use Prim.Native.Nat.{ℕ, zero, suc, ◌+◌, ◌*◌, ◌/◌, ◌%◌, ◌≤◌, ◌<◌}
use native.Mathlib.Omega.{arith}
use native.Mathlib.Numerals.{add-one}
use mathlib.Core.Path.{◌≡◌, refl, sym, ap, ◌∙◌}
use mathlib.Core.List.{List, [], ◌∷◌, ◌++◌}
use lib.ListN.{length, get_or, set, take, replicate, length-set}
use lib.Seq.{take-suc, take_all, length-take-le}
use Rattle.spec_table.specs.Table.{words, bytes_of, in_list, length_for, blank_table}
use Rattle.spec_table.proofs.Places.{two_more, two_more_high}
use Rattle.table_words.specs.Bytes.{set_word}

-- a written word is a changed word ..
pub words_set_word : (t : List ℕ) (i w : ℕ) → 2 * i + 1 < length t → w < 65536 → words (set_word t i w) ≡ set (words t) i w
unfolding set_word
words_set_word [] i w l s = absurd (omega arith)
words_set_word (a ∷ []) i w l s = absurd (omega arith)
words_set_word (a ∷ b ∷ t) zero w l s = let e : w % 256 + 256 * (w / 256 % 256) ≡ w = omega arith in rw e
words_set_word (a ∷ b ∷ t) (suc i) w l s =
    rw (two_more_high i, two_more i) (ap (λ (l : List ℕ). (a + 256 * b) ∷ l) (words_set_word t i w (omega arith) s))

-- .. and the length stays
pub length_set_word : (t : List ℕ) (i w : ℕ) → length (set_word t i w) ≡ length t
unfolding set_word
length_set_word t i w = simp length-set

-- the next word written into a list is one more
pub list_next : (list ws : List ℕ) (w : ℕ) → 2 * length ws + 1 < length list → set_word (in_list ws list) (length ws) w ≡ in_list (ws ++ (w ∷ [])) list
unfolding set_word
list_next [] ws w h = absurd (omega arith)
list_next (a ∷ []) ws w h = absurd (omega arith)
list_next (a ∷ b ∷ list) [] w h = refl
list_next (a ∷ b ∷ list) (v ∷ ws) w h =
    rw (two_more_high (length ws), two_more (length ws), two_more (length (ws ++ (w ∷ []))))
    (ap (λ (bytes : List ℕ). v % 256 ∷ v / 256 % 256 ∷ bytes) (list_next list ws w (omega arith)))

-- the first i words stand in the list
pub record Listing (list₀ ws list : List ℕ) (i : ℕ) : Type 0 where
  pub bytes : list ≡ in_list (take i ws) list₀
  pub long : length list ≡ length list₀
  pub few : i ≤ length ws

-- then one more ..
pub listing_turn : {list₀ ws list list' : List ℕ} {i w : ℕ} → Listing list₀ ws list i → i < length ws → 2 * length ws ≤ length list₀ → w ≡ get_or ws i 0 → list' ≡ set_word list i w → Listing list₀ ws list' (i + 1)
listing_turn {list₀} {ws} {list} {list'} {i} {w} l h room e f =
    let n = length-take-le i ws (omega arith) in
    let next = list_next list₀ (take i ws) w (omega (arith, n)) in
    let more : take i ws ++ (w ∷ []) ≡ take (i + 1) ws = rw (e, add-one) (sym (take-suc ws i 0 h)) in
    record {
      bytes = f ∙ ap (λ (r : List ℕ). set_word r i w) l.bytes ∙ ap (λ (k : ℕ). set_word (in_list (take i ws) list₀) k w) (sym n) ∙ next ∙ ap (λ (r : List ℕ). in_list r list₀) more;
      long = ap length f ∙ length_set_word list i w ∙ l.long;
      few = omega arith;
    }

-- .. and all in the end
pub listing_end : {list₀ ws list : List ℕ} {i : ℕ} → Listing list₀ ws list i → length ws ≤ i → list ≡ in_list ws list₀
listing_end {list₀} {ws} {list} {i} l h = l.bytes ∙ ap (λ (r : List ℕ). in_list r list₀) (take_all i ws h)

-- zero bytes are the bytes of zero words
pub zero_bytes : (n : ℕ) → replicate (2 * n) 0 ≡ bytes_of (replicate n 0)
zero_bytes zero = refl
zero_bytes (suc n) = rw (two_more n, zero_bytes n)

-- words 0 and 1 written over zero bytes are a blank table
pub blank_bytes : (benches jobs : ℕ) → set_word (set_word (replicate (length_for benches jobs) 0) 0 benches) 1 jobs ≡ blank_table benches jobs
unfolding set_word blank_table
blank_bytes benches jobs =
    let n : ℕ = 2 + benches + 4 * jobs in
    let e : length_for benches jobs ≡ suc (suc (suc (suc (2 * n)))) = omega arith in
    rw (e, zero_bytes n)
