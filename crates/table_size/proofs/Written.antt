-- What a written word does to the layout.
use Rattle.std.proofs.Common.{◌≡◌, ℕ, zero, suc, ◌+◌, ◌-◌, ◌*◌, ◌<◌, ◌≤◌, ◌⊎◌, List, [], ◌∷◌, ◌++◌, length, get_or, take, drop, set, replicate, sym, refl, ap, ◌∙◌, subst, ⊎_elim, arith, length-append, length-drop, length-take, get_or-set_other, take_at, drop-set-lt, drop_at}
use lib.ListN.{length-replicate}
use lib.Seq.{take-set-le, take-set-lt, drop-set-add, drop-append-add}
use Rattle.spec_lists.specs.Lists.{nth, update}
use Rattle.spec_table.specs.Table.{words, Entry, vacant, holder_in, entries_in, Layout, layout}
use Rattle.spec_lists.proofs.Elements.{nth_update_same, update_again, each_replicate}
use Rattle.spec_table.proofs.Words.{words_append}
use Rattle.spec_table.proofs.Places.{two_more, length_words, entry_from, head_at, entry_at}
use Rattle.table_words.specs.Bytes.{IsWord, set_word, layout_in}
use Rattle.table_size.specs.Sizes.{SizeOf, JobIn, BenchIn}
use Rattle.table_size.specs.Written.{record_in, with_word, HeadOf, with_head, cleared, with_entry, with_standing, HasLayout}
use Rattle.table_size.specs.declared.Size.{Size}
use Rattle.table_words.proofs.Bytes.{words_set_word, length_set_word, zero_bytes}
use Rattle.table_size.proofs.Sizes.{size_kept, words_long, entries_long}

-- one word

-- a word after words 0 and 1 leaves the size, and the layout is that of the changed words
written : (t : List ℕ) (s : Size) (i w : ℕ) (l : Layout) → SizeOf t s → 2 ≤ i → i < length (words t) → w < 65536 → layout (set (words t) i w) ≡ l → HasLayout (set_word t i w) s l
written t s i w l z low high small e =
    let ws : words (set_word t i w) ≡ set (words t) i w = words_set_word t i w (omega (arith, length_words t)) small in
    let b : get_or (set (words t) i w) 0 0 ≡ get_or (words t) 0 0 = get_or-set_other (words t) i 0 w 0 (λ p. omega arith) in
    let j : get_or (set (words t) i w) 1 0 ≡ get_or (words t) 1 0 = get_or-set_other (words t) i 1 w 0 (λ p. omega arith) in
    record {
      size = size_kept t (set_word t i w) s z (length_set_word t i w) (ap (λ (k : List ℕ). get_or k 0 0) ws ∙ b) (ap (λ (k : List ℕ). get_or k 1 0) ws ∙ j);
      layout = ap layout ws ∙ e;
    }

-- the layout with other heads and other records
abbrev pub with_both : Layout → List ℕ → List Entry → Layout
with_both l heads entries =
    record { benches = l.benches; jobs = l.jobs; standing = l.standing; spare = l.spare; heads = heads; entries = entries }

-- words 0 to 3 stay where a later one is changed
layout_later : (ws : List ℕ) (i w : ℕ) → let b = (layout ws).benches in layout (set ws (4 + i) w) ≡ with_both (layout ws) (take b (set (drop 4 ws) i w)) (entries_in (drop (4 + b) (set ws (4 + i) w)))
unfolding layout
layout_later ws i w =
    let us : List ℕ = set ws (4 + i) w in
    let kept : (k : ℕ) → k < 4 → get_or us k 0 ≡ get_or ws k 0 = λ k l. get_or-set_other ws (4 + i) k w 0 (λ p. omega arith) in
    let first : get_or us 0 0 ≡ get_or ws 0 0 = kept 0 (omega arith) in
    λ k. record {
      benches = first k;
      jobs = kept 1 (omega arith) k;
      standing = kept 2 (omega arith) k;
      spare = kept 3 (omega arith) k;
      heads = take (first k) (drop-set-add 4 ws i w k);
      entries = entries_in (drop (4 + first k) us);
    }

-- heads

-- word 4 + i is the head at place 1 + i
layout_head : (ws : List ℕ) (i w : ℕ) → i < (layout ws).benches → layout (set ws (4 + i) w) ≡ with_head (layout ws) (suc i) w
unfolding layout
layout_head ws i w l =
    let b : ℕ = get_or ws 0 0 in
    let heads : take b (set (drop 4 ws) i w) ≡ set (take b (drop 4 ws)) i w = take-set-lt b (drop 4 ws) i w l in
    let rest : drop (4 + b) (set ws (4 + i) w) ≡ drop (4 + b) ws = drop-set-lt (4 + b) ws (4 + i) w (omega arith) in
    layout_later ws i w ∙ (λ k. with_both (layout ws) (heads k) (entries_in (rest k)))

-- word 3 + x
pub has_layout_head : (t : List ℕ) (s : Size) (x j : ℕ) → SizeOf t s → BenchIn s x → j < 65536 → HasLayout (set_word t (3 + x) j) s (with_head (layout_in t) x j)
has_layout_head t s zero j z b w = absurd (omega (arith, b.least))
has_layout_head t s (suc i) j z b w =
    let e : 3 + suc i ≡ 4 + i = omega arith in
    let l : layout (set (words t) (4 + i) j) ≡ with_head (layout_in t) (suc i) j = layout_head (words t) i j (omega (arith, b.most, z.benches)) in
    rw e (written t s (4 + i) j (with_head (layout_in t) (suc i) j) z (omega arith) (omega (arith, words_long t s z, b.most)) w l)

-- records

-- word k of the record at place i
entries_in_word : (ws : List ℕ) (i k w : ℕ) → k < 4 → 4 * i + 4 ≤ length ws → entries_in (set ws (4 * i + k) w) ≡ set (entries_in ws) i (with_word k w (get_or (entries_in ws) i vacant))
entries_in_word [] i k w p l = absurd (omega arith)
entries_in_word (a ∷ []) i k w p l = absurd (omega arith)
entries_in_word (a ∷ b ∷ []) i k w p l = absurd (omega arith)
entries_in_word (a ∷ b ∷ h ∷ []) i k w p l = absurd (omega arith)
entries_in_word (a ∷ b ∷ h ∷ n ∷ ws) zero zero w p l = refl
entries_in_word (a ∷ b ∷ h ∷ n ∷ ws) zero (suc zero) w p l = refl
entries_in_word (a ∷ b ∷ h ∷ n ∷ ws) zero (suc (suc zero)) w p l = refl
entries_in_word (a ∷ b ∷ h ∷ n ∷ ws) zero (suc (suc (suc zero))) w p l = refl
entries_in_word (a ∷ b ∷ h ∷ n ∷ ws) zero (suc (suc (suc (suc k)))) w p l = absurd (omega arith)
entries_in_word (a ∷ b ∷ h ∷ n ∷ ws) (suc i) k w p l =
    let e : 4 * suc i + k ≡ suc (suc (suc (suc (4 * i + k)))) = omega arith in
    rw e (ap (λ (es : List Entry). record { names = a ∷ b ∷ []; holder = h; next = n } ∷ es) (entries_in_word ws i k w p (omega arith)))

-- word B + 4 × j + k is word k of job j's record
layout_word : (ws : List ℕ) (j k w : ℕ) → 1 ≤ j → k < 4 → 4 + (layout ws).benches + 4 * j ≤ length ws → layout (set ws ((layout ws).benches + 4 * j + k) w) ≡ with_entry (layout ws) j (with_word k w (nth (layout ws).entries j vacant))
unfolding layout
layout_word ws zero k w l p h = absurd (omega arith)
layout_word ws (suc i) k w l p h =
    let b : ℕ = get_or ws 0 0 in
    let m : ℕ = 4 * i + k in
    let d : b + 4 * suc i + k ≡ 4 + (b + m) = omega arith in
    let r : 4 + (b + m) ≡ 4 + b + m = omega arith in
    let heads : take b (set (drop 4 ws) (b + m) w) ≡ take b (drop 4 ws) = take-set-le b (drop 4 ws) (b + m) w (omega arith) in
    let rest : drop (4 + b) (set ws (4 + (b + m)) w) ≡ set (drop (4 + b) ws) m w = rw r (drop-set-add (4 + b) ws m w) in
    let entries = ap entries_in rest ∙ entries_in_word (drop (4 + b) ws) i k w p (omega (arith, length-drop (4 + b) ws)) in
    rw d (layout_later ws (b + m) w ∙ (λ q. with_both (layout ws) (heads q) (entries q)))

-- job j's record is words B + 4 × j and the next three
pub record_words : (t : List ℕ) (s : Size) (j : ℕ) → SizeOf t s → JobIn s j → nth (layout_in t).entries j vacant ≡ entry_from (words t) (s.benches + 4 * j)
record_words t s j z i = rw (sym z.benches) (entry_at (words t) j i.least (omega (arith, words_long t s z, z.benches, i.most)))

-- word k of job j's record written ..
pub has_layout_word : (t : List ℕ) (s : Size) (j k w : ℕ) → SizeOf t s → JobIn s j → k < 4 → w < 65536 → HasLayout (set_word t (s.benches + 4 * j + k) w) s (with_entry (layout_in t) j (with_word k w (nth (layout_in t).entries j vacant)))
has_layout_word t s j k w z i p small =
    let l : Layout = with_entry (layout_in t) j (with_word k w (nth (layout_in t).entries j vacant)) in
    let e = layout_word (words t) j k w i.least p (omega (arith, words_long t s z, z.benches, i.most)) in
    let f : layout (set (words t) (s.benches + 4 * j + k) w) ≡ l = rw (sym z.benches) e in
    written t s (s.benches + 4 * j + k) w l z (omega (arith, i.least)) (omega (arith, words_long t s z, i.most)) small f

-- .. after others of it
has_layout_again : (t : List ℕ) (s : Size) (l : Layout) (j k w : ℕ) (e : Entry) → HasLayout t s (with_entry l j e) → JobIn s j → j ≤ length l.entries → k < 4 → w < 65536 → HasLayout (set_word t (s.benches + 4 * j + k) w) s (with_entry l j (with_word k w e))
has_layout_again t s l j k w e a i m p small =
    let r = has_layout_word t s j k w a.size i p small in
    let same : nth (update l.entries j e) j vacant ≡ e = nth_update_same l.entries j e vacant i.least m in
    let q : Layout → Layout = λ m. with_entry m j (with_word k w (nth m.entries j vacant)) in
    let f : q (with_entry l j e) ≡ with_entry l j (with_word k w e) = rw same (λ n. with_both l l.heads (update_again l.entries j e (with_word k w e) n)) in
    record { size = r.size; layout = r.layout ∙ ap q a.layout ∙ f }

-- the four words of job j's record, written one after the other
pub has_layout_entry : (t : List ℕ) (s : Size) (j a b h n : ℕ) → SizeOf t s → JobIn s j → a < 65536 → b < 65536 → h < 65536 → n < 65536 → HasLayout (set_word (set_word (set_word (set_word t (s.benches + 4 * j) a) (s.benches + 4 * j + 1) b) (s.benches + 4 * j + 2) h) (s.benches + 4 * j + 3) n) s (with_entry (layout_in t) j (record { names = a ∷ b ∷ []; holder = h; next = n }))
has_layout_entry t s j a b h n z i wa wb wh wn =
    let p : ℕ = s.benches + 4 * j in
    let l : Layout = layout_in t in
    let m : j ≤ length l.entries = omega (arith, entries_long t s z, i.most) in
    let old : Entry = nth l.entries j vacant in
    let t0 : List ℕ = set_word t p a in
    let t1 : List ℕ = set_word t0 (p + 1) b in
    let t2 : List ℕ = set_word t1 (p + 2) h in
    let t3 : List ℕ = set_word t2 (p + 3) n in
    let r0 : HasLayout t0 s (with_entry l j (with_word 0 a old)) = subst (λ (q : ℕ). HasLayout (set_word t q a) s (with_entry l j (with_word 0 a old))) (omega arith) (has_layout_word t s j 0 a z i (omega arith) wa) in
    let r1 = has_layout_again t0 s l j 1 b (with_word 0 a old) r0 i m (omega arith) wb in
    let r2 = has_layout_again t1 s l j 2 h (with_word 1 b (with_word 0 a old)) r1 i m (omega arith) wh in
    let r3 = has_layout_again t2 s l j 3 n (with_word 2 h (with_word 1 b (with_word 0 a old))) r2 i m (omega arith) wn in
    subst (λ (e : Entry). HasLayout t3 s (with_entry l j (with_word 3 n (with_word 2 h (with_word 1 b (with_word 0 a e)))))) (record_words t s j z i) r3

-- the number of standing jobs

-- the other words stay where words 2 and 3 are changed
layout_standing : (ws : List ℕ) (n : ℕ) → 4 ≤ length ws → layout (set (set ws 2 n) 3 0) ≡ with_standing (layout ws) n
unfolding layout
layout_standing [] n l = absurd (omega arith)
layout_standing (a ∷ []) n l = absurd (omega arith)
layout_standing (a ∷ b ∷ []) n l = absurd (omega arith)
layout_standing (a ∷ b ∷ c ∷ []) n l = absurd (omega arith)
layout_standing (a ∷ b ∷ c ∷ d ∷ ws) n l =
    let rest : drop (4 + a) (a ∷ b ∷ n ∷ 0 ∷ ws) ≡ drop (4 + a) (a ∷ b ∷ c ∷ d ∷ ws) = drop-append-add (a ∷ b ∷ n ∷ 0 ∷ []) ws a ∙ sym (drop-append-add (a ∷ b ∷ c ∷ d ∷ []) ws a) in
    λ k. record { benches = a; jobs = b; standing = n; spare = 0; heads = take a ws; entries = entries_in (rest k) }

-- words 2 and 3
pub has_layout_standing : (t : List ℕ) (s : Size) (n : ℕ) → SizeOf t s → n < 65536 → HasLayout (set_word (set_word t 2 n) 3 0) s (with_standing (layout_in t) n)
has_layout_standing t s n z w =
    let u : List ℕ = set_word t 2 n in
    let long : length (words t) ≡ 4 + s.benches + 4 * s.jobs = words_long t s z in
    let ws : words u ≡ set (words t) 2 n = words_set_word t 2 n (omega (arith, length_words t)) w in
    let r : HasLayout u s (layout (set (words t) 2 n)) = written t s 2 n (layout (set (words t) 2 n)) z (omega arith) (omega arith) w refl in
    let e : layout (set (words u) 3 0) ≡ with_standing (layout_in t) n = rw ws (layout_standing (words t) n (omega arith)) in
    written u s 3 0 (with_standing (layout_in t) n) r.size (omega arith) (omega (arith, words_long u s r.size)) (omega arith) e

-- no heads

-- bytes two by two, read as words: the first n words ..
words_take : (n : ℕ) (t rest : List ℕ) → 2 * n ≤ length t → words (take (2 * n) t ++ rest) ≡ take n (words t) ++ words rest
words_take zero t rest l = refl
words_take (suc n) [] rest l = absurd (omega arith)
words_take (suc n) (a ∷ []) rest l = absurd (omega arith)
words_take (suc n) (a ∷ b ∷ t) rest l = rw (two_more n) (ap (λ (ws : List ℕ). (a + 256 * b) ∷ ws) (words_take n t rest (omega arith)))

-- .. the words after them ..
words_drop : (n : ℕ) (t : List ℕ) → words (drop (2 * n) t) ≡ drop n (words t)
words_drop zero t = refl
words_drop (suc n) [] = rw (two_more n)
words_drop (suc n) (a ∷ []) = rw (two_more n)
words_drop (suc n) (a ∷ b ∷ t) = rw (two_more n) (words_drop n t)

-- .. and n zero words
words_zeros : (n : ℕ) (rest : List ℕ) → words (replicate (2 * n) 0 ++ rest) ≡ replicate n 0 ++ words rest
words_zeros n rest = rw (zero_bytes n) (words_append (replicate n 0) rest (each_replicate (λ w. w < 65536) n 0 (omega arith)))

-- B zero words after word 3 are the heads
layout_cleared : (ws : List ℕ) → 4 ≤ length ws → let b = (layout ws).benches in layout (take 4 ws ++ (replicate b 0 ++ drop (4 + b) ws)) ≡ cleared (layout ws)
unfolding layout
layout_cleared [] l = absurd (omega arith)
layout_cleared (a ∷ []) l = absurd (omega arith)
layout_cleared (a ∷ b ∷ []) l = absurd (omega arith)
layout_cleared (a ∷ b ∷ c ∷ []) l = absurd (omega arith)
layout_cleared (a ∷ b ∷ c ∷ d ∷ ws) l =
    let zeros : List ℕ = replicate a 0 in
    let rest : List ℕ = drop (4 + a) (a ∷ b ∷ c ∷ d ∷ ws) in
    let heads : take a (zeros ++ rest) ≡ zeros = take_at zeros rest a (length-replicate {A = ℕ} a 0) in
    let entries : drop (4 + a) (a ∷ b ∷ c ∷ d ∷ (zeros ++ rest)) ≡ rest = drop_at (a ∷ b ∷ c ∷ d ∷ zeros) rest (4 + a) (omega (arith, length-replicate {A = ℕ} a 0)) in
    λ k. with_both (layout (a ∷ b ∷ c ∷ d ∷ ws)) (heads k) (entries_in (entries k))

-- the words of all heads: bytes 8 to 8 + 2 × B
pub has_layout_cleared : (t : List ℕ) (s : Size) → SizeOf t s → HasLayout (take 8 t ++ (replicate (2 * s.benches) 0 ++ drop (8 + 2 * s.benches) t)) s (cleared (layout_in t))
unfolding layout
has_layout_cleared t s z =
    let b : ℕ = s.benches in
    let rest : List ℕ = drop (8 + 2 * b) t in
    let zeros : List ℕ = replicate (2 * b) 0 in
    let u : List ℕ = take 8 t ++ (zeros ++ rest) in
    let e : 8 + 2 * b ≡ 2 * (4 + b) = omega arith in
    let f : words rest ≡ drop (4 + b) (words t) = rw e (words_drop (4 + b) t) in
    let ws : words u ≡ take 4 (words t) ++ (replicate b 0 ++ words rest) = words_take 4 t (zeros ++ rest) (omega (arith, z.long)) ∙ ap (λ (l : List ℕ). take 4 (words t) ++ l) (words_zeros b rest) in
    let c : layout (take 4 (words t) ++ (replicate b 0 ++ drop (4 + b) (words t))) ≡ cleared (layout_in t) = subst (λ (n : ℕ). layout (take 4 (words t) ++ (replicate n 0 ++ drop (4 + n) (words t))) ≡ cleared (layout_in t)) z.benches (layout_cleared (words t) (omega (arith, words_long t s z))) in
    let l : layout_in u ≡ cleared (layout_in t) = rw (ws, f) c in
    let long : length u ≡ length t = omega (arith, z.long, length-append (take 8 t) (zeros ++ rest), length-append zeros rest, length-take 8 t, length-drop (8 + 2 * b) t, length-replicate {A = ℕ} (2 * b) 0) in
    record { size = size_kept t u s z long (ap (λ (l : Layout). l.benches) l) (ap (λ (l : Layout). l.jobs) l); layout = l }

-- words read

-- word 2
pub standing_read : (t : List ℕ) (r : ℕ) → IsWord t 2 r → r ≡ (layout_in t).standing
unfolding layout
standing_read t r w = w.value

-- word 3
pub spare_read : (t : List ℕ) (r : ℕ) → IsWord t 3 r → r ≡ (layout_in t).spare
unfolding layout
spare_read t r w = w.value

-- word 3 + x
pub head_read : (t : List ℕ) (s : Size) (x r : ℕ) → SizeOf t s → BenchIn s x → IsWord t (3 + x) r → HeadOf t x r
head_read t s x r z b w =
    record {
      head = w.value ∙ sym (head_at (words t) x b.least (omega (arith, b.most, z.benches)));
      small = w.small;
    }

-- the bench at place p among a record's two names
named_word : (ws : List ℕ) (at p : ℕ) → 1 ≤ p → p ≤ 2 → nth (get_or ws at 0 ∷ get_or ws (at + 1) 0 ∷ []) p 0 ≡ get_or ws (at + p - 1) 0
named_word ws at zero l m = absurd (omega arith)
named_word ws at (suc zero) l m = let e : at + 1 - 1 ≡ at = omega arith in rw e refl
named_word ws at (suc (suc zero)) l m = let e : at + 2 - 1 ≡ at + 1 = omega arith in rw e refl
named_word ws at (suc (suc (suc p))) l m = absurd (omega arith)

-- no bench is at another place
none_named : (a b p : ℕ) → (p < 1) ⊎ (2 < p) → nth (a ∷ b ∷ []) p 0 ≡ 0
none_named a b zero o = refl
none_named a b (suc zero) o = ⊎_elim (λ h. absurd (omega arith)) (λ h. absurd (omega arith)) o
none_named a b (suc (suc zero)) o = ⊎_elim (λ h. absurd (omega arith)) (λ h. absurd (omega arith)) o
none_named a b (suc (suc (suc p))) o = refl

module _ (t : List ℕ) (s : Size) (j : ℕ) (size : SizeOf t s) (job : JobIn s j) where
  -- the first two words of job j's record are the benches that it names
  pub name_word : (k r : ℕ) → 1 ≤ k → k ≤ 2 → IsWord t (s.benches + 4 * j + k - 1) r → r ≡ nth (record_in t j).names k 0
  name_word k r l m w =
      w.value ∙ sym (ap (λ (e : Entry). nth e.names k 0) (record_words t s j size job) ∙ named_word (words t) (s.benches + 4 * j) k l m)

  -- the third tells which of them ..
  pub holder_word : (place : ℕ) → IsWord t (s.benches + 4 * j + 2) place → nth (record_in t j).names place 0 ≡ holder_in (record_in t j)
  holder_word place w =
      ap (λ (p : ℕ). nth (record_in t j).names p 0) (w.value ∙ sym (ap (λ (e : Entry). e.holder) (record_words t s j size job)))

  -- .. or none
  pub holder_none : (place : ℕ) → IsWord t (s.benches + 4 * j + 2) place → (place < 1) ⊎ (2 < place) → 0 ≡ holder_in (record_in t j)
  holder_none place w o =
      let named = ap (λ (e : Entry). nth e.names place 0) (record_words t s j size job) in
      sym (none_named (get_or (words t) (s.benches + 4 * j) 0) (get_or (words t) (s.benches + 4 * j + 1) 0) place o) ∙ sym named ∙ holder_word place w
