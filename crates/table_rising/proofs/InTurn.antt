-- A table whose bytes are the encoding of its board: every job is due when it is met, and none in the end.
use Prim.Native.Nat.{ℕ, zero, suc, ◌+◌, ◌≤◌, ◌<◌}
use native.Mathlib.Omega.{arith}
use native.Mathlib.Numerals.{add-one}
use mathlib.Core.Path.{◌≡◌, refl, sym, ap, subst, ◌∙◌}
use mathlib.Core.Logic.{inl, inr}
use mathlib.Core.Bool.{Bool, true, false, cond}
use mathlib.Core.List.{List, [], ◌∷◌}
use lib.Dec.{T, eqb}
use lib.ListN.{length, get_or, set, drop, drop_of_length-le}
use lib.Seq.{drop-cons, get_or-set_same, get_or-set_other}
use borrow.Author.Tests.{ne_eqb}
use Rattle.spec_lists.specs.Lists.{nth}
use Rattle.spec_lists.proofs.Tests.{true→T, eqb_refl, Compared, same, other, compared}
use Rattle.spec_lists.proofs.Elements.{in_nth}
use Rattle.spec_lists.proofs.NumberLists.{nth_range}
use Rattle.spec_table.specs.Table.{most_benches, Entry, vacant, filled, holder_in, entry_fits, sound, Layout, layout_of, first_held, entry_for, entries_from, decode}
use Rattle.spec_table.proofs.Words.{layout_encode}
use Rattle.spec_table.proofs.Clauses.{sound_formed}
use Rattle.spec_table.proofs.Encode.{encode_sound}
use Rattle.spec_table.proofs.Sound.{standing_word, holder_record}
use Rattle.table_words.specs.Bytes.{layout_in}
use Rattle.table_size.specs.Sizes.{BenchIn}
use Rattle.table_size.specs.Written.{record_in, HeadsOf}
use Rattle.table_size.specs.declared.Size.{Size}
use Rattle.table_size.proofs.Sizes.{entries_long}
use Rattle.table_board.proofs.RecordsAsBoard.{holders_long}
use Rattle.table_record_form.specs.Kinds.{kind_if, kind_of}
use Rattle.table_record_form.specs.declared.Kind.TheVariants.{Vacant, Fitting, Unfit}
use Rattle.table_record_form.proofs.KindOfRecord.{vacant_unheld}
use Rattle.table_rising.specs.Passing.{Met, Unmet, Passed, NoneDue, Encoded}
use Rattle.table_rising.proofs.Meeting.{kind_bench, passed_count}

-- a board's records

-- the k-th one: its next job is the first later one that the same bench holds
entry_at : (i k : ℕ) (named : List (List ℕ)) (holders : List ℕ) → k < length named → k < length holders → get_or (entries_from i named holders) k vacant ≡ entry_for (get_or named k []) (get_or holders k 0) (first_held (suc (i + k)) (get_or holders k 0) (drop (suc k) holders))
entry_at i k [] holders l u = absurd (omega arith)
entry_at i k (names ∷ named) [] l u = absurd (omega arith)
entry_at i zero (names ∷ named) (h ∷ holders) l u = ap (λ (n : ℕ). entry_for names h (first_held (suc n) h holders)) (omega arith)
entry_at i (suc k) (names ∷ named) (h ∷ holders) l u =
    entry_at (suc i) k named holders (omega arith) (omega arith)
    ∙ ap (λ (n : ℕ). entry_for (get_or named k []) (get_or holders k 0) (first_held (suc n) (get_or holders k 0) (drop (suc k) holders))) (omega arith)

-- the next job in a record that fits
next_fitting : (benches : ℕ) (names : List ℕ) (h n : ℕ) → kind_of benches (entry_for names h n) ≡ Fitting → (entry_for names h n).next ≡ n
unfolding kind_of
next_fitting benches [] h n q = absurd (true→T false cc)
next_fitting benches (x ∷ names) h n q = refl

-- a record that passes the tests of a standing job's, if it is filled, is not one that does not fit
unfit_fails : (benches : ℕ) (e : Entry) → kind_of benches e ≡ Unfit → (T (filled e) → T (entry_fits benches e)) → ⊥
unfolding kind_of
unfit_fails benches e q f = go (filled e) (entry_fits benches e) refl refl q
  where
    go : (y z : Bool) → filled e ≡ y → entry_fits benches e ≡ z → kind_if y z ≡ Unfit → ⊥
    go false z p r k = true→T false cc
    go true true p r k = true→T false cc
    go true false p r k = subst T r (f (true→T (filled e) p))

-- the encoding of a board

module _ {t : List ℕ} {s : Size} (k : Encoded t s) where
  -- its layout is the board's ..
  laid : layout_in t ≡ layout_of (decode t)
  laid = ap layout_in k.bytes ∙ layout_encode (decode t) k.holds_board.storable

  -- .. and it is sound
  is_sound_lem : T (sound t)
  is_sound_lem = subst (λ (u : List ℕ). T (sound u)) (sym k.bytes) (encode_sound (decode t) k.holds_board.storable)

  -- so its word 3 is 0 ..
  pub encoded_spare : (layout_in t).spare ≡ 0
  encoded_spare = (sound_formed t is_sound_lem).spare

  -- .. and its word 2 what the pass counts
  pub encoded_standing : {due loads : List ℕ} {n : ℕ} → Passed t s due loads n → (layout_in t).standing ≡ n
  encoded_standing p = standing_word t is_sound_lem ∙ sym (passed_count k.holds_board.size p)

  -- each head is the first job that its bench holds
  head_first : (x : ℕ) → BenchIn s x → nth (layout_in t).heads x 0 ≡ first_held 1 x (decode t).holders
  unfolding layout_of
  head_first x b =
      ap (λ (l : Layout). nth l.heads x 0) laid
      ∙ nth_range (λ y. first_held 1 y (decode t).holders) (decode t).benches x 0 b.least (omega (arith, b.most, k.holds_board.size.board_benches))

  -- the next job of one that fits is the first later one that its holder holds
  next_first : (j : ℕ) → j < s.jobs → kind_of s.benches (record_in t (suc j)) ≡ Fitting → (record_in t (suc j)).next ≡ first_held (suc (suc j)) (holder_in (record_in t (suc j))) (drop (suc j) (decode t).holders)
  unfolding layout_of
  next_first j l q =
      let b = decode t in
      let z = k.holds_board.size in
      let h = get_or b.holders j 0 in
      let n = first_held (suc (suc j)) h (drop (suc j) b.holders) in
      let here : record_in t (suc j) ≡ entry_for (get_or b.named j []) h n =
      ap (λ (l : Layout). nth l.entries (suc j) vacant) laid
      ∙ entry_at 1 j b.named b.holders (omega (arith, z.board_jobs)) (omega (arith, holders_long z))
      ∙ ap (λ (m : ℕ). entry_for (get_or b.named j []) h (first_held m h (drop (suc j) b.holders))) (omega arith) in
      ap (λ (e : Entry). e.next) here
      ∙ next_fitting s.benches (get_or b.named j []) h n (ap (kind_of s.benches) (sym here) ∙ q)
      ∙ ap (λ (x : ℕ). first_held (suc (suc j)) x (drop (suc j) b.holders)) (holder_record t (suc j))

  -- its records are vacant or fit
  none_unfit : (j : ℕ) → 1 ≤ j → j ≤ s.jobs → kind_of s.benches (record_in t j) ≡ Unfit → ⊥
  none_unfit j l u q =
      let z = k.holds_board.size in
      let i = in_nth (layout_in t).entries j vacant l (omega (arith, entries_long t s z)) in
      unfit_fails s.benches (record_in t j) q (λ f. subst (λ (b : ℕ). T (entry_fits b (record_in t j))) z.benches ((sound_formed t is_sound_lem).entry (record_in t j) i f))

-- the pass

-- at each bench the first job that it holds after the first `done` is due
pub record InTurn (t : List ℕ) (s : Size) (due : List ℕ) (done : ℕ) : Type 0 where
  pub first : (x : ℕ) → BenchIn s x → get_or due x 0 ≡ first_held (suc done) x (drop done (decode t).holders)

-- so it is before any is met ..
pub turn_start : {t : List ℕ} {s : Size} {due : List ℕ} → HeadsOf t s due → Encoded t s → InTurn t s due 0
turn_start h k = record { first = λ x b. h.head x b ∙ head_first k x b }

module _ {t : List ℕ} {s : Size} {due : List ℕ} {done : ℕ} (k : Encoded t s) (m : InTurn t s due done) (d : done < s.jobs) where
  abbrev e : Entry
  e = record_in t (suc done)

  -- the first job that bench x holds after the next one
  abbrev later : ℕ → ℕ
  later x = first_held (suc (suc done)) x (drop (suc done) (decode t).holders)

  -- at its holder the next job is due, at any other bench a later one
  due_at : (x : ℕ) → BenchIn s x → get_or due x 0 ≡ cond (eqb (holder_in e) x) (suc done) (later x)
  due_at x b =
      m.first x b
      ∙ ap (first_held (suc done) x) (drop-cons (decode t).holders done 0 (omega (arith, holders_long k.holds_board.size)))
      ∙ ap (λ (h : ℕ). cond (eqb h x) (suc done) (later x)) (holder_record t (suc done))

  due_other : (x : ℕ) → BenchIn s x → (holder_in e ≡ x → ⊥) → get_or due x 0 ≡ later x
  due_other x b n = due_at x b ∙ ap (λ (z : Bool). cond z (suc done) (later x)) (ne_eqb (holder_in e) x n)

  -- .. a record that is no job's changes nothing at any bench ..
  pub turn_pass : {due₂ loads loads₂ : List ℕ} → (kind_of s.benches (record_in t (done + 1)) ≡ Vacant) × (due₂ ≡ due) × (loads₂ ≡ loads) → InTurn t s due₂ (done + 1)
  turn_pass (q, p, _) =
      let none : holder_in e ≡ 0 = rw add-one at (vacant_unheld s.benches (record_in t (done + 1)) q) in
      rw (p, add-one) (record { first = λ x b. due_other x b (λ i. omega (arith, b.least, none)) })

  -- .. where a job is met, the first later one of its holder is due ..
  pub turn_met : {loads due₂ loads₂ : List ℕ} → length due ≡ most_benches + 1 → Met s (record_in t (done + 1)) (done + 1) due loads due₂ loads₂ → InTurn t s due₂ (done + 1)
  turn_met {loads} {due₂} {loads₂} long w = rw (add-one, v.next) (record { first = λ x b. go x b (compared h x) })
    where
      v : Met s e (suc done) due loads due₂ loads₂
      v = rw add-one at w

      h : ℕ
      h = holder_in e

      small : h < length due
      small = omega (arith, long, (kind_bench t s (suc done) v.fits).most, k.holds_board.size.limits.benches_most)

      go : (x : ℕ) → BenchIn s x → {z : Bool} → Compared h x z → get_or (set due h e.next) x 0 ≡ later x
      go x b (same q) = rw (← q) (get_or-set_same due h e.next 0 small ∙ next_first k done d v.fits)
      go x b (other n) = get_or-set_other due h x e.next 0 (λ i. n (sym i)) ∙ due_other x b n

  -- .. every job can be met ..
  pub turn_possible : Unmet s (record_in t (done + 1)) (done + 1) due → ⊥
  turn_possible n = go (rw add-one at n)
    where
      go : Unmet s e (suc done) due → ⊥
      go (inl q) = none_unfit k (suc done) (omega arith) d q
      go (inr (q, n)) = n (due_at (holder_in e) (kind_bench t s (suc done) q) ∙ ap (λ (z : Bool). cond z (suc done) (later (holder_in e))) (eqb_refl (holder_in e)))

-- .. and in the end no bench holds a later one
pub turn_end : {t : List ℕ} {s : Size} {due : List ℕ} {done : ℕ} → Encoded t s → InTurn t s due done → s.jobs ≤ done → NoneDue s due
turn_end {t} {s} {due} {done} k m l x b =
    m.first x b ∙ ap (first_held (suc done) x) (drop_of_length-le (decode t).holders {i = done} (omega (arith, holders_long k.holds_board.size)))
