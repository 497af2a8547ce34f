-- The layout of a board: it holds that board, its chains are the rising lists of the jobs that each bench holds, and the clauses of
-- the sound table hold of it.
use Prim.Native.Nat.{ℕ, zero, suc, ◌≤◌, ◌<◌}
use native.Mathlib.Omega.{arith}
use native.Mathlib.Nat.{add-zero}
use native.Mathlib.Numerals.{add-one}
use mathlib.Core.Path.{◌≡◌, refl, sym, ap, subst, ◌∙◌}
use mathlib.Core.Logic.{inl, inr}
use mathlib.Core.Bool.{Bool, cond, not}
use mathlib.Core.List.{List, [], ◌∷◌, map}
use lib.Dec.{T, eqb}
use lib.ListN.{length, get_or, drop}
use lib.Seq.{get_or-drop, drop-drop}
use borrow.Author.Tests.{eq-eqb, ne_eqb}
use Rattle.spec_lists.specs.Lists.{bit, within, count, range, filter, all, Each, In, empty, nth, enumerate}
use Rattle.spec_table.specs.Board.{Board, Valid, jobs_held, may_hold, Shares, names_fit}
use Rattle.spec_table.specs.Table.{Entry, vacant, filled, holder_in, follow, chains, standing_in, entry_fits, placed, only_standing, formed, board_of, first_held, position_of, entry_for, entries_from, layout_of}
use Rattle.spec_lists.proofs.Counting.{filter_counts}
use Rattle.spec_lists.proofs.Tests.{true→T, both, five, Compared, same, other, compared, T-eqb, eqb_T, within_low, within_both}
use Rattle.spec_lists.proofs.Elements.{filter_in, in_all, map_in}
use Rattle.spec_lists.proofs.NumberLists.{member_in, range_low}
use Rattle.spec_table.proofs.Named.{length_shares, fit_bench}
use Rattle.spec_table.proofs.Held.{count_later, count_here, count_before}

-- a valid board's jobs one by one: the benches that each names fit, and one of them holds it
data Rows (benches : ℕ) : List (List ℕ) → List ℕ → Type 0 where
  none : Rows benches [] []
  row : {names : List ℕ} {h : ℕ} {named : List (List ℕ)} {holders : List ℕ} → T (names_fit benches names) → T (may_hold names h) → Rows benches named holders → Rows benches (names ∷ named) (h ∷ holders)

-- a list of names and a list of holders that fit each other are such jobs
rows : (benches : ℕ) (named : List (List ℕ)) (holders : List ℕ) → Each (λ names. T (names_fit benches names)) named → Shares named holders → Rows benches named holders
rows benches [] [] f s = none
rows benches [] (h ∷ holders) f s = absurd s
rows benches (names ∷ named) [] f s = absurd s
rows benches (names ∷ named) (h ∷ holders) f s = row f.0 s.0 (rows benches named holders f.1 s.1)

-- the jobs of a valid board
rows_of : (b : Board) → Valid b → Rows b.benches b.named b.holders
rows_of b v = rows b.benches b.named b.holders v.names v.shares

-- one record

-- p is a place of h in the list, counted from 1
record PlaceFound (h : ℕ) (names : List ℕ) (p : ℕ) : Type 0 where
  low : 1 ≤ p
  high : p ≤ length names
  tells : nth names p 0 ≡ h

-- the place of an element is such a place
found : (h : ℕ) (names : List ℕ) → In h names → PlaceFound h names (position_of h names)
found h [] i = absurd i
found h (x ∷ names) i = go (λ j. found h names j) (compared x h) i
  where
    later : (p : ℕ) → PlaceFound h names p → PlaceFound h (x ∷ names) (suc p)
    later zero f = absurd (omega (arith, f.low))
    later (suc p) f = record { low = omega arith; high = omega (arith, f.high); tells = f.tells }

    go : (In h names → PlaceFound h names (position_of h names)) → {z : Bool} → Compared x h z → In h (x ∷ names) → PlaceFound h (x ∷ names) (cond z 1 (suc (position_of h names)))
    go ih (same e) j = record { low = omega arith; high = omega arith; tells = e }
    go ih (other d) (inl e) = absurd (d (sym e))
    go ih (other d) (inr j) = later (position_of h names) (ih j)

-- a job's record is filled if the job names a bench
filled_entry : (benches : ℕ) (names : List ℕ) (h n : ℕ) → T (names_fit benches names) → filled (entry_for names h n) ≡ not (empty names)
filled_entry benches [] h n f = refl
filled_entry benches (x ∷ names) h n f =
    let low : 1 ≤ x = within_low 1 benches x (fit_bench benches (x ∷ names) x f (inl refl)) in
    rw (ne_eqb x 0 (λ e. omega arith))

-- the names that a record is read as are the job's
pub holds_entry : (benches : ℕ) (names : List ℕ) (h n : ℕ) → T (names_fit benches names) → cond (filled (entry_for names h n)) (entry_for names h n).names [] ≡ names
holds_entry benches [] h n f = refl
holds_entry benches (x ∷ names) h n f = ap (λ z. cond z (x ∷ names) []) (filled_entry benches (x ∷ names) h n f)

-- the holder that a record is read as is the job's
pub holder_entry : (names : List ℕ) (h n : ℕ) → T (may_hold names h) → holder_in (entry_for names h n) ≡ h
holder_entry [] h n m = sym (T-eqb h 0 m)
holder_entry (x ∷ names) h n m = (found h (x ∷ names) (member_in h (x ∷ names) m)).tells

-- the board of a layout

-- the names that the records are read as
named_entries : {benches : ℕ} {named : List (List ℕ)} {holders : List ℕ} (i : ℕ) → Rows benches named holders → map (λ (e : Entry). cond (filled e) e.names []) (entries_from i named holders) ≡ named
named_entries i none = refl
named_entries {benches} i (row {names} {h} {named} {holders} f m r) =
    λ j. holds_entry benches names h (first_held (suc i) h holders) f j ∷ named_entries (suc i) r j

-- the holders that the records are read as
holders_entries : {benches : ℕ} {named : List (List ℕ)} {holders : List ℕ} (i : ℕ) → Rows benches named holders → map holder_in (entries_from i named holders) ≡ holders
holders_entries i none = refl
holders_entries i (row {names} {h} {named} {holders} f m r) =
    λ j. holder_entry names h (first_held (suc i) h holders) m j ∷ holders_entries (suc i) r j

-- the board of a board's layout is that board
pub board_of_layout_of : (b : Board) → Valid b → board_of (layout_of b) ≡ b
unfolding board_of layout_of
board_of_layout_of b v =
    let r = rows_of b v in
    λ i. record { benches = b.benches; named = named_entries 1 r i; holders = holders_entries 1 r i }

-- chains

module _ {A : Type 0} where
  -- the element at which the list from place m on begins
  head_at : (l : List A) (m : ℕ) (a : A) (r : List A) (d : A) → drop m l ≡ a ∷ r → get_or l m d ≡ a
  head_at l m a r d e = ap (λ k. get_or l k d) (sym (add-zero m)) ∙ sym (get_or-drop m l 0 d) ∙ ap (λ q. get_or q 0 d) e

  -- and the list after it
  rest_at : (l : List A) (m : ℕ) (a : A) (r : List A) → drop m l ≡ a ∷ r → drop (suc m) l ≡ r
  rest_at l m a r e = ap (λ k. drop k l) (sym (add-one m)) ∙ sym (drop-drop 1 m l) ∙ ap (drop 1) e

-- the next job in a held job's record
next_entry : (names : List ℕ) (h n : ℕ) → T (may_hold names h) → 1 ≤ h → (entry_for names h n).next ≡ n
next_entry [] h n m l = absurd (omega (arith, T-eqb h 0 m))
next_entry (x ∷ names) h n m l = refl

-- a held job's record is filled
filled_held : (benches : ℕ) (names : List ℕ) (h n : ℕ) → T (names_fit benches names) → T (may_hold names h) → 1 ≤ h → T (filled (entry_for names h n))
filled_held benches [] h n f m l = absurd (omega (arith, T-eqb h 0 m))
filled_held benches (x ∷ names) h n f m l = true→T (filled (entry_for (x ∷ names) h n)) (filled_entry benches (x ∷ names) h n f)

module _ (es : List Entry) (x : ℕ) (low : 1 ≤ x) where
  -- the chain from the first later job that x holds tells all later jobs that x holds, if the fuel is more than the job numbers left
  follow_held : {benches : ℕ} {named : List (List ℕ)} {holders : List ℕ} (m k : ℕ) → Rows benches named holders → drop m es ≡ entries_from (suc m) named holders → length holders < k → follow es k (first_held (suc m) x holders) ≡ jobs_held (suc m) x holders
  follow_held m zero none d l = refl
  follow_held m (suc k) none d l = refl
  follow_held m zero (row f t r) d l = absurd (omega arith)
  follow_held m (suc k) (row {names} {h} {named} {holders} f t r) d l = go (λ q. follow_held (suc m) q r rest) (compared h x)
    where
      n : ℕ
      n = first_held (suc (suc m)) h holders

      rest : drop (suc m) es ≡ entries_from (suc (suc m)) named holders
      rest = rest_at es m (entry_for names h n) (entries_from (suc (suc m)) named holders) d

      go : ((q : ℕ) → length holders < q → follow es q (first_held (suc (suc m)) x holders) ≡ jobs_held (suc (suc m)) x holders) → {z : Bool} → Compared h x z → follow es (suc k) (cond z (suc m) (first_held (suc (suc m)) x holders)) ≡ cond z (suc m ∷ jobs_held (suc (suc m)) x holders) (jobs_held (suc (suc m)) x holders)
      go ih (same e) =
          let here : get_or es m vacant ≡ entry_for names h n = head_at es m (entry_for names h n) (entries_from (suc (suc m)) named holders) vacant d in
          let next : (get_or es m vacant).next ≡ first_held (suc (suc m)) x holders =
          ap (λ (a : Entry). a.next) here ∙ next_entry names h n t (omega arith) ∙ ap (λ y. first_held (suc (suc m)) y holders) e in
          ap (λ (c : List ℕ). suc m ∷ c) (ap (follow es k) next ∙ ih k (omega arith))
      go ih (other e) = ih (suc k) (omega arith)

  -- the jobs that x holds have filled records
  only_held : {benches : ℕ} {named : List (List ℕ)} {holders : List ℕ} (m : ℕ) → Rows benches named holders → drop m es ≡ entries_from (suc m) named holders → T (only_standing es (jobs_held (suc m) x holders))
  only_held m none d = tt
  only_held {benches} m (row {names} {h} {named} {holders} f t r) d = go (only_held (suc m) r (rest_at es m (entry_for names h n) (entries_from (suc (suc m)) named holders) d)) (compared h x)
    where
      n : ℕ
      n = first_held (suc (suc m)) h holders

      later : List ℕ
      later = jobs_held (suc (suc m)) x holders

      go : T (only_standing es later) → {z : Bool} → Compared h x z → T (only_standing es (cond z (suc m ∷ later) later))
      go ih (same e) =
          both (filled (get_or es m vacant)) (only_standing es later)
          (subst (λ (a : Entry). T (filled a)) (sym (head_at es m (entry_for names h n) (entries_from (suc (suc m)) named holders) vacant d)) (filled_held benches names h n f t (omega arith)))
          ih
      go ih (other e) = ih

-- two maps in turn are the one map that agrees with them on the list
map_twice : {A B C : Type 0} (g : B → C) (f : A → B) (k : A → C) (l : List A) → ((a : A) → In a l → g (f a) ≡ k a) → map g (map f l) ≡ map k l
map_twice g f k [] e = refl
map_twice g f k (a ∷ l) e = λ i. e a (inl refl) i ∷ map_twice g f k l (λ x j. e x (inr j)) i

-- every chain of a board's layout is the rising list of the jobs that its bench holds
pub chains_layout_of : (b : Board) → Valid b → chains (layout_of b) ≡ map (λ x. jobs_held 1 x b.holders) (range 1 b.benches)
unfolding layout_of
chains_layout_of b v =
    let r = rows_of b v in
    let es : List Entry = entries_from 1 b.named b.holders in
    map_twice (follow es (suc (length b.named))) (λ x. first_held 1 x b.holders) (λ x. jobs_held 1 x b.holders) (range 1 b.benches)
    (λ x i. follow_held es x (range_low x 1 b.benches i) 0 (suc (length b.named)) r refl (omega (arith, length_shares b.named b.holders v.shares)))

-- the clauses of the sound table

-- the test of equality is symmetric
eqb_sym : (x y : ℕ) → eqb x y ≡ eqb y x
eqb_sym x y = go (compared x y)
  where
    go : {z : Bool} → Compared x y z → z ≡ eqb y x
    go (same e) = sym (eq-eqb y x (sym e))
    go (other d) = sym (ne_eqb y x (λ e. d (sym e)))

-- a filled record of a job fits
fits_entry : (benches : ℕ) (names : List ℕ) (h n : ℕ) → T (names_fit benches names) → T (may_hold names h) → T (filled (entry_for names h n)) → T (entry_fits benches (entry_for names h n))
fits_entry benches [] h n f m t = absurd t
fits_entry benches (x ∷ names) h n f m t =
    let l : List ℕ = x ∷ names in
    let p = found h l (member_in h l m) in
    both (names_fit benches l) (within 1 (length l) (position_of h l)) f (within_both 1 (length l) (position_of h l) p.low p.high)

-- what holds of job j with record e among the jobs from number i on
record RecordTold (benches i : ℕ) (holders : List ℕ) (j : ℕ) (e : Entry) : Type 0 where
  low : i ≤ j
  fits : T (filled e) → T (entry_fits benches e)
  once : (x : ℕ) → count j (jobs_held i x holders) ≡ bit (eqb x (holder_in e))

-- and this holds of every record of the layout
told : {benches : ℕ} {named : List (List ℕ)} {holders : List ℕ} (i : ℕ) (s : ℕ × Entry) → Rows benches named holders → In s (enumerate i (entries_from i named holders)) → RecordTold benches i holders s.0 s.1
told i s none j = absurd j
told {benches} i s (row {names} {h} {named} {holders} f m r) (inl e) =
    let n = first_held (suc i) h holders in
    subst (λ (p : ℕ × Entry). RecordTold benches i (h ∷ holders) p.0 p.1) (sym e)
    (record {
      low = omega arith;
      fits = fits_entry benches names h n f m;
      once =
          λ x. count_here (eqb h x) i (jobs_held (suc i) x holders) (count_before i (suc i) x holders (omega arith))
          ∙ ap bit (eqb_sym h x ∙ ap (eqb x) (sym (holder_entry names h n m)));
    })
told {benches} i s (row {names} {h} {named} {holders} f m r) (inr j) =
    let t = told (suc i) s r j in
    record {
      low = omega (arith, t.low);
      fits = t.fits;
      once = λ x. count_later (eqb h x) i s.0 (jobs_held (suc i) x holders) (λ e. omega (arith, t.low)) ∙ t.once x;
    }

-- the filled records are as many as the jobs that name a bench
count_filled : {benches : ℕ} {named : List (List ℕ)} {holders : List ℕ} (i : ℕ) → Rows benches named holders → length (filter (λ (s : ℕ × Entry). filled s.1) (enumerate i (entries_from i named holders))) ≡ length (filter (λ names. not (empty names)) named)
count_filled i none = refl
count_filled {benches} i (row {names} {h} {named} {holders} f m r) =
    let n : ℕ = first_held (suc i) h holders in
    let records = filter_counts (λ (s : ℕ × Entry). filled s.1) (i, entry_for names h n) (enumerate (suc i) (entries_from (suc i) named holders)) in
    let jobs = filter_counts (λ (names : List ℕ). not (empty names)) names named in
    omega (arith, records, jobs, ap bit (filled_entry benches names h n f), count_filled (suc i) r)

-- in the numbered list of values over rising numbers each number stands beside its own value
enumerate_map : {A : Type 0} (f : ℕ → A) (i n : ℕ) (c : ℕ × A) → In c (enumerate i (map f (range i n))) → c.1 ≡ f c.0
enumerate_map f i zero c j = absurd j
enumerate_map f i (suc n) c (inl e) = ap (λ p. p.1) e ∙ ap (λ p. f p.0) (sym e)
enumerate_map f i (suc n) c (inr j) = enumerate_map f (suc i) n c j

-- a board's records and its chains, clause by clause
module _ (b : Board) (v : Valid b) where
  abbrev records : List Entry
  records = entries_from 1 b.named b.holders

  abbrev held : ℕ → List ℕ
  held x = jobs_held 1 x b.holders

  record_told : (p : ℕ × Entry) → In p (standing_in records) → T (filled p.1) × RecordTold b.benches 1 b.holders p.0 p.1
  record_told p i = let k = filter_in (λ q. filled q.1) p (enumerate 1 records) i in (k.1, told 1 p (rows_of b v) k.0)

  records_fit : (p : ℕ × Entry) → In p (standing_in records) → T (entry_fits b.benches p.1)
  records_fit p i = let t = record_told p i in t.1.fits t.0

  -- a standing job is once on its holder's chain and on no other
  records_placed : (p : ℕ × Entry) → In p (standing_in records) → T (placed (chains (layout_of b)) p.0 (holder_in p.1))
  records_placed p i =
      subst (λ (l : List (List ℕ)). T (placed l p.0 (holder_in p.1))) (sym (chains_layout_of b v))
      (in_all (λ c. eqb (count p.0 c.1) (bit (eqb c.0 (holder_in p.1)))) (enumerate 1 (map held (range 1 b.benches)))
      (λ c j. eqb_T (count p.0 c.1) (bit (eqb c.0 (holder_in p.1))) (ap (count p.0) (enumerate_map held 1 b.benches c j) ∙ (record_told p i).1.once c.0)))

  chains_stand : (c : List ℕ) → In c (chains (layout_of b)) → T (only_standing records c)
  chains_stand c i =
      let m = map_in held c (range 1 b.benches) (subst (In c) (chains_layout_of b v) i) in
      subst (λ (l : List ℕ). T (only_standing records l)) (sym m.2) (only_held records m.0 (range_low m.0 1 b.benches m.1) 0 (rows_of b v) refl)

-- the clauses of the sound table after its sizes hold of a board's layout
pub formed_layout_of : (b : Board) → Valid b → T (formed (layout_of b))
unfolding formed layout_of
formed_layout_of b v =
    let f : T fitting = in_all (λ p. entry_fits b.benches p.1) standing (records_fit b v) in
    let p : T placing = in_all (λ p. placed cs p.0 (holder_in p.1)) standing (records_placed b v) in
    let o : T only = in_all (only_standing es) cs (chains_stand b v) in
    let c : T counting = eqb_T (length (filter (λ names. not (empty names)) b.named)) (length standing) (sym (count_filled 1 (rows_of b v))) in
    (five fitting placing only counting (eqb 0 0)).1 (f, p, o, c, tt)
  where
    es : List Entry
    es = records b v

    standing : List (ℕ × Entry)
    standing = standing_in es

    cs : List (List ℕ)
    cs = chains (layout_of b)

    fitting : Bool
    fitting = all (λ p. entry_fits b.benches p.1) standing

    placing : Bool
    placing = all (λ p. placed cs p.0 (holder_in p.1)) standing

    only : Bool
    only = all (only_standing es) cs

    counting : Bool
    counting = eqb (length (filter (λ names. not (empty names)) b.named)) (length standing)
