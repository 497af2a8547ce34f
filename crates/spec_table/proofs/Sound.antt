-- What a sound table holds: its board, its chains, its words.
use Prim.Native.Nat.{ℕ, zero, suc, ◌+◌, ◌≤◌}
use native.Mathlib.Omega.{arith}
use native.Mathlib.Decide.{dec_le}
use mathlib.Core.Path.{◌≡◌, refl, sym, ap, ◌∙◌, subst}
use mathlib.Core.Logic.{◌⊎◌, inl, inr, ◌≢◌, ◌↔◌}
use mathlib.Core.Bool.{Bool, true, false, cond, not, ◌||◌}
use mathlib.Core.List.{List, [], ◌∷◌, ◌++◌, map}
use lib.Dec.{T, eqb}
use lib.ListN.{length, get_or, drop, length-map, get_or-eq_default}
use borrow.Author.Tests.{ne_eqb}
use Rattle.spec_lists.specs.Lists.{filter, bit, within, count, Each, In, empty, nth, enumerate}
use Rattle.spec_table.specs.Board.{names_of, holder_of, stands, standing, Shares, may_hold, names_fit, Valid}
use Rattle.spec_table.specs.Table.{paired, words, most_jobs, Entry, vacant, filled, holder_in, Layout, entries_in, layout, follow, chains, entry_fits, placed, fits, sound, board_of, decode, position_of, entry_words, Storable}
use Rattle.spec_lists.proofs.Tests.{true→T, both, left, right, or_right, Compared, same, other, compared, eqb_refl, T-eqb, eqb_T, within_low, within_high, within_both}
use Rattle.spec_lists.proofs.Elements.{two_elements, in_right, all_in, each_in, each_nth, in_get_d, in_nth, nth_within, in_enumerate, in_enumerate_nth, enumerate_nth, in_map, nth_map, each_map}
use Rattle.spec_lists.proofs.NumberLists.{in_member, Member, is_in, not_in, membered}
use Rattle.spec_table.proofs.Named.{pair_fits, holder_bench}
use Rattle.spec_lists.proofs.Counting.{bit_le, bit_same, bit_other, count_none, count_some, counted_in, few, filter_counts}
use Rattle.spec_table.proofs.Places.{Sized, fits_sized, fits_heads, fits_entries}
use Rattle.spec_table.proofs.Clauses.{vacant_words, filled_in, filled_each, Formed, sound_fits, sound_formed}

-- the board of a sound table

entries_in_pairs : (ws : List ℕ) → Each (λ (e : Entry). length e.names ≡ 2) (entries_in ws)
entries_in_pairs [] = tt
entries_in_pairs (a ∷ []) = tt
entries_in_pairs (a ∷ b ∷ []) = tt
entries_in_pairs (a ∷ b ∷ h ∷ []) = tt
entries_in_pairs (a ∷ b ∷ h ∷ n ∷ ws) = (refl, entries_in_pairs ws)

-- the benches that a record names on the board
abbrev pub names_in : Entry → List ℕ
names_in e = cond (filled e) e.names []

-- what the board asks of a job's names and holder
record Job (benches : ℕ) (names : List ℕ) (h : ℕ) : Type 0 where
  fit : T (names_fit benches names)
  held : T (may_hold names h)
  pair : T (paired names)

-- two names are as many as a record holds
pub two_paired : (names : List ℕ) → length names ≡ 2 → T (paired names)
two_paired names two = or_right (empty names) (eqb (length names) 2) (eqb_T (length names) 2 two)

-- a record fits exactly if its names and its holder word do
pub entry_tests : (benches : ℕ) (e : Entry) → T (entry_fits benches e) ↔ (T (names_fit benches e.names) × T (within 1 (length e.names) e.holder))
entry_tests benches e = (λ t. (left fit may t, right fit may t), λ p. both fit may p.0 p.1)
  where
    fit : Bool
    fit = names_fit benches e.names

    may : Bool
    may = within 1 (length e.names) e.holder

-- the holder word 1 or 2 tells a bench that the job names
told : (names : List ℕ) (p : ℕ) → T (within 1 (length names) p) → T (may_hold names (nth names p 0))
told [] p t = absurd (omega (arith, within_low 1 0 p t, within_high 1 0 p t))
told (x ∷ l) zero t = absurd t
told (x ∷ l) (suc i) t = in_member (get_or (x ∷ l) i 0) (x ∷ l) (in_get_d (x ∷ l) i 0 (within_high 1 (length (x ∷ l)) (suc i) t))

-- a record that is not a standing job's is no job on the board
pub not_held : (e : Entry) → filled e ≡ false → holder_in e ≡ 0
not_held e q =
    let i : In e.holder (entry_words e) = in_right e.holder e.names (e.holder ∷ e.next ∷ []) (inl refl) in
    ap (λ (p : ℕ). nth e.names p 0) (each_in (λ w. w ≡ 0) e.holder (entry_words e) (vacant_words e q) i)

entry_job : (benches : ℕ) (e : Entry) → length e.names ≡ 2 → (T (filled e) → T (entry_fits benches e)) → Job benches (names_in e) (holder_in e)
entry_job benches e two fits = go (filled e) refl
  where
    go : (z : Bool) → filled e ≡ z → Job benches (cond z e.names []) (holder_in e)
    go true q =
        let t = (entry_tests benches e).0 (fits (true→T (filled e) q)) in
        record { fit = t.0; held = told e.names e.holder t.1; pair = two_paired e.names two }
    go false q = record { fit = tt; held = eqb_T (holder_in e) 0 (not_held e q); pair = tt }

shared : (es : List Entry) → ((e : Entry) → In e es → T (may_hold (names_in e) (holder_in e))) → Shares (map names_in es) (map holder_in es)
shared [] g = tt
shared (e ∷ es) g = (g e (inl refl), shared es (λ a i. g a (inr i)))

-- every record of a table has two words for benches
pub layout_pairs : (ws : List ℕ) → Each (λ (e : Entry). length e.names ≡ 2) (layout ws).entries
unfolding layout
layout_pairs ws = entries_in_pairs (drop (4 + get_or ws 0 0) ws)

-- a table whose sizes fit, and whose filled records do, holds a board of two-bench jobs within the limits ..
pub fit_storable : (t : List ℕ) → T (fits t) → ((e : Entry) → In e (layout (words t)).entries → T (filled e) → T (entry_fits (layout (words t)).benches e)) → Storable (decode t)
unfolding decode board_of
fit_storable t f fit =
    record {
      valid = record { names = each_map (λ n. T (names_fit l.benches n)) names_in es (λ e i. (job e i).fit); shares = shared es (λ e i. (job e i).held) };
      benches = size.benches_within;
      jobs = subst (λ (n : ℕ). T (within 1 most_jobs n)) (sym (length-map es names_in ∙ fits_entries t f)) size.jobs_within;
      pairs = each_map (λ n. T (empty n || eqb (length n) 2)) names_in es (λ e i. (job e i).pair);
    }
  where
    l : Layout
    l = layout (words t)

    es : List Entry
    es = l.entries

    size : Sized (length t) l.benches l.jobs
    size = fits_sized t f

    job : (e : Entry) → In e es → Job l.benches (names_in e) (holder_in e)
    job e i = entry_job l.benches e (each_in (λ (e : Entry). length e.names ≡ 2) e es (layout_pairs (words t)) i) (fit e i)

-- .. and so does a sound table
pub sound_storable : (t : List ℕ) → T (sound t) → Storable (decode t)
sound_storable t s = fit_storable t (sound_fits t s) (sound_formed t s).entry

-- chains

-- where a chain from job j ends within k jobs: next 0 is met
abbrev pub Ends : List Entry → ℕ → ℕ → Type 0
Ends es zero zero = Unit {0}
Ends es zero (suc i) = ⊥
Ends es (suc k) zero = Unit {0}
Ends es (suc k) (suc i) = Ends es k (nth es (suc i) vacant).next

-- a chain that lists no more than k jobs where one more had room has come to 0
short_ends : (es : List Entry) (k j : ℕ) → length (follow es (suc k) j) ≤ k → Ends es k j
short_ends es zero zero h = tt
short_ends es zero (suc i) h = omega arith
short_ends es (suc k) zero h = tt
short_ends es (suc k) (suc i) h = short_ends es k (nth es (suc i) vacant).next (omega arith)

-- the sound table in words

-- "two different benches of 1 to B and holder 1 or 2"
pub record TwoBenches (benches : ℕ) (e : Entry) : Type 0 where
  pub first : ℕ
  pub second : ℕ
  pub names : e.names ≡ first ∷ second ∷ []
  pub first_bench : (1 ≤ first) × (first ≤ benches)
  pub second_bench : (1 ≤ second) × (second ≤ benches)
  pub apart : first ≢ second
  pub holder : (e.holder ≡ 1) ⊎ (e.holder ≡ 2)

-- a record with two words for benches that fits has this shape
pub two_benches : (benches : ℕ) (e : Entry) → length e.names ≡ 2 → T (entry_fits benches e) → TwoBenches benches e
two_benches benches e two fits =
    let n = two_elements e.names two in
    let t = (entry_tests benches e).0 fits in
    let named = t.0 in
    let p = (pair_fits benches n.0 n.1).0 (rw n.2 at named) in
    record {
      first = n.0;
      second = n.1;
      names = n.2;
      first_bench = bench n.0 p.0;
      second_bench = bench n.1 p.1;
      apart = p.2;
      holder = holder t.1 (compared e.holder 1);
    }
  where
    bench : (x : ℕ) → T (within 1 benches x) → (1 ≤ x) × (x ≤ benches)
    bench x w = (within_low 1 benches x w, within_high 1 benches x w)

    holder : T (within 1 (length e.names) e.holder) → {z : Bool} → Compared e.holder 1 z → (e.holder ≡ 1) ⊎ (e.holder ≡ 2)
    holder m (same q) = inl q
    holder m (other d) = inr (omega (arith, within_low 1 (length e.names) e.holder m, within_high 1 (length e.names) e.holder m))

-- such a record's holder is a bench of 1 to B
pub holder_within : (benches : ℕ) (e : Entry) → TwoBenches benches e → (1 ≤ holder_in e) × (holder_in e ≤ benches)
holder_within benches e r = go r.holder
  where
    go : (e.holder ≡ 1) ⊎ (e.holder ≡ 2) → (1 ≤ holder_in e) × (holder_in e ≤ benches)
    go (inl q) = rw (r.names, q) r.first_bench
    go (inr q) = rw (r.names, q) r.second_bench

-- its holder word is the place of its holder among the two, for they differ
pub holder_place : (benches : ℕ) (e : Entry) → TwoBenches benches e → e.holder ≡ position_of (holder_in e) e.names
holder_place benches e r = go r.holder
  where
    go : (e.holder ≡ 1) ⊎ (e.holder ≡ 2) → e.holder ≡ position_of (holder_in e) e.names
    go (inl q) = rw (r.names, q, eqb_refl r.first)
    go (inr q) = rw (r.names, q, ne_eqb r.first r.second r.apart, eqb_refl r.second)

-- every standing job of a sound table has "two different benches of 1 to B and holder 1 or 2"
pub standing_record : (t : List ℕ) → T (sound t) → (e : Entry) → In e (layout (words t)).entries → T (filled e) → TwoBenches (layout (words t)).benches e
standing_record t s e i f =
    let l = layout (words t) in
    two_benches l.benches e (each_in (λ (e : Entry). length e.names ≡ 2) e l.entries (layout_pairs (words t)) i) ((sound_formed t s).entry e i f)

-- the filled records from i on, with their numbers
abbrev pub standing_from : ℕ → List Entry → List (ℕ × Entry)
standing_from i es = filter (λ s. filled s.1) (enumerate i es)

-- the first record is one of them if it is filled
pub standing_first : (i : ℕ) (e : Entry) (es : List Entry) → length (standing_from i (e ∷ es)) ≡ bit (filled e) + length (standing_from (suc i) es)
standing_first i e es = filter_counts (λ (s : ℕ × Entry). filled s.1) (i, e) (enumerate (suc i) es)

-- they are as many as the jobs that name a bench, if just these name one
same_standing : (i : ℕ) (es : List Entry) → ((e : Entry) → In e es → not (empty (names_in e)) ≡ filled e) → length (standing_from i es) ≡ length (filter (λ (n : List ℕ). not (empty n)) (map names_in es))
same_standing i [] f = refl
same_standing i (e ∷ es) f =
    let jobs = filter_counts (λ (n : List ℕ). not (empty n)) (names_in e) (map names_in es) in
    omega (arith, standing_first i e es, jobs, ap bit (f e (inl refl)), same_standing (suc i) es (λ x k. f x (inr k)))

-- a record names benches on the board exactly if it is filled
named_filled : (e : Entry) → length e.names ≡ 2 → not (empty (names_in e)) ≡ filled e
named_filled e two = go (filled e)
  where
    go : (z : Bool) → not (empty (cond z e.names [])) ≡ z
    go true = rw (two_elements e.names two).2 refl
    go false = refl

-- the filled records of a table are as many as its board's standing jobs ..
pub standing_count : (t : List ℕ) → length (standing_from 1 (layout (words t)).entries) ≡ standing (decode t)
unfolding decode board_of
standing_count t =
    let es = (layout (words t)).entries in
    same_standing 1 es (λ e i. named_filled e (each_in (λ (e : Entry). length e.names ≡ 2) e es (layout_pairs (words t)) i))

-- .. and that is the "number of standing jobs" of a sound table's word 2
pub standing_word : (t : List ℕ) → T (sound t) → (layout (words t)).standing ≡ standing (decode t)
standing_word t s = (sound_formed t s).standing ∙ standing_count t

-- how often a placed job is on a chain with its number ..
enumerate_placed : (cs : List (List ℕ)) (j h : ℕ) → T (placed cs j h) → (s : ℕ × List ℕ) → In s (enumerate 1 cs) → count j s.1 ≡ bit (eqb s.0 h)
enumerate_placed cs j h p s i =
    T-eqb (count j s.1) (bit (eqb s.0 h)) (all_in (λ c. eqb (count j c.1) (bit (eqb c.0 h))) s (enumerate 1 cs) p i)

-- .. and on chain x
pub count_placed : (cs : List (List ℕ)) (j h x : ℕ) → T (placed cs j h) → 1 ≤ x → x ≤ length cs → count j (nth cs x []) ≡ bit (eqb x h)
count_placed cs j h x p l u = enumerate_placed cs j h p (x, nth cs x []) (in_enumerate_nth x cs [] l u)

-- a table that fits has a chain for each bench
pub fits_chains : (t : List ℕ) → T (fits t) → length (chains (layout (words t))) ≡ (layout (words t)).benches
fits_chains t f = simp length-map (fits_heads t f)

-- it is "on its holder's chain once ..
pub own_chain : (t : List ℕ) → T (sound t) → (j : ℕ) → T (filled (nth (layout (words t)).entries j vacant)) → count j (nth (chains (layout (words t))) (holder_in (nth (layout (words t)).entries j vacant)) []) ≡ 1
own_chain t s j f =
    let l = layout (words t) in
    let e = nth l.entries j vacant in
    let h = holder_in e in
    let r = holder_within l.benches e (standing_record t s e (filled_in l.entries j f) f) in
    count_placed (chains l) j h h ((sound_formed t s).place j f) r.0 (omega (arith, r.1, fits_chains t (sound_fits t s))) ∙ bit_same h h refl

-- .. and on no other"
pub other_chain : (t : List ℕ) → T (sound t) → (j x : ℕ) → T (filled (nth (layout (words t)).entries j vacant)) → x ≢ holder_in (nth (layout (words t)).entries j vacant) → count j (nth (chains (layout (words t))) x []) ≡ 0
other_chain t s j x f d = go x d
  where
    l : Layout
    l = layout (words t)

    h : ℕ
    h = holder_in (nth l.entries j vacant)

    there : (i : ℕ) → suc i ≢ h → Dec (suc i ≤ length (chains l)) → count j (get_or (chains l) i []) ≡ 0
    there i d (yes u) = count_placed (chains l) j h (suc i) ((sound_formed t s).place j f) (omega arith) u ∙ bit_other (suc i) h d
    there i d (no u) = ap (count j) (get_or-eq_default (chains l) [] (omega arith))

    go : (x : ℕ) → x ≢ h → count j (nth (chains l) x []) ≡ 0
    go zero d = refl
    go (suc i) d = there i d (dec_le (suc i) (length (chains l)))

-- a chain of a layout with the clauses has jobs of its own bench only, none twice ..
pub formed_own : (l : Layout) → Formed l → (s : ℕ × List ℕ) → In s (enumerate 1 (chains l)) → (j : ℕ) → count j s.1 ≤ bit (eqb s.0 (holder_in (nth l.entries j vacant)))
formed_own l f s i j = go (membered j s.1)
  where
    h : ℕ
    h = holder_in (nth l.entries j vacant)

    go : {z : Bool} → Member j s.1 z → count j s.1 ≤ bit (eqb s.0 h)
    go (is_in k) =
        let r = enumerate_nth s (chains l) [] i in
        let c : In s.1 (chains l) = rw r.2 (in_nth (chains l) s.0 [] r.0 r.1) in
        omega (arith, enumerate_placed (chains l) j h (f.place j (f.only s.1 c j k)) s i)
    go (not_in n) = omega (arith, count_none j s.1 n)

-- .. and if such jobs stand they are at most as many as the records
pub own_few : (es : List Entry) (x : ℕ) (c : List ℕ) → ((j : ℕ) → count j c ≤ bit (eqb x (holder_in (nth es j vacant)))) → ((j : ℕ) → In j c → T (filled (nth es j vacant))) → length c ≤ length es
own_few es x c own stand =
    few (length es) c (λ j. omega (arith, own j, bit_le (eqb x (holder_in (nth es j vacant))))) (filled_each es c stand)

-- so a sound table's chain has at most J jobs ..
pub chain_few : (t : List ℕ) → T (sound t) → (c : List ℕ) → In c (chains (layout (words t))) → length c ≤ (layout (words t)).jobs
chain_few t s c on =
    let l = layout (words t) in
    let f = sound_formed t s in
    let r = in_enumerate 1 c (chains l) on in
    omega (arith, own_few l.entries r.0 c (formed_own l f (r.0, c) r.1) (f.only c on), fits_entries t (sound_fits t s))

-- .. and ends after them: a chain that returns to itself is found unsound
pub chain_ends : (t : List ℕ) → T (sound t) → (h : ℕ) → In h (layout (words t)).heads → Ends (layout (words t)).entries (layout (words t)).jobs h
chain_ends t s h i =
    let l = layout (words t) in
    let c = follow l.entries (suc l.jobs) h in
    short_ends l.entries l.jobs h (chain_few t s c (in_map (follow l.entries (suc l.jobs)) h l.heads i))

-- the board's jobs by their records

-- job j's holder is the bench that its record tells
pub holder_record : (t : List ℕ) (j : ℕ) → holder_of (decode t) j ≡ holder_in (nth (layout (words t)).entries j vacant)
unfolding decode board_of
holder_record t j = nth_map holder_in (layout (words t)).entries j vacant

-- the benches it names are those of its record
pub names_record : (t : List ℕ) (j : ℕ) → names_of (decode t) j ≡ names_in (nth (layout (words t)).entries j vacant)
unfolding decode board_of
names_record t j = nth_map names_in (layout (words t)).entries j vacant

-- every record has two words for benches
pub record_pair : (t : List ℕ) (j : ℕ) → length (nth (layout (words t)).entries j vacant).names ≡ 2
record_pair t j = each_nth (λ (e : Entry). length e.names ≡ 2) (layout (words t)).entries j vacant refl (layout_pairs (words t))

-- a job stands on a table's board exactly if its record is filled
pub stands_record : (t : List ℕ) (j : ℕ) → stands (decode t) j ≡ filled (nth (layout (words t)).entries j vacant)
stands_record t j = ap (λ (n : List ℕ). not (empty n)) (names_record t j) ∙ named_filled (nth (layout (words t)).entries j vacant) (record_pair t j)

-- "A job number that is not standing has four zero words"
zero_vacant : (e : Entry) → length e.names ≡ 2 → Each (λ w. w ≡ 0) (entry_words e) → e ≡ vacant
zero_vacant e two z =
    let n = two_elements e.names two in
    let w : Each (λ w. w ≡ 0) ((n.0 ∷ n.1 ∷ []) ++ (e.holder ∷ e.next ∷ [])) = rw n.2 at z in
    let names : e.names ≡ 0 ∷ 0 ∷ [] = n.2 ∙ (λ i. w.0 i ∷ w.1.0 i ∷ []) in
    λ i. record { names = names i; holder = w.1.1.0 i; next = w.1.1.1.0 i }

-- a standing job's record: it is filled, and names two benches
pub record Standing (benches : ℕ) (e : Entry) : Type 0 where
  pub is_filled : filled e ≡ true
  pub benches_two : TwoBenches benches e

-- where a table has a board, whatever its chains are, each record that is filled fits ..
pub stored_fits : (t : List ℕ) → Valid (decode t) → (j : ℕ) → filled (nth (layout (words t)).entries j vacant) ≡ true → T (entry_fits (layout (words t)).benches (nth (layout (words t)).entries j vacant))
unfolding decode board_of
stored_fits t v j q =
    let b = decode t in
    let e = nth (layout (words t)).entries j vacant in
    let named : names_of b j ≡ e.names = names_record t j ∙ ap (λ z. cond z e.names []) q in
    let fit = each_nth (λ names. T (names_fit b.benches names)) b.named j [] tt v.names in
    let bench = holder_bench b v j (true→T (stands b j) (stands_record t j ∙ q)) in
    let place = nth_within e.names e.holder 0 (λ d. omega (arith, within_low 1 b.benches (holder_of b j) bench, holder_record t j)) in
    (entry_tests b.benches e).1 (rw named at fit, within_both 1 (length e.names) e.holder place.0 place.1)

-- .. and a record is no job's, all words zero, or a standing job's
pub stored_record : (t : List ℕ) → Valid (decode t) → (j : ℕ) → (nth (layout (words t)).entries j vacant ≡ vacant) ⊎ Standing (layout (words t)).benches (nth (layout (words t)).entries j vacant)
stored_record t v j = go (filled e) refl
  where
    e : Entry
    e = nth (layout (words t)).entries j vacant

    go : (z : Bool) → filled e ≡ z → (e ≡ vacant) ⊎ Standing (layout (words t)).benches e
    go true q = inr (record { is_filled = q; benches_two = two_benches (layout (words t)).benches e (record_pair t j) (stored_fits t v j q) })
    go false q = inl (zero_vacant e (record_pair t j) (vacant_words e q))

-- on bench x's chain a job is once if x holds it, and else not
pub chain_holds : (t : List ℕ) → T (sound t) → (j x : ℕ) → 1 ≤ x → x ≤ (layout (words t)).benches →
    count j (nth (chains (layout (words t))) x []) ≡ bit (eqb (holder_in (nth (layout (words t)).entries j vacant)) x)
chain_holds t s j x low high = on (filled e) refl
  where
    l : Layout
    l = layout (words t)

    e : Entry
    e = nth l.entries j vacant

    c : List ℕ
    c = nth (chains l) x []

    stored : T (filled e) → {z : Bool} → Compared (holder_in e) x z → count j c ≡ bit z
    stored f (same d) = subst (λ y. count j (nth (chains l) y []) ≡ 1) d (own_chain t s j f)
    stored f (other d) = other_chain t s j x f (λ q. d (sym q))

    on : (z : Bool) → filled e ≡ z → count j c ≡ bit (eqb (holder_in e) x)
    on true q = stored (true→T (filled e) q) (compared (holder_in e) x)
    on false q =
        let only = (sound_formed t s).only c (in_nth (chains l) x [] low (omega (arith, fits_chains t (sound_fits t s)))) in
        count_none j c (λ i. subst T q (only j i)) ∙ sym (bit_other (holder_in e) x (λ d. omega (arith, not_held e q)))

-- bench x's chain is the chain from its head
pub chain_from_lem : (l : Layout) (x : ℕ) → nth (chains l) x [] ≡ follow l.entries (suc l.jobs) (nth l.heads x 0)
chain_from_lem l x = nth_map (follow l.entries (suc l.jobs)) l.heads x 0

-- so it is there exactly if it stands and x holds it
pub on_chain : (t : List ℕ) → T (sound t) → (j x : ℕ) → 1 ≤ x → x ≤ (decode t).benches → In j (nth (chains (layout (words t))) x []) ↔ (T (stands (decode t) j) × (holder_of (decode t) j ≡ x))
unfolding decode board_of
on_chain t s j x low high = (λ i. (rw (stands_record t j) (filled_on i), holder_record t j ∙ held i (compared h x)), there)
  where
    l : Layout
    l = layout (words t)

    c : List ℕ
    c = nth (chains l) x []

    e : Entry
    e = nth l.entries j vacant

    h : ℕ
    h = holder_in e

    filled_on : In j c → T (filled e)
    filled_on i = (sound_formed t s).only c (in_nth (chains l) x [] low (omega (arith, fits_chains t (sound_fits t s)))) j i

    held : In j c → {z : Bool} → Compared h x z → h ≡ x
    held i (same q) = q
    held i (other d) = absurd (omega (arith, chain_holds t s j x low high, bit_other h x d, count_some j c i))

    there : T (stands (decode t) j) × (holder_of (decode t) j ≡ x) → In j c
    there p = counted_in j c (omega (arith, chain_holds t s j x low high, bit_same h x (sym (holder_record t j) ∙ p.1)))
