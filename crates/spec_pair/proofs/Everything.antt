-- "On a sound table with rising chains the answer is that of reading everything", and on a sound table the records read are at
-- most the two loads added.
use Prim.Native.Nat.{ℕ, ◌+◌, ◌≤◌}
use native.Mathlib.Omega.{arith}
use native.Mathlib.Decide.{ℕ_discrete}
use mathlib.Core.Path.{◌≡◌, refl, sym, ap, subst, ◌∙◌}
use mathlib.Core.Logic.{◌⊎◌, inl, inr, ⊎_elim, ◌≢◌, ◌↔◌}
use mathlib.Core.Bool.{Bool, true, false, cond, and_comm, false≢true}
use mathlib.Core.List.{List, [], ◌∷◌}
use mathlib.Core.Option.{Option, none, some}
use lib.Dec.{T, eqb, leb, ltb}
use lib.ListN.{length}
use borrow.Author.Tests.{leb-true, leb-false, ltb-true, lt-ltb}
use Rattle.spec_lists.specs.Lists.{within, member, range, rises, filter, In, nth}
use Rattle.spec_table.specs.Board.{Board, names_of, holder_of, stands, load, names_fit}
use Rattle.spec_table.specs.Table.{words, Entry, Layout, layout, vacant, filled, holder_in, chains, entry_fits, sound, board_of, decode, all_rise, bench_chain}
use Rattle.spec_pair.specs.Pair.{End, broken, unmatched, matched, Walk, may_follow, is_held_by, names_both, is_above, walk, met_by, is_broken, first_walk, second_walk, unreadable_pair, records_read, lower, job_found, stands_between, first_of, lowest_between}
use Rattle.spec_lists.proofs.Tests.{true→T, T→true, both, left, right, eqb_T, leb_T, within_low, within_high, within_both}
use Rattle.spec_lists.proofs.Elements.{in_filter, filter_in, all_in, in_nth}
use Rattle.spec_lists.proofs.NumberLists.{member_in, bench_listed, one_other}
use Rattle.spec_lists.proofs.RisingLists.{rises_rest, rises_below, rises_least, rises_more, rises_range, rises_filter}
use Rattle.spec_table.proofs.Named.{pair_fits, stands_within, named_stands, shares_nth, held_named}
use Rattle.spec_table.proofs.Places.{fits_entries}
use Rattle.spec_table.proofs.Clauses.{fit_filled, filled_within, filled_in, sound_fits, sound_formed}
use Rattle.spec_table.proofs.Sound.{sound_storable, fits_chains, holder_record, names_record, record_pair, stands_record, on_chain}
use Rattle.spec_table.proofs.AnyOrder.{chain_load}
use Rattle.spec_pair.proofs.Walks.{Turn, above, unfit, foreign, found, passed, turn, met, unmatched_none, chains_read, found_met, none_met}

-- the lowest number that passes a test, or none
module _ (p : ℕ → Bool) where
  abbrev Lowest : Option ℕ → Type 0
  Lowest none = (j : ℕ) → T (p j) → ⊥
  Lowest (some j) = T (p j) × ((i : ℕ) → T (p i) → j ≤ i)

  -- there is only one
  lowest_same : (m n : Option ℕ) → Lowest m → Lowest n → m ≡ n
  lowest_same none none a b = refl
  lowest_same none (some n) a b = absurd (a n b.0)
  lowest_same (some m) none a b = absurd (b m a.0)
  lowest_same (some m) (some n) a b = ap some (omega (arith, a.1 n b.0, b.1 m a.0))

  -- it is the first that a list has, if the list rises and has all that pass
  lowest_first : (l : List ℕ) → T (rises l) → ((j : ℕ) → T (p j) → In j l) → Lowest (first_of (filter p l))
  lowest_first l r all = go (filter p l) refl
    where
      go : (k : List ℕ) → filter p l ≡ k → Lowest (first_of k)
      go [] e = λ j t. subst (In j) e (in_filter p j l (all j t) t)
      go (m ∷ k) e =
          let up = subst (λ (k : List ℕ). T (rises k)) e (rises_filter p l r) in
          ((filter_in p m l (subst (In m) (sym e) (inl refl))).1, λ i t. rises_least m k up i (subst (In i) e (in_filter p i l (all i t) t)))

-- reading everything finds the lowest job number that stands between the two benches, or none
between_lowest : (b : Board) (x y : ℕ) → Lowest (stands_between b x y) (lowest_between b x y)
unfolding lowest_between
between_lowest b x y = lowest_first (stands_between b x y) (range 1 (length b.named)) (rises_range 1 (length b.named)) numbered
  where
    numbered : (j : ℕ) → T (stands_between b x y j) → In j (range 1 (length b.named))
    numbered j t =
        let named = member_in x (names_of b j) (left (member x (names_of b j)) (member y (names_of b j)) t) in
        bench_listed (length b.named) j (stands_within b j (named_stands b j x named))

-- it is that job exactly if that job stands between them and none of a lower number does ..
pub lowest_some : (b : Board) (x y j : ℕ) → (lowest_between b x y ≡ some j) ↔ (T (stands_between b x y j) × ((i : ℕ) → T (stands_between b x y i) → j ≤ i))
lowest_some b x y j =
    let p = stands_between b x y in
    let it = between_lowest b x y in
    (λ e. subst (Lowest p) e it, λ low. lowest_same p (lowest_between b x y) (some j) it low)

-- .. and none exactly if none stands between them
pub lowest_none : (b : Board) (x y : ℕ) → (lowest_between b x y ≡ none) ↔ ((j : ℕ) → T (stands_between b x y j) → ⊥)
lowest_none b x y =
    let p = stands_between b x y in
    let it = between_lowest b x y in
    (λ e. subst (Lowest p) e it, λ low. lowest_same p (lowest_between b x y) none it low)

-- what comes behind a number above the first match is above it, too
above_more : (first : Option ℕ) (j i : ℕ) → is_above first j ≡ true → j ≤ i → T (is_above first i)
above_more none j i a h = true→T false a
above_more (some m) j i a h = true→T (ltb m i) (lt-ltb m i (omega (arith, ltb-true m j a)))

-- walks, where a test says which jobs match
module _ (p : ℕ → Bool) where
  -- a walk along chain c that ends so is not broken, and meets the lowest job of c that passes, if that is not above the first match
  abbrev Meets : Option ℕ → List ℕ → End → Type 0
  Meets first c broken = ⊥
  Meets first c unmatched = (i : ℕ) → In i c → T (p i) → T (is_above first i)
  Meets first c (matched j) = T (p j) × ((i : ℕ) → In i c → T (p i) → j ≤ i)

  meets_whole : (first : Option ℕ) (c : List ℕ) (e : End) → Meets first c e → is_broken e ≡ false
  meets_whole first c broken m = absurd m
  meets_whole first c unmatched m = refl
  meets_whole first c (matched j) m = refl

  -- two such walks, along chains that have all jobs that pass, find the lowest of them
  meets_lowest : (c d : List ℕ) (e f : End) → Meets none c e → Meets (met_by e) d f → ((j : ℕ) → T (p j) → In j c ⊎ In j d) →
      Lowest p (lower (met_by e) (met_by f))
  meets_lowest c d broken f m n on = absurd m
  meets_lowest c d unmatched broken m n on = absurd n
  meets_lowest c d unmatched unmatched m n on = λ j t. ⊎_elim (λ i. m j i t) (λ i. n j i t) (on j t)
  meets_lowest c d unmatched (matched k) m n on = (n.0, λ i t. ⊎_elim (λ o. absurd (m i o t)) (λ o. n.1 i o t) (on i t))
  meets_lowest c d (matched j) broken m n on = absurd n
  meets_lowest c d (matched j) unmatched m n on =
      (m.0, λ i t. ⊎_elim (λ o. m.1 i o t) (λ o. omega (arith, ltb-true j i (T→true (ltb j i) (n i o t)))) (on i t))
  meets_lowest c d (matched j) (matched k) m n on = go (leb j k) refl
    where
      go : (z : Bool) → leb j k ≡ z → Lowest p (some (cond z j k))
      go true h = (m.0, λ i t. ⊎_elim (λ o. m.1 i o t) (λ o. omega (arith, n.1 i o t, leb-true j k h)) (on i t))
      go false h = (n.0, λ i t. ⊎_elim (λ o. omega (arith, m.1 i o t, leb-false j k h)) (λ o. n.1 i o t) (on i t))

-- the walk along a chain of bench x that rises and whose records may be read meets so
module _ (l : Layout) (x y : ℕ) (p : ℕ → Bool) where
  -- job j's record may be read, and the test says whether it matches
  record Readable (j : ℕ) : Type 0 where
    numbered : T (within 1 l.jobs j)
    held : T (is_held_by l.benches x (nth l.entries j vacant))
    tested : names_both x y (nth l.entries j vacant).names ≡ p j

  walk_meets : (first : Option ℕ) (before : ℕ) (c : List ℕ) → T (rises (before ∷ c)) → ((j : ℕ) → In j c → Readable j) →
      Meets p first c (walk l x y first before c).end
  walk_meets first before [] r f = λ i k t. absurd k
  walk_meets first before (j ∷ c) r f = go (turn l x y first before j c) (walk_meets first j c up (λ i k. f i (inr k)))
    where
      up : T (rises (j ∷ c))
      up = rises_rest before (j ∷ c) r

      here : Readable j
      here = f j (inl refl)

      follows : T (may_follow l.jobs before j)
      follows =
          let h = lt-ltb before j (rises_below before (j ∷ c) r j (inl refl)) in
          both (within 1 l.jobs j) (ltb before j) here.numbered (true→T (ltb before j) h)

      later : p j ≡ false → (e : End) → Meets p first c e → Meets p first (j ∷ c) e
      later n broken m = m
      later n unmatched m = λ i. ⊎_elim (λ e t. absurd (subst T (ap p e ∙ n) t)) (m i)
      later n (matched k) m = (m.0, λ i. ⊎_elim (λ e t. absurd (subst T (ap p e ∙ n) t)) (m.1 i))

      go : {w : Walk} → Turn l x y first before j c w → Meets p first c (walk l x y first j c).end → Meets p first (j ∷ c) w.end
      go (above a) m = λ i k t. above_more first j i a (rises_least j c up i k)
      go (unfit a n) m = subst T n follows
      go (foreign a n h) m = subst T h here.held
      go (found a n h q) m = (true→T (p j) (sym here.tested ∙ q), λ i k t. rises_least j c up i k)
      go (passed a n h q) m = later (sym here.tested ∙ q) (walk l x y first j c).end m

module _ (t : List ℕ) (s : T (sound t)) where
  abbrev l : Layout
  l = layout (words t)

  abbrev b : Board
  b = decode t

  abbrev entry : ℕ → Entry
  entry j = nth l.entries j vacant

  -- x is a bench of 1 to B
  abbrev Bench : ℕ → Type 0
  Bench x = T (within 1 b.benches x)

  chain_in : (x : ℕ) → Bench x → In (bench_chain t x) (chains l)
  unfolding decode board_of
  chain_in x w =
      in_nth (chains l) x [] (within_low 1 b.benches x w) (omega (arith, within_high 1 b.benches x w, fits_chains t (sound_fits t s)))

  on_bench : (x j : ℕ) → Bench x → In j (bench_chain t x) ↔ (T (stands b j) × (holder_of b j ≡ x))
  on_bench x j w = on_chain t s j x (within_low 1 b.benches x w) (within_high 1 b.benches x w)

  -- a standing job names the benches of its record
  stored_names : (j : ℕ) → T (stands b j) → names_of b j ≡ (entry j).names
  stored_names j on = names_record t j ∙ ap (λ z. cond z (entry j).names []) (sym (stands_record t j) ∙ T→true (stands b j) on)

  -- every record of bench x's chain may be read
  chain_readable : (x y : ℕ) (p : ℕ → Bool) → ((j : ℕ) → stands_between b x y j ≡ p j) → Bench x → (j : ℕ) → In j (bench_chain t x) → Readable l x y p j
  unfolding decode board_of
  chain_readable x y p same w j i =
      let on = (on_bench x j w).0 i in
      let e = entry j in
      let f : T (filled e) = subst T (stands_record t j) on.0 in
      let in-jobs = filled_within l.entries j f in
      let fit = (sound_formed t s).entry e (filled_in l.entries j f) f in
      record {
        numbered = within_both 1 l.jobs j in-jobs.0 (omega (arith, in-jobs.1, fits_entries t (sound_fits t s)));
        held = both (entry_fits l.benches e) (eqb (holder_in e) x) fit (eqb_T (holder_in e) x (sym (holder_record t j) ∙ on.1));
        tested = ap (names_both x y) (sym (stored_names j on.0)) ∙ same j;
      }

  -- so, if the chains rise, the walk along it meets the lowest job of it that stands between the benches
  chain_meets : (x y : ℕ) (p : ℕ → Bool) → ((j : ℕ) → stands_between b x y j ≡ p j) → Bench x → T (all_rise t) → (first : Option ℕ) →
      Meets p first (bench_chain t x) (walk l x y first 0 (bench_chain t x)).end
  unfolding all_rise
  chain_meets x y p same w a first =
      let c = bench_chain t x in
      let readable = chain_readable x y p same w in
      let up = rises_more 0 c (λ j i. within_low 1 l.jobs j (readable j i).numbered) (all_in rises c (chains l) a (chain_in x w)) in
      walk_meets l x y p first 0 c up readable

  module _ (x y : ℕ) (fit : T (names_fit (decode t).benches (x ∷ y ∷ []))) where
    pair : Bench x × Bench y × (x ≢ y)
    pair = (pair_fits b.benches x y).0 fit

    -- a job that stands between the two benches is on the chain of one of them
    on_either : (j : ℕ) → T (stands_between b x y j) → In j (bench_chain t x) ⊎ In j (bench_chain t y)
    on_either j m =
        let names = names_of b j in
        let h = holder_of b j in
        let i : In x names = member_in x names (left (member x names) (member y names) m) in
        let k : In y names = member_in y names (right (member x names) (member y names) m) in
        let on = named_stands b j x i in
        let two : T (leb (length names) 2) = leb_T (length names) 2 (omega (arith, ap length (stored_names j on), record_pair t j)) in
        let held = held_named names h x i (shares_nth b (sound_storable t s).valid j) in
        elim (ℕ_discrete h x) [
          | yes e ↦ inl ((on_bench x j pair.0).1 (on, e))
          | no d ↦ inr ((on_bench y j pair.1).1 (on, one_other names x h y two i held k d (λ e. pair.2 (sym e))))
        ]

    -- "Report the records read, at most the two loads added on a sound table", whatever the chains' order
    pub sound_few : length (records_read (layout (words t)) x y) ≤ load (decode t).holders x + load (decode t).holders y
    unfolding decode board_of
    sound_few =
        let long : (z : ℕ) → Bench z → length (bench_chain t z) ≡ load b.holders z = λ z w. chain_load t s z (within_low 1 b.benches z w) (within_high 1 b.benches z w) in
        omega (arith, chains_read l x y, long x pair.0, long y pair.1)

    -- with rising chains both walks meet the lowest job of their chains that stands between the benches
    meets_first : T (all_rise t) → Meets (stands_between b x y) none (bench_chain t x) (first_walk l x y).end
    unfolding first_walk
    meets_first a = chain_meets x y (stands_between b x y) (λ j. refl) pair.0 a none

    meets_second : T (all_rise t) → Meets (stands_between b x y) (met_by (first_walk l x y).end) (bench_chain t y) (second_walk l x y).end
    unfolding second_walk
    meets_second a =
        let same : (j : ℕ) → stands_between b y x j ≡ stands_between b x y j = λ j. and_comm (member y (names_of b j)) (member x (names_of b j)) in
        chain_meets y x (stands_between b x y) same pair.1 a (met_by (first_walk l x y).end)

    -- "On a sound table with rising chains" every record may be read ..
    pub rising_readable : T (all_rise t) → unreadable_pair (layout (words t)) x y ≡ false
    unfolding unreadable_pair
    rising_readable a =
        let p = stands_between b x y in
        let one = (first_walk l x y).end in
        let two = (second_walk l x y).end in
        rw (meets_whole p none (bench_chain t x) one (meets_first a), meets_whole p (met_by one) (bench_chain t y) two (meets_second a))

    -- .. and "the answer is that of reading everything"
    pub rising_everything : T (all_rise t) → job_found (layout (words t)) x y ≡ lowest_between (decode t) x y
    unfolding job_found
    rising_everything a =
        let p = stands_between b x y in
        let one = (first_walk l x y).end in
        let two = (second_walk l x y).end in
        let low = meets_lowest p (bench_chain t x) (bench_chain t y) one two (meets_first a) (meets_second a) on_either in
        lowest_same p (lower (met_by one) (met_by two)) (lowest_between b x y) low (between_lowest b x y)

    -- what a record says that a walk met: its job names both benches
    met_stands : (z w j : ℕ) → is_held_by l.benches z (entry j) ≡ true → names_both z w (entry j).names ≡ true → T (names_both z w (names_of b j))
    met_stands z w j h n =
        let fit = left (entry_fits l.benches (entry j)) (eqb (holder_in (entry j)) z) (true→T (is_held_by l.benches z (entry j)) h) in
        let on = subst T (sym (stands_record t j)) (fit_filled l.benches (entry j) fit) in
        true→T (names_both z w (names_of b j)) (ap (names_both z w) (stored_names j on) ∙ n)

    -- whatever the order of the chains, a job that is found stands between the two benches ..
    pub sound_found : (j : ℕ) → job_found (layout (words t)) x y ≡ some j → T (stands_between (decode t) x y j)
    unfolding first_walk second_walk
    sound_found j f =
        ⊎_elim
        (λ e. let m = met l x y none 0 (bench_chain t x) j e in met_stands x y j m.held m.names)
        (λ e.
        let m = met l y x (met_by (first_walk l x y).end) 0 (bench_chain t y) j e in
        let names = names_of b j in
        subst T (and_comm (member y names) (member x names)) (met_stands y x j m.held m.names))
        (found_met l x y j f)

    -- .. and where none is, none does
    pub sound_none : unreadable_pair (layout (words t)) x y ≡ false → job_found (layout (words t)) x y ≡ none → (j : ℕ) → T (stands_between (decode t) x y j) → ⊥
    unfolding unreadable_pair first_walk second_walk
    sound_none u f j m =
        let ends = none_met l x y u f in
        let names = names_of b j in
        let on = named_stands b j x (member_in x names (left (member x names) (member y names) m)) in
        let both = ap (names_both x y) (sym (stored_names j on)) ∙ T→true (stands_between b x y j) m in
        let turned = and_comm (member y (entry j).names) (member x (entry j).names) ∙ both in
        ⊎_elim
        (λ o. false≢true (sym (unmatched_none l x y 0 (bench_chain t x) ends.0 j o) ∙ both))
        (λ o. false≢true (sym (unmatched_none l y x 0 (bench_chain t y) ends.1 j o) ∙ turned))
        (on_either j m)
