-- Chains spliced. Bench x's chain is a row of links: one from its front to its first job, one from each job to the next. Each link of a
-- board's layout leads to the lowest later job that x holds, and a layout with such links, and with the board's records, is the board's.
-- Where job j gets another holder, the chains of two benches change, each by the link before j.
use Prim.Native.Nat.{ℕ, zero, suc, ◌+◌, ◌-◌, ◌≤◌, ◌<◌}
use native.Mathlib.Omega.{arith}
use native.Mathlib.Decide.{ℕ_discrete, dec_lt}
use mathlib.Core.Path.{◌≡◌, refl, sym, ap, subst, ◌∙◌}
use mathlib.Core.Logic.{◌⊎◌, inl, inr, ◌≢◌}
use mathlib.Core.Bool.{Bool, cond, not}
use mathlib.Core.List.{List, [], ◌∷◌}
use lib.Dec.{T}
use lib.ListN.{length, get_or, drop}
use lib.Seq.{get_or-drop, ext_get_or}
use borrow.Author.Tests.{eq-eqb, ne_eqb}
use Rattle.spec_lists.specs.Lists.{bit, In, empty, nth, update}
use Rattle.spec_table.specs.Board.{Board, Valid, Shares, names_of, holder_of, stands, standing, put}
use Rattle.spec_table.specs.Table.{Entry, vacant, Layout, first_held, position_of, entry_for, entries_from, layout_of}
use Rattle.spec_lists.proofs.Tests.{Compared, same, other, compared, within_low, within_high, within_both}
use Rattle.spec_lists.proofs.Elements.{nth_update_same, nth_update_other, update_same}
use Rattle.spec_lists.proofs.Counting.{filter_update}
use Rattle.spec_lists.proofs.NumberLists.{length_values, nth_range, values_same}
use Rattle.spec_table.proofs.Named.{length_shares, stands_within, holder_bench, stands_by_holder}
use Rattle.spec_table.proofs.Words.{length_entries}

-- the lowest job of a bench

-- r is the lowest job from i on that bench x holds, 0 where there is none
pub record Lowest (holders : List ℕ) (x i r : ℕ) : Type 0 where
  pub found : r ≢ 0 → (i ≤ r) × (nth holders r 0 ≡ x)
  pub least : (j : ℕ) → i ≤ j → nth holders j 0 ≡ x → (r ≢ 0) × (r ≤ j)

-- there is only one
pub lowest_same : {holders : List ℕ} {x i r q : ℕ} → Lowest holders x i r → Lowest holders x i q → r ≡ q
lowest_same {r} {q} a b = go (ℕ_discrete r 0) (ℕ_discrete q 0)
  where
    above : r ≢ 0 → (q ≢ 0) × (q ≤ r)
    above d = let f = a.found d in b.least r f.0 f.1

    below : q ≢ 0 → (r ≢ 0) × (r ≤ q)
    below d = let f = b.found d in a.least q f.0 f.1

    go : Dec (r ≡ 0) → Dec (q ≡ 0) → r ≡ q
    go (yes e) (yes d) = e ∙ sym d
    go (yes e) (no d) = absurd ((below d).0 e)
    go (no d) (yes e) = absurd ((above d).0 e)
    go (no d) (no n) = omega (arith, above d, below n)

-- it is the lowest from an earlier job on, too, if x holds none between
lowest_earlier : {holders : List ℕ} {x i m r : ℕ} → Lowest holders x i r → m ≤ i → ((k : ℕ) → m ≤ k → k < i → nth holders k 0 ≡ x → ⊥) → Lowest holders x m r
lowest_earlier {holders} {x} {i} {m} {r} a l none = record { found = λ d. (omega (arith, a.found d), (a.found d).1); least = λ k u e. go k u e (dec_lt k i) }
  where
    go : (k : ℕ) → m ≤ k → nth holders k 0 ≡ x → Dec (k < i) → (r ≢ 0) × (r ≤ k)
    go k u e (yes h) = absurd (none k u h e)
    go k u e (no h) = a.least k (omega arith) e

-- the first of the holders from place i on, counted from 0
lowest_from : (i x : ℕ) (l : List ℕ) → 1 ≤ x → let r = first_held (suc i) x l in (r ≢ 0 → (k : ℕ) × (r ≡ suc (i + k)) × (get_or l k 0 ≡ x)) × ((k : ℕ) → get_or l k 0 ≡ x → (r ≢ 0) × (r ≤ suc (i + k)))
lowest_from i x [] low = (λ d. absurd (d refl), λ k e. absurd (omega arith))
lowest_from i x (h ∷ l) low = go (lowest_from (suc i) x l low) (compared h x)
  where
    later : ℕ
    later = first_held (suc (suc i)) x l

    go : (later ≢ 0 → (k : ℕ) × (later ≡ suc (suc i + k)) × (get_or l k 0 ≡ x)) × ((k : ℕ) → get_or l k 0 ≡ x → (later ≢ 0) × (later ≤ suc (suc i + k))) → {z : Bool} → Compared h x z → let r = cond z (suc i) later in (r ≢ 0 → (k : ℕ) × (r ≡ suc (i + k)) × (get_or (h ∷ l) k 0 ≡ x)) × ((k : ℕ) → get_or (h ∷ l) k 0 ≡ x → (r ≢ 0) × (r ≤ suc (i + k)))
    go ih (same e) = (λ d. (0, omega arith, e), λ k q. (omega arith, omega arith))
    go ih (other n) = (λ d. let f = ih.0 d in (suc f.0, omega arith, f.2), least)
      where
        least : (k : ℕ) → get_or (h ∷ l) k 0 ≡ x → (later ≢ 0) × (later ≤ suc (i + k))
        least zero q = absurd (n q)
        least (suc k) q = let f = ih.1 k q in (f.0, omega arith)

-- the first job that a board's layout tells of bench x is the lowest
pub lowest_held : (holders : List ℕ) (x i : ℕ) → 1 ≤ x → Lowest holders x (suc i) (first_held (suc i) x (drop i holders))
lowest_held holders x i low = record { found = found; least = least }
  where
    r : ℕ
    r = first_held (suc i) x (drop i holders)

    found : r ≢ 0 → (suc i ≤ r) × (nth holders r 0 ≡ x)
    found d =
        let f = (lowest_from i x (drop i holders) low).0 d in
        (omega arith, ap (λ (k : ℕ). nth holders k 0) f.1 ∙ sym (get_or-drop i holders f.0 0) ∙ f.2)

    least : (j : ℕ) → suc i ≤ j → nth holders j 0 ≡ x → (r ≢ 0) × (r ≤ j)
    least zero l e = absurd (omega arith)
    least (suc k) l e =
        let m : i + (k - i) ≡ k = omega arith in
        let f = (lowest_from i x (drop i holders) low).1 (k - i) (get_or-drop i holders (k - i) 0 ∙ ap (λ (n : ℕ). get_or holders n 0) m ∙ e) in
        (f.0, omega arith)

-- links

-- i is a place in bench x's chain: its front, or a job that x holds
abbrev pub InChain : List ℕ → ℕ → ℕ → Type 0
InChain holders x i = (i ≡ 0) ⊎ (nth holders i 0 ≡ x)

-- from each place in bench x's chain the link leads to the lowest later job
abbrev pub Linked : List ℕ → ℕ → (ℕ → ℕ) → Type 0
Linked holders x link = (i : ℕ) → InChain holders x i → Lowest holders x (suc i) (link i)

-- p is the place before job j in bench x's chain
pub record Before (holders : List ℕ) (x j p : ℕ) : Type 0 where
  pub below : p < j
  pub place : InChain holders x p
  pub last : (i : ℕ) → i < j → nth holders i 0 ≡ x → i ≤ p

-- two benches have no place in common but the front
pub chains_apart : (holders : List ℕ) {x y : ℕ} (i : ℕ) → x ≢ y → InChain holders x i → InChain holders y i → i ≡ 0
chains_apart holders i d (inl e) c = e
chains_apart holders i d (inr e) (inl q) = q
chains_apart holders i d (inr e) (inr q) = absurd (d (sym e ∙ q))

-- job j, one of 1 to J, is given to bench h
module _ (holders : List ℕ) (j h : ℕ) (low : 1 ≤ j) (high : j ≤ length holders) where
  -- no other job is
  stays : {x i : ℕ} → i ≢ j → nth (update holders j h) i 0 ≡ x → nth holders i 0 ≡ x
  stays {i} d e = sym (nth_update_other holders j i h 0 d) ∙ e

  -- a place after it that is not j was one before it
  old_place : {x i : ℕ} → i ≢ j → InChain (update holders j h) x i → InChain holders x i
  old_place d (inl e) = inl e
  old_place d (inr e) = inr (stays d e)

  -- a place of another bench is not j
  not_there : {x i : ℕ} → h ≢ x → InChain (update holders j h) x i → i ≢ j
  not_there d (inl e) q = omega arith
  not_there {x} d (inr e) q =
      d (sym (nth_update_same holders j h 0 low high) ∙ ap (λ (k : ℕ). nth (update holders j h) k 0) (sym q) ∙ e)

  -- job j is below i, or above job r, or bench x has it neither before nor after
  abbrev Aside : ℕ → ℕ → ℕ → Type 0
  Aside x i r = (j < i) ⊎ ((r ≢ 0) × (r < j)) ⊎ ((nth holders j 0 ≢ x) × (h ≢ x))

  -- then r stays the lowest job from i on that x holds
  lowest_kept : {x i r : ℕ} → Lowest holders x i r → Aside x i r → Lowest (update holders j h) x i r
  lowest_kept {x} {i} {r} a c = record { found = λ d. ((a.found d).0, nth_update_other holders j r h 0 (apart d c) ∙ (a.found d).1); least = λ k l e. least k l e (ℕ_discrete k j) c }
    where
      apart : r ≢ 0 → Aside x i r → r ≢ j
      apart d (inl l) q = omega (arith, (a.found d).0)
      apart d (inr (inl l)) q = omega (arith, l.1)
      apart d (inr (inr n)) q = n.0 (ap (λ (k : ℕ). nth holders k 0) (sym q) ∙ (a.found d).1)

      least : (k : ℕ) → i ≤ k → nth (update holders j h) k 0 ≡ x → Dec (k ≡ j) → Aside x i r → (r ≢ 0) × (r ≤ k)
      least k l e (no d) c = a.least k l (stays d e)
      least k l e (yes q) (inl u) = absurd (omega arith)
      least k l e (yes q) (inr (inl u)) = (u.0, omega arith)
      least k l e (yes q) (inr (inr n)) = absurd (not_there {x = x} n.1 (inr e) q)

  -- so does the one behind each place but that before j, and j
  beside : {x p i r : ℕ} → Before holders x j p → InChain holders x i → i ≢ p → i ≢ j → Lowest holders x (suc i) r → Lowest (update holders j h) x (suc i) r
  beside {x} {p} {i} {r} b c d n a = lowest_kept a (go (dec_lt i p) (dec_lt i j) b.place c)
    where
      go : Dec (i < p) → Dec (i < j) → InChain holders x p → InChain holders x i → Aside x (suc i) r
      go (yes u) k (inl e) c = absurd (omega arith)
      go (yes u) k (inr e) c = let f = a.least p u e in inr (inl (f.0, omega (arith, b.below)))
      go (no u) k q (inl e) = absurd (omega arith)
      go (no u) (yes l) q (inr e) = absurd (omega (arith, b.last i l e))
      go (no u) (no l) q (inr e) = inl (omega arith)

  module _ {x : ℕ} {f g : ℕ → ℕ} (linked : Linked holders x f) where
    -- the chain of a bench that does not hold job j, before or after, stays as it is
    pub links_kept : nth holders j 0 ≢ x → h ≢ x → ((i : ℕ) → i ≢ j → InChain holders x i → g i ≡ f i) → Linked (update holders j h) x g
    links_kept d n alike i c =
        let q = not_there n c in
        let o = old_place q c in
        rw (alike i q o) (lowest_kept (linked i o) (inr (inr (d, n))))

    -- where bench x gives job j away the link before j leads to the job behind it
    pub links_without : {p : ℕ} → nth holders j 0 ≡ x → h ≢ x → Before holders x j p → g p ≡ f j → ((i : ℕ) → i ≢ p → i ≢ j → InChain holders x i → g i ≡ f i) → Linked (update holders j h) x g
    links_without {p} e n b q alike i c = go (ℕ_discrete i p)
      where
        none : (k : ℕ) → suc p ≤ k → k < suc j → nth (update holders j h) k 0 ≡ x → ⊥
        none k l u e = let d = not_there {i = k} n (inr e) in omega (arith, b.last k (omega arith) (stays d e))

        go : Dec (i ≡ p) → Lowest (update holders j h) x (suc i) (g i)
        go (yes d) =
            let l = lowest_earlier (lowest_kept (linked j (inr e)) (inl (omega arith))) (omega (arith, b.below)) none in
            rw (d, q) l
        go (no d) = let k = not_there n c in let o = old_place k c in rw (alike i d k o) (beside b o d k (linked i o))

    -- where bench x gets job j the link before j leads to it, and its own to the job behind it
    pub links_with : {p n : ℕ} → nth holders j 0 ≢ x → h ≡ x → Before holders x j p → Lowest holders x j n → g p ≡ j → g j ≡ n → ((i : ℕ) → i ≢ p → i ≢ j → InChain holders x i → g i ≡ f i) → Linked (update holders j h) x g
    links_with {p} {n} d e b a q r alike i c = go (ℕ_discrete i p) (ℕ_discrete i j)
      where
        here : Lowest (update holders j h) x (suc p) j
        here = record { found = λ d. (b.below, nth_update_same holders j h 0 low high ∙ e); least = λ k l o. (omega arith, after k l o (dec_lt k j)) }
          where
            after : (k : ℕ) → suc p ≤ k → nth (update holders j h) k 0 ≡ x → Dec (k < j) → j ≤ k
            after k l o (yes u) = absurd (omega (arith, b.last k u (stays {i = k} (omega arith) o)))
            after k l o (no u) = omega arith

        behind : Lowest holders x (suc j) n
        behind = record { found = λ k. (omega (arith, not_j k, (a.found k).0), (a.found k).1); least = λ k l o. a.least k (omega arith) o }
          where
            not_j : n ≢ 0 → n ≢ j
            not_j k z = d (ap (λ (m : ℕ). nth holders m 0) (sym z) ∙ (a.found k).1)

        go : Dec (i ≡ p) → Dec (i ≡ j) → Lowest (update holders j h) x (suc i) (g i)
        go (yes k) o = rw (k, q) here
        go (no k) (yes o) = rw (o, r) (lowest_kept behind (inl (omega arith)))
        go (no k) (no o) = let z = old_place o c in rw (alike i k o z) (beside b z k o (linked i z))

-- the layout of a board

-- the link from place i in bench x's chain
abbrev pub link_in : Layout → ℕ → ℕ → ℕ
link_in l x zero = nth l.heads x 0
link_in l x (suc i) = (nth l.entries (suc i) vacant).next

-- the records from number i on: the k-th, its next job the first later one that the same bench holds
entry_from_lem : (i k : ℕ) (named : List (List ℕ)) (holders : List ℕ) → Shares named holders → get_or (entries_from i named holders) k vacant ≡ entry_for (get_or named k []) (get_or holders k 0) (first_held (suc (i + k)) (get_or holders k 0) (drop (suc k) holders))
entry_from_lem i k [] [] s = refl
entry_from_lem i k [] (h ∷ holders) s = absurd s
entry_from_lem i k (names ∷ named) [] s = absurd s
entry_from_lem i zero (names ∷ named) (h ∷ holders) s = ap (λ (n : ℕ). entry_for names h (first_held (suc n) h holders)) (omega arith)
entry_from_lem i (suc k) (names ∷ named) (h ∷ holders) s =
    entry_from_lem (suc i) k named holders s.1
    ∙ ap (λ (n : ℕ). entry_for (get_or named k []) (get_or holders k 0) (first_held (suc n) (get_or holders k 0) (drop (suc k) holders))) (omega arith)

-- job j's record in a board's layout
pub entry_of : (b : Board) → Valid b → (j : ℕ) → nth (entries_from 1 b.named b.holders) j vacant ≡ entry_for (names_of b j) (holder_of b j) (first_held (suc j) (holder_of b j) (drop j b.holders))
entry_of b v zero = refl
entry_of b v (suc k) =
    entry_from_lem 1 k b.named b.holders v.shares
    ∙ ap (λ (n : ℕ). entry_for (get_or b.named k []) (get_or b.holders k 0) (first_held (suc n) (get_or b.holders k 0) (drop (suc k) b.holders))) (omega arith)

-- a standing job's record has the job's names ..
pub entry_names : (names : List ℕ) (h n : ℕ) → T (not (empty names)) → (entry_for names h n).names ≡ names
entry_names [] h n t = absurd t
entry_names (x ∷ names) h n t = refl

-- .. and its next job ..
pub entry_next : (names : List ℕ) (h n : ℕ) → T (not (empty names)) → (entry_for names h n).next ≡ n
entry_next [] h n t = absurd t
entry_next (x ∷ names) h n t = refl

-- .. and no other record has a next job ..
entry_same : (names : List ℕ) (h n m : ℕ) → (T (not (empty names)) → n ≡ m) → entry_for names h n ≡ entry_for names h m
entry_same [] h n m e = refl
entry_same (x ∷ names) h n m e = ap (entry_for (x ∷ names) h) (e tt)

-- .. so each is the record with its own next job
entry_own : (names : List ℕ) (h n : ℕ) → entry_for names h n ≡ entry_for names h (entry_for names h n).next
entry_own names h n = entry_same names h n (entry_for names h n).next (λ t. sym (entry_next names h n t))

-- the holder word of a job with two names: 1 if the first of them is the holder, else 2
pub holder_two : (names : List ℕ) (h p : ℕ) → length names ≡ 2 → In h names → ((get_or names 0 0 ≡ h) × (p ≡ 1)) ⊎ ((get_or names 0 0 ≡ h → ⊥) × (p ≡ 2)) → p ≡ position_of h names
holder_two [] h p two i c = absurd i
holder_two (a ∷ []) h p two i c = absurd (omega arith)
holder_two (a ∷ b ∷ names) h p two i (inl c) = rw (c.1, eq-eqb a h c.0) refl
holder_two (a ∷ b ∷ names) h p two (inl e) (inr c) = absurd (c.0 (sym e))
holder_two (a ∷ b ∷ names) h p two (inr (inl e)) (inr c) = rw (c.1, ne_eqb a h c.0, eq-eqb b h (sym e)) refl
holder_two (a ∷ b ∷ []) h p two (inr (inr i)) (inr c) = absurd i
holder_two (a ∷ b ∷ d ∷ names) h p two (inr (inr i)) (inr c) = absurd (omega arith)

-- the records are those of the board's jobs, whatever their next jobs are
abbrev pub Recorded : List Entry → Board → Type 0
Recorded es b = (j : ℕ) → nth es j vacant ≡ entry_for (names_of b j) (holder_of b j) (nth es j vacant).next

module _ (es : List Entry) (b : Board) (v : Valid b) (long : length es ≡ length b.named) (recorded : Recorded es b) where
  -- with another record of job j they are those of the board with that job
  pub recorded_put : (j : ℕ) (names : List ℕ) (h n : ℕ) → 1 ≤ j → j ≤ length es → Recorded (update es j (entry_for names h n)) (put b j names h)
  recorded_put j names h n low high k = go (ℕ_discrete k j)
    where
      e : Entry
      e = entry_for names h n

      go : Dec (k ≡ j) → nth (update es j e) k vacant ≡ entry_for (nth (update b.named j names) k []) (nth (update b.holders j h) k 0) (nth (update es j e) k vacant).next
      go (yes q) =
          rw (q, nth_update_same es j e vacant low high, nth_update_same b.named j names [] low (omega arith), nth_update_same b.holders j h 0 low (omega (arith, length_shares b.named b.holders v.shares)))
          (entry_own names h n)
      go (no d) = rw (nth_update_other es j k e vacant d, nth_update_other b.named j k names [] d, nth_update_other b.holders j k h 0 d) (recorded k)

  -- with another next job of a standing job they are those of the same board
  pub recorded_next : (j n : ℕ) → T (stands b j) → Recorded (update es j (entry_for (names_of b j) (holder_of b j) n)) b
  recorded_next j n t =
      let w = stands_within b j t in
      let back : put b j (names_of b j) (holder_of b j) ≡ b =
      λ i. record { benches = b.benches; named = update_same b.named j [] i; holders = update_same b.holders j 0 i } in
      subst (Recorded (update es j (entry_for (names_of b j) (holder_of b j) n))) back
      (recorded_put j (names_of b j) (holder_of b j) n (within_low 1 (length b.named) j w) (omega (arith, within_high 1 (length b.named) j w)))

-- the number of standing jobs with job j written anew
pub standing_put : (b : Board) (j : ℕ) (names : List ℕ) (h : ℕ) → 1 ≤ j → j ≤ length b.named → standing (put b j names h) + bit (stands b j) ≡ standing b + bit (not (empty names))
standing_put b j names h low high = filter_update (λ (n : List ℕ). not (empty n)) b.named j names [] low high

-- a layout with the sizes, the records and the links of the board b
pub record LaidOut (l : Layout) (b : Board) : Type 0 where
  pub benches : l.benches ≡ b.benches
  pub jobs : l.jobs ≡ length b.named
  pub standing : l.standing ≡ standing b
  pub spare : l.spare ≡ 0
  pub heads : length l.heads ≡ b.benches
  pub entries : length l.entries ≡ length b.named
  pub records : Recorded l.entries b
  pub links : (x : ℕ) → 1 ≤ x → x ≤ b.benches → Linked b.holders x (link_in l x)

module _ (b : Board) (v : Valid b) where
  -- the layout of a board has them ..
  pub layout_laid_out : LaidOut (layout_of b) b
  unfolding layout_of
  layout_laid_out =
      record {
        benches = refl;
        jobs = refl;
        standing = refl;
        spare = refl;
        heads = length_values (λ x. first_held 1 x b.holders) 1 b.benches;
        entries = length_entries 1 b.named b.holders v.shares;
        records = λ j. rw (entry_of b v j) (entry_own (names_of b j) (holder_of b j) (first_held (suc j) (holder_of b j) (drop j b.holders)));
        links = links;
      }
    where
      first : ℕ → ℕ
      first x = first_held 1 x b.holders

      next : (x k : ℕ) → 1 ≤ x → x ≤ b.benches → nth b.holders (suc k) 0 ≡ x → link_in (layout_of b) x (suc k) ≡ first_held (suc (suc k)) x (drop (suc k) b.holders)
      next x k low high e =
          let t : T (stands b (suc k)) = rw (stands_by_holder b v (suc k), e) (within_both 1 b.benches x low high) in
          ap (λ (a : Entry). a.next) (entry_of b v (suc k))
          ∙ entry_next (names_of b (suc k)) (holder_of b (suc k)) (first_held (suc (suc k)) (holder_of b (suc k)) (drop (suc k) b.holders)) t
          ∙ ap (λ (y : ℕ). first_held (suc (suc k)) y (drop (suc k) b.holders)) e

      links : (x : ℕ) → 1 ≤ x → x ≤ b.benches → Linked b.holders x (link_in (layout_of b) x)
      links x low high zero c = rw (nth_range first b.benches x 0 low high) (lowest_held b.holders x 0 low)
      links x low high (suc k) (inl e) = absurd (omega arith)
      links x low high (suc k) (inr e) = rw (next x k low high e) (lowest_held b.holders x (suc k) low)

  -- .. and no other layout has
  pub laid_out_layout : {l : Layout} → LaidOut l b → l ≡ layout_of b
  unfolding layout_of
  laid_out_layout {l} z =
      λ i. record { benches = z.benches i; jobs = z.jobs i; standing = z.standing i; spare = z.spare i; heads = heads i; entries = entries i }
    where
      heads : l.heads ≡ (layout_of b).heads
      heads =
          values_same (λ x. first_held 1 x b.holders) 1 b.benches l.heads 0 z.heads
          (λ k u. lowest_same (z.links (suc k) (omega arith) u 0 (inl refl)) (lowest_held b.holders (suc k) 0 (omega arith)) ∙ ap (λ (x : ℕ). first_held 1 x b.holders) (omega arith))

      next : (k : ℕ) → T (stands b (suc k)) → link_in l (holder_of b (suc k)) (suc k) ≡ first_held (suc (suc k)) (holder_of b (suc k)) (drop (suc k) b.holders)
      next k t =
          let h : ℕ = holder_of b (suc k) in
          let w = holder_bench b v (suc k) t in
          let low = within_low 1 b.benches h w in
          lowest_same (z.links h low (within_high 1 b.benches h w) (suc k) (inr refl)) (lowest_held b.holders h (suc k) low)

      entry : (k : ℕ) → get_or l.entries k vacant ≡ get_or (entries_from 1 b.named b.holders) k vacant
      entry k =
          let h : ℕ = holder_of b (suc k) in
          z.records (suc k) ∙ entry_same (names_of b (suc k)) h (link_in l h (suc k)) (first_held (suc (suc k)) h (drop (suc k) b.holders)) (next k) ∙ sym (entry_of b v (suc k))

      entries : l.entries ≡ (layout_of b).entries
      entries = ext_get_or vacant l.entries (entries_from 1 b.named b.holders) (z.entries ∙ sym (length_entries 1 b.named b.holders v.shares)) (λ k u. entry k)
