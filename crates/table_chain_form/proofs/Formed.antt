-- The passes of the form check find a table formed exactly if the definition does.
use Rattle.std.specs.Prelude.{Option, Some, None}
use Prim.Native.Nat.{ℕ, zero, suc, ◌+◌, ◌≤◌}
use native.Mathlib.Omega.{arith}
use mathlib.Core.Path.{◌≡◌, refl, sym, ap, ◌∙◌, subst}
use mathlib.Core.Logic.{inl, inr}
use mathlib.Core.Bool.{Bool, true, false}
use mathlib.Core.List.{List, [], ◌∷◌, ◌++◌, map, flat_map}
use lib.Dec.{T, eqb}
use lib.ListN.{length, length-append, length-map}
use borrow.Author.Tests.{eq-eqb}
use Rattle.spec_lists.specs.Lists.{bit, count, distinct, range, total, all, In, nth, enumerate}
use Rattle.spec_table.specs.Table.{Entry, vacant, filled, holder_in, Layout, follow, chains, standing_in, entry_fits, placed, formed}
use Rattle.spec_lists.proofs.Tests.{true→T, never→false, both, left, right, tests_same, Compared, same, other, compared, T-eqb, eqb_T, within_low, within_high}
use Rattle.spec_lists.proofs.Elements.{in_nth, in_enumerate, in_flat_map}
use Rattle.spec_lists.proofs.NumberLists.{range_low, bench_listed, Member, is_in, not_in, membered, range_distinct}
use Rattle.spec_table.proofs.Named.{fit_bench}
use Rattle.spec_lists.proofs.Counting.{bit_same, bit_other, bit_le, count_none, count_some, count_append, distinct_count, total_first, total_most, total_same, total_tight, total_count}
use Rattle.spec_table.proofs.Clauses.{filled_within, filled_in, filled_each, Formed, formed_is, formed_back}
use Rattle.spec_table.proofs.Sound.{entry_tests, not_held, Ends, standing_from, standing_first, formed_own, own_few}
use Rattle.spec_table.proofs.ChainEnds.{after, ends_distinct}
use Rattle.table_words.specs.Bytes.{layout_in}
use Rattle.table_size.specs.Sizes.{SizeOf}
use Rattle.table_size.specs.declared.Size.{Size}
use Rattle.table_size.proofs.Sizes.{heads_long, entries_long}
use Rattle.table_record_form.specs.Kinds.{counted}
use Rattle.table_record_form.proofs.CountedRecords.{AllFit, counted_seen, fit_counted}
use Rattle.table_chain_form.specs.ChainWalks.{only_if, walked, all_walked}
use Rattle.table_chain_form.proofs.Walking.{all_broken}

-- a layout with a record for each job number and a head for each bench
pub record Whole (l : Layout) : Type 0 where
  pub entries : length l.entries ≡ l.jobs
  pub heads : length l.heads ≡ l.benches

-- a table's layout is such
pub table_whole : (t : List ℕ) (s : Size) → SizeOf t s → Whole (layout_in t)
table_whole t s z =
    record { entries = entries_long t s z ∙ sym z.jobs; heads = heads_long t s z ∙ sym z.benches }

-- without a clause of the sound table the definition says no
refused : (l : Layout) → (Formed l → ⊥) → formed l ≡ false
refused l f = never→false (formed l) (λ t. f (formed_is l t))

-- the records

-- whether job j stands, and who holds it
abbrev filled_at : List Entry → ℕ → Bool
filled_at es j = filled (nth es j vacant)

abbrev holder_at : List Entry → ℕ → ℕ
holder_at es j = holder_in (nth es j vacant)

-- the filled records, counted by their numbers
standing_total : (i : ℕ) (es : List Entry) → length (standing_from i es) ≡ total (length es) (λ j. bit (filled_at es j))
standing_total i [] = refl
standing_total i (e ∷ es) =
    omega (arith, standing_first i e es, standing_total (suc i) es, total_first (length es) (λ j. bit (filled_at (e ∷ es) j)), total_same (length es) (λ j. bit (filled_at (e ∷ es) (suc j))) (λ j. bit (filled_at es j)) later)
  where
    later : (j : ℕ) → 1 ≤ j → j ≤ length es → bit (filled_at (e ∷ es) (suc j)) ≡ bit (filled_at es j)
    later zero l u = absurd (omega arith)
    later (suc j) l u = refl

-- a filled record that fits tells a bench of 1 to B, any other none
holder_listed : (benches : ℕ) (e : Entry) → (T (filled e) → T (entry_fits benches e)) → count (holder_in e) (range 1 benches) ≡ bit (filled e)
holder_listed benches e fits = go (filled e) refl
  where
    h : ℕ
    h = holder_in e

    go : (z : Bool) → filled e ≡ z → count h (range 1 benches) ≡ bit z
    go true q =
        let t = (entry_tests benches e).0 (fits (true→T (filled e) q)) in
        let n = length e.names in
        let i = in_nth e.names e.holder 0 (within_low 1 n e.holder t.1) (within_high 1 n e.holder t.1) in
        let bench = bench_listed benches h (fit_bench benches e.names h t.0 i) in
        omega (arith, distinct_count (range 1 benches) (range_distinct 1 benches) h, count_some h (range 1 benches) bench)
    go false q = count_none h (range 1 benches) (λ i. omega (arith, range_low h 1 benches i, not_held e q))

-- word 3 is not 0
pub spare_formed : (l : Layout) → (l.spare ≡ 0 → ⊥) → formed l ≡ false
spare_formed l d = refused l (λ f. d f.spare)

-- a record does not fit
pub broken_formed : (l : Layout) → counted l.benches 0 l.entries ≡ None → formed l ≡ false
broken_formed l e = refused l (λ f. fit_counted l.benches 0 l.entries f.entry e)

-- word 2 is not the number of standing jobs
pub count_formed : (l : Layout) (n : ℕ) → counted l.benches 0 l.entries ≡ Some n → (l.standing ≡ n → ⊥) → formed l ≡ false
count_formed l n e d = refused l (λ f. d (omega (arith, f.standing, (counted_seen l.benches 0 1 l.entries n e).1)))

-- no more than J jobs stand
pub counted_few : (l : Layout) (n : ℕ) → Whole l → counted l.benches 0 l.entries ≡ Some n → n ≤ l.jobs
counted_few l n w e =
    let es = l.entries in
    omega (arith, w.entries, (counted_seen l.benches 0 1 es n e).1, standing_total 1 es, total_most (length es) (λ j. bit (filled_at es j)) (λ j. bit_le (filled_at es j)))

-- one chain

module _ (es : List Entry) where
  -- x holds every job on c
  abbrev Held : ℕ → List ℕ → Type 0
  Held x c = (j : ℕ) → In j c → holder_at es j ≡ x

  -- x holds every job on c, and none is on it twice
  abbrev Own : ℕ → List ℕ → Type 0
  Own x c = (j : ℕ) → count j c ≤ bit (eqb x (holder_at es j))

  -- the first of the two ..
  own_held : (x : ℕ) (c : List ℕ) → Own x c → Held x c
  own_held x c o j i = go (compared x (holder_at es j))
    where
      go : {z : Bool} → Compared x (holder_at es j) z → holder_at es j ≡ x
      go (same e) = sym e
      go (other d) = absurd (omega (arith, o j, count_some j c i, bit_other x (holder_at es j) d))

  -- .. and both
  held_own : (x : ℕ) (c : List ℕ) → Held x c → T (distinct c) → Own x c
  held_own x c h d j = go (membered j c)
    where
      go : {z : Bool} → Member j c z → count j c ≤ bit (eqb x (holder_at es j))
      go (is_in i) = omega (arith, distinct_count c d j, bit_same x (holder_at es j) (sym (h j i)))
      go (not_in n) = omega (arith, count_none j c n)

  -- what a walk with n jobs before it and m left went over; k is J
  record ChainWalk (x n j m k : ℕ) : Type 0 where
    held : Held x (follow es (suc k) j)
    ends : Ends es n j
    long : length (follow es (suc k) j) + m ≡ n

  -- a walk that is not broken is such
  walked_walk : (x n j m k : ℕ) → walked es x n j ≡ Some m → n ≤ k → ChainWalk x n j m k
  walked_walk x zero zero m k q h = record { held = λ i n. absurd n; ends = tt; long = let d : 0 ≡ m = cc in omega arith }
  walked_walk x zero (suc j) m k q h = absurd (true→T false cc)
  walked_walk x (suc n) zero m k q h = record { held = λ i n. absurd n; ends = tt; long = let d : suc n ≡ m = cc in omega arith }
  walked_walk x (suc n) (suc j) m zero q h = absurd (omega arith)
  walked_walk x (suc n) (suc j) m (suc k) q h = go (eqb holder x) refl (λ r. walked_walk x n next m k r (omega arith)) q
    where
      holder : ℕ
      holder = holder_at es (suc j)

      next : ℕ
      next = after es (suc j)

      first : holder ≡ x → Held x (follow es (suc k) next) → Held x (suc j ∷ follow es (suc k) next)
      first d r i (inl e) = ap (holder_at es) e ∙ d
      first d r i (inr e) = r i e

      go : (z : Bool) → eqb holder x ≡ z → (walked es x n next ≡ Some m → ChainWalk x n next m k) → only_if z (walked es x n next) ≡ Some m → ChainWalk x (suc n) (suc j) m (suc k)
      go true d ih r =
          let p = ih r in
          record { held = first (T-eqb holder x (true→T (eqb holder x) d)) p.held; ends = p.ends; long = omega (arith, p.long) }
      go false d ih r = absurd (true→T false cc)

  -- what it left is what is not on the chain
  pub walked_long : (x n j m k : ℕ) → walked es x n j ≡ Some m → n ≤ k → length (follow es (suc k) j) + m ≡ n
  walked_long x n j m k q h = (walked_walk x n j m k q h).long

  -- it went over a chain of x's own jobs, and left the others ..
  walked_own : (x n j m k : ℕ) → walked es x n j ≡ Some m → n ≤ k → Own x (follow es (suc k) j) × (length (follow es (suc k) j) + m ≡ n)
  walked_own x n j m k q h =
      let p = walked_walk x n j m k q h in
      (held_own x (follow es (suc k) j) p.held (ends_distinct es (suc k) n j p.ends), p.long)

  -- .. and a chain of jobs that x holds is walked so
  held_walked : (x n j m k : ℕ) → Held x (follow es (suc k) j) → length (follow es (suc k) j) ≤ k → length (follow es (suc k) j) + m ≡ n → walked es x n j ≡ Some m
  held_walked x zero zero m k o s h = ap Some (omega arith)
  held_walked x zero (suc j) m k o s h = absurd (omega arith)
  held_walked x (suc n) zero m k o s h = ap Some (omega arith)
  held_walked x (suc n) (suc j) m zero o s h = absurd (omega arith)
  held_walked x (suc n) (suc j) m (suc k) o s h =
      rw (eq-eqb (holder_at es (suc j)) x (o (suc j) (inl refl))) (held_walked x n (after es (suc j)) m k (λ i e. o i (inr e)) (omega arith) (omega arith))

-- all chains

-- the jobs on all chains
abbrev together : List (List ℕ) → List ℕ
together cs = flat_map (λ c. c) cs

-- each chain, numbered from x on, has jobs of its bench only, none twice
abbrev AllOwn : List Entry → ℕ → List (List ℕ) → Type 0
AllOwn es x cs = (s : ℕ × List ℕ) → In s (enumerate x cs) → Own es s.0 s.1

-- chains walked to the last of n jobs are such, with n jobs on them ..
all_walked_own : (es : List Entry) (x k : ℕ) (heads : List ℕ) (n : ℕ) → T (all_walked es x heads (Some n)) → n ≤ k → AllOwn es x (map (follow es (suc k)) heads) × (length (together (map (follow es (suc k)) heads)) ≡ n)
unfolding flat_map
all_walked_own es x k [] n t h = (λ s i. absurd i, sym (T-eqb n 0 t))
all_walked_own es x k (j ∷ heads) n t h = go (walked es x n j) refl (λ m. all_walked_own es (suc x) k heads m) t
  where
    c : List ℕ
    c = follow es (suc k) j

    cs : List (List ℕ)
    cs = map (follow es (suc k)) heads

    first : Own es x c → AllOwn es (suc x) cs → AllOwn es x (c ∷ cs)
    first o r s (inl d) = subst (λ (p : ℕ × List ℕ). Own es p.0 p.1) (sym d) o
    first o r s (inr i) = r s i

    go : (r : Option ℕ) → walked es x n j ≡ r → ((m : ℕ) → T (all_walked es (suc x) heads (Some m)) → m ≤ k → AllOwn es (suc x) cs × (length (together cs) ≡ m)) → T (all_walked es (suc x) heads r) → AllOwn es x (c ∷ cs) × (length (c ++ together cs) ≡ n)
    go (Some m) q ih t =
        let p = walked_own es x n j m k q h in
        let r = ih m t (omega (arith, p.1)) in
        (first p.0 r.0, omega (arith, p.1, r.1, length-append c (together cs)))
    go None q ih t = absurd (rw (all_broken es (suc x) heads) at t)

-- .. and such chains are walked to the last job
own_all_walked : (es : List Entry) (x k : ℕ) (heads : List ℕ) (n : ℕ) → AllOwn es x (map (follow es (suc k)) heads) → ((c : List ℕ) → In c (map (follow es (suc k)) heads) → length c ≤ k) → length (together (map (follow es (suc k)) heads)) ≡ n → T (all_walked es x heads (Some n))
unfolding flat_map
own_all_walked es x k [] n o s e = eqb_T n 0 (sym e)
own_all_walked es x k (j ∷ heads) n o s e =
    let c = follow es (suc k) j in
    let cs = map (follow es (suc k)) heads in
    let m = length (together cs) in
    rw (held_walked es x n j m k (own_held es x c (o (x, c) (inl refl))) (s c (inl refl)) (omega (arith, length-append c (together cs))))
    (own_all_walked es (suc x) k heads m (λ p i. o p (inr i)) (λ d i. s d (inr i)) refl)

-- job j is at most once on chain h, and on no other, of those numbered from x on
abbrev OnceAt : ℕ → ℕ → ℕ → List (List ℕ) → Type 0
OnceAt j h x cs = (s : ℕ × List ℕ) → In s (enumerate x cs) → count j s.1 ≤ bit (eqb s.0 h)

-- so it is on all together at most as often as h is one of their numbers
once_together : (j h x : ℕ) (cs : List (List ℕ)) → OnceAt j h x cs → count j (together cs) ≤ count h (range x (length cs))
unfolding flat_map
once_together j h x [] f = omega arith
once_together j h x (c ∷ cs) f = omega (arith, count_append j c (together cs), f (x, c) (inl refl), once_together j h (suc x) cs (λ s i. f s (inr i)))

-- "on its holder's chain once and on no other", of the chains numbered from x on
abbrev placed_from : ℕ → List (List ℕ) → ℕ → ℕ → Bool
placed_from x cs j h = all (λ c. eqb (count j c.1) (bit (eqb c.0 h))) (enumerate x cs)

-- a job so placed is just as often on all together ..
placed_together : (j h x : ℕ) (cs : List (List ℕ)) → T (placed_from x cs j h) → count j (together cs) ≡ count h (range x (length cs))
unfolding flat_map
placed_together j h x [] t = refl
placed_together j h x (c ∷ cs) t =
    let here = eqb (count j c) (bit (eqb x h)) in
    let later = placed_from (suc x) cs j h in
    omega (arith, count_append j c (together cs), T-eqb (count j c) (bit (eqb x h)) (left here later t), placed_together j h (suc x) cs (right here later t))

-- .. and one that is as often on them is so placed
together_placed : (j h x : ℕ) (cs : List (List ℕ)) → OnceAt j h x cs → count h (range x (length cs)) ≤ count j (together cs) → T (placed_from x cs j h)
unfolding flat_map
together_placed j h x [] f l = tt
together_placed j h x (c ∷ cs) f l =
    let rest : OnceAt j h (suc x) cs = λ s i. f s (inr i) in
    let here = f (x, c) (inl refl) in
    let later = once_together j h (suc x) cs rest in
    let sum = count_append j c (together cs) in
    both (eqb (count j c) (bit (eqb x h))) (placed_from (suc x) cs j h) (eqb_T (count j c) (bit (eqb x h)) (omega (arith, here, later, sum))) (together_placed j h (suc x) cs rest (omega (arith, here, later, sum)))

-- the chains of a layout whose filled records fit
module _ (l : Layout) (w : Whole l) (fit : AllFit l.benches l.entries) where
  abbrev es : List Entry
  es = l.entries

  -- the jobs on them
  abbrev on : List ℕ
  on = together (chains l)

  -- a standing job's holder is one of the chains' numbers, and no other job's is
  holder_once : (j : ℕ) → count (holder_at es j) (range 1 (length (chains l))) ≡ bit (filled_at es j)
  holder_once j = rw (length-map l.heads (follow es (suc l.jobs)), w.heads) (holder_listed l.benches (nth es j vacant) fits)
    where
      fits : T (filled_at es j) → T (entry_fits l.benches (nth es j vacant))
      fits f = fit (nth es j vacant) (filled_in es j f) f

  module _ (own : AllOwn es 1 (chains l)) where
    -- a standing job is on the chains at most once, and no other job is on them
    own_most : (j : ℕ) → count j on ≤ bit (filled_at es j)
    own_most j = omega (arith, once_together j (holder_at es j) 1 (chains l) (λ s i. own s i j), holder_once j)

    -- "no empty record and no number above J is on a chain"
    own_stands : (j : ℕ) → In j on → T (filled_at es j)
    own_stands j i = go (filled_at es j) refl
      where
        go : (z : Bool) → filled_at es j ≡ z → T z
        go true q = tt
        go false q = omega (arith, own_most j, count_some j on i, ap bit q)

    -- .. chain by chain
    own_only : (c : List ℕ) → In c (chains l) → (j : ℕ) → In j c → T (filled_at es j)
    own_only c i j k = own_stands j (in_flat_map (λ c. c) j c (chains l) i k)

    -- the jobs on the chains, counted by their numbers
    own_total : total (length es) (λ j. count j on) ≡ length on
    own_total = total_count (length es) on (filled_each es on own_stands)

    -- no chain has more than J jobs
    own_short : (c : List ℕ) → In c (chains l) → length c ≤ l.jobs
    own_short c i =
        let r = in_enumerate 1 c (chains l) i in
        omega (arith, w.entries, own_few es r.0 c (own (r.0, c) r.1) (own_only c i))

    -- as many jobs on the chains as standing ones: every standing job is "on its holder's chain once and on no other"
    own_placed : length on ≡ length (standing_in es) → (j : ℕ) → T (filled_at es j) → T (placed (chains l) j (holder_at es j))
    own_placed e j f =
        let r = filled_within es j f in
        let q = total_tight (length es) (λ j. count j on) (λ j. bit (filled_at es j)) (λ j a b. own_most j) (own_total ∙ e ∙ standing_total 1 es) j r.0 r.1 in
        together_placed j (holder_at es j) 1 (chains l) (λ s i. own s i j) (omega (arith, q, holder_once j))

  -- on a sound table's chains are as many jobs as stand
  formed_long : Formed l → length on ≡ length (standing_in es)
  formed_long f =
      let own = formed_own l f in
      omega (arith, own_total own, total_same (length es) (λ j. count j on) (λ j. bit (filled_at es j)) (λ j a b. go own j (filled_at es j) refl), standing_total 1 es)
    where
      go : AllOwn es 1 (chains l) → (j : ℕ) (z : Bool) → filled_at es j ≡ z → count j on ≡ bit (filled_at es j)
      go own j true q = placed_together j (holder_at es j) 1 (chains l) (f.place j (true→T (filled_at es j) q)) ∙ holder_once j
      go own j false q = omega (arith, own_most own j, ap bit q)

-- the records fit and words 2 and 3 are right: the chains decide
pub walked_formed : (l : Layout) (n : ℕ) → Whole l → l.spare ≡ 0 → counted l.benches 0 l.entries ≡ Some n → l.standing ≡ n → formed l ≡ all_walked l.entries 1 l.heads (Some n)
walked_formed l n w z e c = tests_same (formed l) (all_walked es 1 l.heads (Some n)) (λ t. walks (formed_is l t), λ t. formed_back l (forms t))
  where
    es : List Entry
    es = l.entries

    seen : AllFit l.benches es × (n ≡ 0 + length (standing_in es))
    seen = counted_seen l.benches 0 1 es n e

    fit : AllFit l.benches es
    fit = seen.0

    number : length (standing_in es) ≡ n
    number = omega (arith, seen.1)

    walks : Formed l → T (all_walked es 1 l.heads (Some n))
    walks f =
        let own = formed_own l f in
        own_all_walked es 1 l.jobs l.heads n own (own_short l w fit own) (formed_long l w fit f ∙ number)

    forms : T (all_walked es 1 l.heads (Some n)) → Formed l
    forms t =
        let r = all_walked_own es 1 l.jobs l.heads n t (counted_few l n w e) in
        record {
          entry = fit;
          place = own_placed l w fit r.0 (r.1 ∙ sym number);
          only = own_only l w fit r.0;
          standing = c ∙ sym number;
          spare = z;
        }
