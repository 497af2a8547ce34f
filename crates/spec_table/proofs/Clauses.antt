-- Empty records, and the clauses of the sound table.
use Prim.Native.Nat.{ℕ, ◌≤◌}
use native.Mathlib.Omega.{arith}
use mathlib.Core.Path.{◌≡◌, refl, sym, ap, ◌∙◌, subst}
use mathlib.Core.Logic.{◌↔◌}
use mathlib.Core.Bool.{Bool, true, false, not, ◌&&◌}
use mathlib.Core.List.{List, [], ◌∷◌, ◌++◌}
use lib.Dec.{T, not_T, eqb}
use lib.ListN.{length}
use Rattle.spec_lists.specs.Lists.{within, all, Each, In, nth, enumerate}
use Rattle.spec_table.specs.Board.{names_fit}
use Rattle.spec_table.specs.Table.{words, Entry, vacant, filled, holder_in, Layout, layout, chains, standing_in, entry_fits, placed, only_standing, formed, fits, sound, entry_words}
use Rattle.spec_lists.proofs.Tests.{T→true, not_false, both, left, right, five, T-eqb, eqb_T, within_low, within_both}
use Rattle.spec_lists.proofs.Elements.{in_filter, filter_in, all_in, in_all, each_in, in_each, in_nth, nth_within, in_enumerate, in_enumerate_nth, enumerate_nth}
use Rattle.spec_table.proofs.ChainJobs.{on_chain_filled}

-- empty records

-- whether a word is zero
abbrev is_zero : ℕ → Bool
is_zero w = eqb w 0

-- the test of all words of a record is that of its names, its holder and its next job
zero_test : (names : List ℕ) (h n : ℕ) → all is_zero (names ++ (h ∷ n ∷ [])) ≡ (all is_zero names && is_zero h && is_zero n)
zero_test [] h n = go (is_zero h) (is_zero n)
  where
    go : (a b : Bool) → (a && (b && true)) ≡ (a && b)
    go true true = refl
    go true false = refl
    go false b = refl
zero_test (x ∷ names) h n = go (is_zero x) (zero_test names h n)
  where
    go : (z : Bool) → all is_zero (names ++ (h ∷ n ∷ [])) ≡ (all is_zero names && is_zero h && is_zero n) → (z && all is_zero (names ++ (h ∷ n ∷ []))) ≡ (z && all is_zero names && is_zero h && is_zero n)
    go true ih = ih
    go false ih = refl

-- "A job number that is not standing has four zero words ..
pub vacant_words : (e : Entry) → filled e ≡ false → Each (λ w. w ≡ 0) (entry_words e)
vacant_words e f =
    let t = not_false (all is_zero e.names && is_zero e.holder && is_zero e.next) f in
    in_each (λ w. w ≡ 0) (entry_words e) (λ w i. T-eqb w 0 (all_in is_zero w (entry_words e) (rw (zero_test e.names e.holder e.next) t) i))

-- .. any other record is a standing job's", and one of four zero words is none
pub zero_words : (e : Entry) → Each (λ w. w ≡ 0) (entry_words e) → filled e ≡ false
zero_words e z =
    let t = in_all is_zero (entry_words e) (λ w i. eqb_T w 0 (each_in (λ w. w ≡ 0) w (entry_words e) z i)) in
    ap not (sym (zero_test e.names e.holder e.next) ∙ T→true (all is_zero (entry_words e)) t)

-- the clauses of the sound table

-- a record that fits is filled: its holder word is not 0
pub fit_filled : (benches : ℕ) (e : Entry) → T (entry_fits benches e) → T (filled e)
fit_filled benches e f =
    let place = within 1 (length e.names) e.holder in
    let low = within_low 1 (length e.names) e.holder (right (names_fit benches e.names) place f) in
    let zeros = all (λ w. eqb w 0) e.names && eqb e.holder 0 in
    not_T (zeros && eqb e.next 0)
    (λ t. omega (arith, low, T-eqb e.holder 0 (right (all (λ w. eqb w 0) e.names) (eqb e.holder 0) (left zeros (eqb e.next 0) t))))

-- a filled record's number is one of 1 to J
pub filled_within : (es : List Entry) (j : ℕ) → T (filled (nth es j vacant)) → (1 ≤ j) × (j ≤ length es)
filled_within es j t = nth_within es j vacant (λ e. rw e at t)

-- so it is one of the records ..
pub filled_in : (es : List Entry) (j : ℕ) → T (filled (nth es j vacant)) → In (nth es j vacant) es
filled_in es j t = let w = filled_within es j t in in_nth es j vacant w.0 w.1

-- .. and the numbers of a list of standing jobs are such numbers
pub filled_each : (es : List Entry) (c : List ℕ) → ((j : ℕ) → In j c → T (filled (nth es j vacant))) → Each (λ j. T (within 1 (length es) j)) c
filled_each es c f = in_each (λ j. T (within 1 (length es) j)) c (λ j i. let r = filled_within es j (f j i) in within_both 1 (length es) j r.0 r.1)

-- the clauses of the sound table after its sizes, for each record and each chain
pub record Formed (l : Layout) : Type 0 where
  pub entry : (e : Entry) → In e l.entries → T (filled e) → T (entry_fits l.benches e)
  pub place : (j : ℕ) → T (filled (nth l.entries j vacant)) → T (placed (chains l) j (holder_in (nth l.entries j vacant)))
  pub only : (c : List ℕ) → In c (chains l) → (j : ℕ) → In j c → T (filled (nth l.entries j vacant))
  pub standing : l.standing ≡ length (standing_in l.entries)
  pub spare : l.spare ≡ 0

-- the tests of a standing job's number and record
abbrev fit_in : Layout → ℕ × Entry → Bool
fit_in l s = entry_fits l.benches s.1

abbrev placed_in : Layout → ℕ × Entry → Bool
placed_in l s = placed (chains l) s.0 (holder_in s.1)

-- a layout that passes the tests has these clauses ..
pub formed_is : (l : Layout) → T (formed l) → Formed l
unfolding formed
formed_is l t =
    let p = (five (all (fit_in l) (standing_in es)) (all (placed_in l) (standing_in es)) (all (only_standing es) (chains l)) (eqb l.standing (length (standing_in es))) (eqb l.spare 0)).0 t in
    record {
      entry = λ e i f. let r = in_enumerate 1 e es i in all_in (fit_in l) (r.0, e) (standing_in es) p.0 (in_filter full (r.0, e) (enumerate 1 es) r.1 f);
      place = here p.1;
      only = λ c i. on_chain_filled es c (all_in (only_standing es) c (chains l) p.2 i);
      standing = T-eqb l.standing (length (standing_in es)) p.3;
      spare = T-eqb l.spare 0 p.4;
    }
  where
    es : List Entry
    es = l.entries

    full : ℕ × Entry → Bool
    full s = filled s.1

    here : T (all (placed_in l) (standing_in es)) → (j : ℕ) → T (filled (nth es j vacant)) → T (placed (chains l) j (holder_in (nth es j vacant)))
    here p j f =
        let s : ℕ × Entry = (j, nth es j vacant) in
        let w = filled_within es j f in
        all_in (placed_in l) s (standing_in es) p (in_filter full s (enumerate 1 es) (in_enumerate_nth j es vacant w.0 w.1) f)

-- .. and a layout that has them passes the tests
pub formed_back : (l : Layout) → Formed l → T (formed l)
unfolding formed
formed_back l f =
    (five (all (fit_in l) (standing_in es)) (all (placed_in l) (standing_in es)) (all (only_standing es) (chains l)) (eqb l.standing (length (standing_in es))) (eqb l.spare 0)).1 (
      in_all (fit_in l) (standing_in es) (λ s i. let r = there s i in f.entry s.1 r.0 r.1),
      in_all (placed_in l) (standing_in es) (λ s i. (there s i).2),
      in_all (only_standing es) (chains l) (λ c i. in_all (λ j. filled (nth es j vacant)) c (f.only c i)),
      eqb_T l.standing (length (standing_in es)) f.standing,
      eqb_T l.spare 0 f.spare,
    )
  where
    es : List Entry
    es = l.entries

    there : (s : ℕ × Entry) → In s (standing_in es) → In s.1 es × T (filled s.1) × T (placed_in l s)
    there s i =
        let k = filter_in (λ s. filled s.1) s (enumerate 1 es) i in
        let r = enumerate_nth s es vacant k.0 in
        let p = f.place s.0 (subst (λ (e : Entry). T (filled e)) r.2 k.1) in
        (rw r.2 (in_nth es s.0 vacant r.0 r.1), k.1, rw r.2 p)

-- a sound table fits
pub sound_fits : (t : List ℕ) → T (sound t) → T (fits t)
unfolding sound
sound_fits t s = left (fits t) (formed (layout (words t))) s

-- a sound table has the clauses after its sizes
pub sound_formed : (t : List ℕ) → T (sound t) → Formed (layout (words t))
unfolding sound
sound_formed t s = formed_is (layout (words t)) (right (fits t) (formed (layout (words t))) s)

-- and these are all: a table is sound exactly if it fits and has them
pub sound_exact : (t : List ℕ) → T (sound t) ↔ (T (fits t) × Formed (layout (words t)))
unfolding sound
sound_exact t =
    (λ s. (sound_fits t s, sound_formed t s), λ p. both (fits t) (formed (layout (words t))) p.0 (formed_back (layout (words t)) p.1))
