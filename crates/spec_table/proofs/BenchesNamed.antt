-- 02, request 06: the benches that a record's words or an arrival's numbers name, each once; and the words for them.
use Prim.Native.Nat.{ℕ, zero, suc, ◌-◌, ◌≤◌}
use native.Mathlib.Omega.{arith}
use mathlib.Core.Path.{◌≡◌, refl, sym, ap, ◌∙◌}
use mathlib.Core.Logic.{inl, inr, ◌≢◌, ◌↔◌}
use mathlib.Core.Bool.{Bool, true, false, cond, not}
use mathlib.Core.List.{List, [], ◌∷◌, ◌++◌}
use lib.Dec.{T, eqb}
use lib.ListN.{length, get_or, replicate, length-append, length-replicate, get_or-append}
use native.Mathlib.Decide.{ℕ_discrete}
use borrow.Author.Tests.{eq-eqb, ne_eqb}
use Rattle.spec_lists.specs.Lists.{within, member, distinct, filter, all, Each, In, empty, nth}
use Rattle.spec_table.specs.Board.{names_fit}
use Rattle.spec_table.specs.Table.{name_words, benches_named, words_for, position_of, few_names}
use Rattle.spec_lists.proofs.Tests.{both, left, eqb_refl, T-leb}
use Rattle.spec_lists.proofs.Elements.{all_in, in_all, in_get_d, length_filter, each_append, each_replicate}
use Rattle.spec_lists.proofs.NumberLists.{distinct_head, distinct_tail, filter_distinct, not_member, others_in, others_all}

-- those other than x
abbrev others : ℕ → List ℕ → List ℕ
others x l = filter (λ y. not (eqb y x)) l

-- a bench is x or another
either_way : (x y : ℕ) (l : List ℕ) → In x (y ∷ l) ↔ In x (y ∷ others y l)
either_way x y l = (forth, back)
  where
    forth : In x (y ∷ l) → In x (y ∷ others y l)
    forth (inl e) = inl e
    forth (inr i) = elim (ℕ_discrete x y) [ yes e ↦ inl e | no d ↦ inr ((others_in y l x).1 (d, i)) ]

    back : In x (y ∷ others y l) → In x (y ∷ l)
    back (inl e) = inl e
    back (inr i) = inr ((others_in y l x).0 i).1

-- the benches named are those of the list ..
pub named_in : (x : ℕ) (l : List ℕ) → In x (benches_named l) ↔ In x l
named_in x [] = (λ i. i, λ i. i)
named_in x (y ∷ l) = go (named_in x l)
  where
    under : (k m : List ℕ) → (In x k → In x m) → In x (y ∷ k) → In x (y ∷ m)
    under k m f (inl e) = inl e
    under k m f (inr i) = inr (f i)

    go : In x (benches_named l) ↔ In x l → In x (y ∷ others y (benches_named l)) ↔ In x (y ∷ l)
    go ih =
        let named = benches_named l in
        let same = either_way x y named in
        (λ i. under named l ih.0 (same.1 i), λ i. same.0 (under l named ih.1 i))

-- .. each once ..
pub named_once : (l : List ℕ) → T (distinct (benches_named l))
named_once [] = tt
named_once (x ∷ l) =
    let rest = others x (benches_named l) in
    both (not (member x rest)) (distinct rest) (not_member x rest (λ i. ((others_in x (benches_named l) x).0 i).0 refl))
    (filter_distinct (λ y. not (eqb y x)) (benches_named l) (named_once l))

-- .. at most as many as the list is long ..
pub named_length : (l : List ℕ) → length (benches_named l) ≤ length l
named_length [] = omega arith
named_length (x ∷ l) = omega (arith, length_filter (λ y. not (eqb y x)) (benches_named l), named_length l)

-- .. and none only where there is none
pub named_some : (l : List ℕ) → empty (benches_named l) ≡ empty l
named_some [] = refl
named_some (x ∷ l) = refl

-- different numbers are the benches that they name
pub named_distinct : (l : List ℕ) → T (distinct l) → benches_named l ≡ l
named_distinct [] d = refl
named_distinct (x ∷ l) d =
    ap (λ (m : List ℕ). x ∷ others x m) (named_distinct l (distinct_tail x l d)) ∙ ap (λ (m : List ℕ). x ∷ m) (others_all x l (distinct_head x l d))

-- two different benches are two ..
pub named_two : (x y : ℕ) → x ≢ y → benches_named (x ∷ y ∷ []) ≡ x ∷ y ∷ []
named_two x y d = rw (ne_eqb y x (λ e. d (sym e))) refl

-- .. and the same one twice is one
pub named_same : (x y : ℕ) → x ≡ y → benches_named (x ∷ y ∷ []) ≡ x ∷ []
named_same x y e = rw (eq-eqb y x (sym e)) refl

-- they fit exactly if each number is one of 1 to B: equal ones do, too
pub named_fits : (benches : ℕ) (l : List ℕ) → T (names_fit benches (benches_named l)) ↔ T (all (within 1 benches) l)
named_fits benches l =
    let bench = within 1 benches in
    let named = benches_named l in (
      λ t. in_all bench l (λ x i. all_in bench x named (left (all bench named) (distinct named) t) ((named_in x l).1 i)),
      λ t. both (all bench named) (distinct named) (in_all bench named (λ x i. all_in bench x l t ((named_in x l).0 i))) (named_once l),
    )

-- the words for a job's benches

-- it does not matter which of two numbers is left out first
others_exchange : (x y : ℕ) (l : List ℕ) → others x (others y l) ≡ others y (others x l)
others_exchange x y [] = refl
others_exchange x y (z ∷ l) = go (not (eqb z x)) (not (eqb z y)) refl refl (others_exchange x y l)
  where
    go : (p q : Bool) → not (eqb z x) ≡ p → not (eqb z y) ≡ q → others x (others y l) ≡ others y (others x l) → others x (cond q (z ∷ others y l) (others y l)) ≡ others y (cond p (z ∷ others x l) (others x l))
    go true true a b e = rw (a, b) (ap (λ (m : List ℕ). z ∷ m) e)
    go true false a b e = rw b e
    go false true a b e = rw a e
    go false false a b e = e

-- the first name again is none more
named_padded : (k x : ℕ) (l : List ℕ) → (In x l → ⊥) → others x (benches_named (l ++ replicate k x)) ≡ benches_named l
named_padded k x [] n = nobody k
  where
    nobody : (k : ℕ) → others x (benches_named (replicate k x)) ≡ []
    nobody zero = refl
    nobody (suc k) = rw (eqb_refl x, nobody k)
named_padded k x (y ∷ l) n =
    let rest = benches_named (l ++ replicate k x) in
    let kept : others x (y ∷ others y rest) ≡ y ∷ others x (others y rest) = rw (ne_eqb y x (λ e. n (inl (sym e)))) refl in
    kept ∙ ap (λ (m : List ℕ). y ∷ m) (others_exchange x y rest ∙ ap (others y) (named_padded k x l (λ i. n (inr i))))

-- the words for different benches name these
pub named_words : (names : List ℕ) → T (distinct names) → benches_named (words_for names) ≡ names
named_words [] d = refl
named_words (x ∷ l) d =
    let k = name_words - length (x ∷ l) in
    ap (λ (m : List ℕ). x ∷ m) (named_padded k x l (distinct_head x l d) ∙ named_distinct l (distinct_tail x l d))

-- they are as many as a record has
pub words_long : (names : List ℕ) → T (not (empty names)) → T (few_names names) → length (words_for names) ≡ name_words
words_long [] t f = absurd t
words_long (x ∷ l) t f =
    let k = name_words - length (x ∷ l) in
    omega (arith, length-append (x ∷ l) (replicate k x), length-replicate k x, T-leb (length (x ∷ l)) name_words f)

-- what holds of each bench holds of each word
pub words_each : (P : ℕ → Type 0) (names : List ℕ) → Each P names → Each P (words_for names)
words_each P [] e = tt
words_each P (x ∷ l) e =
    let k = name_words - length (x ∷ l) in each_append P (x ∷ l) (replicate k x) e (each_replicate P k x e.0)

-- the benches come first among them
pub words_nth : (names : List ℕ) (p : ℕ) → 1 ≤ p → p ≤ length names → nth (words_for names) p 0 ≡ nth names p 0
words_nth [] p l u = refl
words_nth (x ∷ names) zero l u = refl
words_nth (x ∷ names) (suc i) l u = get_or-append (x ∷ names) (replicate (name_words - length (x ∷ names)) x) 0 i (omega arith)

-- a record's words are those for the benches that they name
pub words_named : (ws : List ℕ) → length ws ≡ name_words → words_for (benches_named ws) ≡ ws
words_named [] e = absurd (omega arith)
words_named (x ∷ []) e = absurd (omega arith)
words_named (x ∷ y ∷ []) e = elim (ℕ_discrete x y) [
  | yes q ↦ ap words_for (named_same x y q) ∙ ap (λ (z : ℕ). x ∷ z ∷ []) q
  | no d ↦ ap words_for (named_two x y d)
]
words_named (x ∷ y ∷ z ∷ ws) e = absurd (omega arith)

-- places

-- each of different numbers has its own place
pub position_nth : (l : List ℕ) (p : ℕ) → T (distinct l) → 1 ≤ p → p ≤ length l → position_of (nth l p 0) l ≡ p
position_nth [] p d l u = absurd (omega arith)
position_nth (x ∷ names) zero d l u = absurd (omega arith)
position_nth (x ∷ names) (suc zero) d l u = rw (eqb_refl x) refl
position_nth (x ∷ names) (suc (suc i)) d l u =
    let y = get_or names i 0 in
    let apart : x ≢ y = λ e. distinct_head x names d (rw e (in_get_d names i 0 (omega arith))) in
    rw (ne_eqb x y apart) (ap suc (position_nth names (suc i) (distinct_tail x names d) (omega arith) (omega arith)))
