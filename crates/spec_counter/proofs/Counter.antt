-- The counter program's lines, in the words of 01.
use Prim.Native.Nat.{ℕ, zero, suc, ◌*◌, ◌^◌, ◌≤◌, ◌<◌}
use Prim.Native.Char.{code}
use native.Mathlib.Omega.{arith}
use mathlib.Core.Path.{◌≡◌, refl, sym, ap, ap₂, subst, ◌∙◌}
use mathlib.Core.Logic.{◌⊎◌, inl, inr, ◌≢◌, ◌↔◌}
use mathlib.Core.Bool.{Bool, true, false, cond, ◌&&◌}
use mathlib.Core.List.{List, [], ◌∷◌, ◌++◌, map, flat_map, append-nil}
use mathlib.Core.Option.{Option, none, some, some-injective, none-ne-some}
use lib.Dec.{T, eqb, leb}
use lib.ListN.{length, get_or, length-append}
use borrow.Author.Tests.{le-leb, ne_eqb}
use Rattle.spec_lists.specs.Lists.{all, Each}
use Rattle.spec_table.specs.Table.{most_benches}
use Rattle.spec_text.specs.Numbers.{space, digit, digits, number}
use Rattle.spec_counter.specs.Counter.{Counter, Command, set_table, take_in, close_job, ask_tight_set, ask_heaviest, onto, pieces, numbers, joined, command_for, fields_command, command, letter_of, numbers_of, printed, prints, counter_list}
use Rattle.spec_text.specs.Text.{text}
use Rattle.spec_lists.proofs.Tests.{left, right, Compared, same, other, compared, within_low}
use Rattle.spec_lists.proofs.Elements.{each_map}
use Rattle.spec_text.proofs.Numbers.{is_none, written, number_exact, digits_short}

-- the fields of numbers as they are printed
abbrev fields_of : List ℕ → List (List ℕ)
fields_of ns = map (λ n. digits n n) ns

numbers_are : (fs : List (List ℕ)) (ns : List ℕ) → numbers fs ≡ some ns → Each (λ n. n < 2 ^ 16) ns × (fs ≡ fields_of ns)
numbers_are [] ns e = subst (λ (ns : List ℕ). Each (λ n. n < 2 ^ 16) ns × ([] ≡ fields_of ns)) (some-injective [] ns e) (tt, refl)
numbers_are (f ∷ fs) ns e = go (number f) (numbers fs) refl (λ ms q. numbers_are fs ms q) e
  where
    Goal : List ℕ → Type 0
    Goal ns = Each (λ n. n < 2 ^ 16) ns × (f ∷ fs ≡ fields_of ns)

    go : (a : Option ℕ) (r : Option (List ℕ)) → number f ≡ a → ((ms : List ℕ) → r ≡ some ms → Each (λ n. n < 2 ^ 16) ms × (fs ≡ fields_of ms)) → joined a r ≡ some ns → Goal ns
    go none r p ih e = absurd (none-ne-some ns e)
    go (some n) none p ih e = absurd (none-ne-some ns e)
    go (some n) (some ms) p ih e =
        let one = (number_exact f n).0 p in
        let rest = ih ms refl in
        subst Goal (some-injective (n ∷ ms) ns e) ((one.0, rest.0), ap₂ (λ (g : List ℕ) (gs : List (List ℕ)). g ∷ gs) one.1 rest.1)

are_numbers : (ns : List ℕ) → Each (λ n. n < 2 ^ 16) ns → numbers (fields_of ns) ≡ some ns
are_numbers [] h = refl
are_numbers (n ∷ ns) h = rw ((number_exact (digits n n) n).1 (h.0, refl), are_numbers ns h.1)

-- lines

-- fields behind the first, a space before each
abbrev spaced : List (List ℕ) → List ℕ
spaced [] = []
spaced (f ∷ fs) = space ∷ f ++ spaced fs

spaced_numbers : (ns : List ℕ) → spaced (fields_of ns) ≡ flat_map (λ n. space ∷ digits n n) ns
unfolding flat_map
spaced_numbers [] = refl
spaced_numbers (n ∷ ns) = ap (λ (l : List ℕ). space ∷ digits n n ++ l) (spaced_numbers ns)

-- a line is its fields with one space between
cut_line : (line : List ℕ) → (f : List ℕ) × (fs : List (List ℕ)) × (pieces space line ≡ f ∷ fs) × (line ≡ f ++ spaced fs)
cut_line [] = ([], [], refl, refl)
cut_line (c ∷ l) = let r = cut_line l in go r.0 r.1 r.2 r.3 (compared c space)
  where
    go : (f : List ℕ) (fs : List (List ℕ)) → pieces space l ≡ f ∷ fs → l ≡ f ++ spaced fs → {z : Bool} → Compared c space z → (g : List ℕ) × (gs : List (List ℕ)) × (cond z ([] ∷ pieces space l) (onto c (pieces space l)) ≡ g ∷ gs) × (c ∷ l ≡ g ++ spaced gs)
    go f fs p e (same d) = ([], f ∷ fs, ap (λ (r : List (List ℕ)). [] ∷ r) p, ap₂ (λ (b : ℕ) (k : List ℕ). b ∷ k) d e)
    go f fs p e (other d) = (c ∷ f, fs, ap (onto c) p, ap (λ (k : List ℕ). c ∷ k) e)

-- what stands before a piece joins it
pub before_piece : (sep : ℕ) (f l g : List ℕ) (fs : List (List ℕ)) → Each (λ c. c ≢ sep) f → pieces sep l ≡ g ∷ fs → pieces sep (f ++ l) ≡ (f ++ g) ∷ fs
before_piece sep [] l g fs h e = e
before_piece sep (c ∷ f) l g fs h e = rw (ne_eqb c sep h.0, before_piece sep f l g fs h.1 e)

-- fields before a separator
before_sep : (sep : ℕ) (f l : List ℕ) (fs : List (List ℕ)) → Each (λ c. c ≢ sep) f → pieces sep l ≡ [] ∷ fs → pieces sep (f ++ l) ≡ f ∷ fs
before_sep sep f l fs h e = before_piece sep f l [] fs h e ∙ ap (λ (g : List ℕ). g ∷ fs) (append-nil f)

-- fields without a space are found again
spaced_again : (fs : List (List ℕ)) → Each (Each (λ c. c ≢ space)) fs → pieces space (spaced fs) ≡ [] ∷ fs
spaced_again [] h = refl
spaced_again (f ∷ fs) h = ap (λ (r : List (List ℕ)). [] ∷ r) (before_sep space f (spaced fs) fs h.0 (spaced_again fs h.1))

no_space : (l : List ℕ) → T (all digit l) → Each (λ c. c ≢ space) l
no_space [] t = tt
no_space (c ∷ l) t =
    let low = within_low (code "0") (code "9") c (left (digit c) (all digit l) t) in
    (λ e. omega arith, no_space l (right (digit c) (all digit l) t))

-- n elements from place i on, counted from 0
abbrev places : ℕ → ℕ → List ℕ → List ℕ
places i zero l = []
places i (suc n) l = get_or l i 0 ∷ places (suc i) n l

places_behind : (i n x : ℕ) (l : List ℕ) → places (suc i) n (x ∷ l) ≡ places i n l
places_behind i zero x l = refl
places_behind i (suc n) x l = ap (λ (r : List ℕ). get_or l i 0 ∷ r) (places_behind (suc i) n x l)

places_all : (n : ℕ) (l : List ℕ) → length l ≡ n → l ≡ places 0 n l
places_all zero [] e = refl
places_all zero (x ∷ l) e = absurd (omega arith)
places_all (suc n) [] e = absurd (omega arith)
places_all (suc n) (x ∷ l) e = ap (λ (r : List ℕ). x ∷ r) (places_all n l (omega arith) ∙ sym (places_behind 0 n x l))

-- a letter with its numbers, or the letters after it
letter_or : (letter : ℕ) (ns : List ℕ) (b n : ℕ) (d c : Command) (rest : Option Command) → cond (eqb letter b && eqb (length ns) n) (some d) rest ≡ some c → ((letter ≡ b) × (ns ≡ places 0 n ns) × (d ≡ c)) ⊎ (rest ≡ some c)
letter_or letter ns b n d c rest e = go (compared letter b) (compared (length ns) n) e
  where
    go : {y z : Bool} → Compared letter b y → Compared (length ns) n z → cond (y && z) (some d) rest ≡ some c → ((letter ≡ b) × (ns ≡ places 0 n ns) × (d ≡ c)) ⊎ (rest ≡ some c)
    go (same p) (same q) e = inl (p, places_all n ns q, some-injective d c e)
    go (same p) (other q) e = inr e
    go (other p) (same q) e = inr e
    go (other p) (other q) e = inr e

command_is : (letter : ℕ) (ns : List ℕ) (c : Command) → command_for letter ns ≡ some c → (letter ≡ letter_of c) × (ns ≡ numbers_of c)
unfolding command_for
command_is letter ns c e =
    elim (letter_or letter ns (code "B") 2 _ c _ e) [
      | inl p ↦ at p
      | inr e ↦ elim (letter_or letter ns (code "A") 3 _ c _ e) [
        | inl p ↦ at p
        | inr e ↦ elim (letter_or letter ns (code "D") 1 _ c _ e) [
          | inl p ↦ at p
          | inr e ↦ elim (letter_or letter ns (code "S") 1 _ c _ e) [
            | inl p ↦ at p
            | inr e ↦ elim (letter_or letter ns (code "H") 0 _ c _ e) [ inl p ↦ at p | inr e ↦ absurd (none-ne-some c e) ]
          ]
        ]
      ]
    ]
  where
    at : {d : Command} → (letter ≡ letter_of d) × (ns ≡ numbers_of d) × (d ≡ c) → (letter ≡ letter_of c) × (ns ≡ numbers_of c)
    at p = subst (λ (c : Command). (letter ≡ letter_of c) × (ns ≡ numbers_of c)) p.2 (p.0, p.1)

is_command : (c : Command) → command_for (letter_of c) (numbers_of c) ≡ some c
unfolding command_for
is_command (set_table benches jobs) = refl
is_command (take_in j x y) = refl
is_command (close_job j) = refl
is_command (ask_tight_set h) = refl
is_command ask_heaviest = refl

fields_are : (f : List ℕ) (fs : List (List ℕ)) (c : Command) → fields_command (f ∷ fs) ≡ some c → (f ≡ letter_of c ∷ []) × (fs ≡ fields_of (numbers_of c)) × Each (λ n. n < 2 ^ 16) (numbers_of c)
fields_are [] fs c e = absurd (none-ne-some c e)
fields_are (letter ∷ b ∷ l) fs c e = absurd (none-ne-some c e)
fields_are (letter ∷ []) fs c e = go (numbers fs) refl e
  where
    go : (r : Option (List ℕ)) → numbers fs ≡ r → elim r [ none ↦ none | some ns ↦ command_for letter ns ] ≡ some c → (letter ∷ [] ≡ letter_of c ∷ []) × (fs ≡ fields_of (numbers_of c)) × Each (λ n. n < 2 ^ 16) (numbers_of c)
    go none q d = absurd (none-ne-some c d)
    go (some ns) q d =
        let is = command_is letter ns c d in
        let r = numbers_are fs ns q in
        (ap (λ (i : ℕ). i ∷ []) is.0, r.1 ∙ ap fields_of is.1, subst (Each (λ (n : ℕ). n < 2 ^ 16)) is.1 r.0)

spaced_short : (ns : List ℕ) → Each (λ n. n < 2 ^ 16) ns → length (spaced (fields_of ns)) ≤ 6 * length ns
spaced_short [] h = omega arith
spaced_short (n ∷ ns) h = let small = h.0 in omega (arith, length-append (digits n n) (spaced (fields_of ns)), digits_short 4 n n (omega arith), spaced_short ns h.1)

-- a letter and three numbers of at most five digits
line_short : (c : Command) → Each (λ n. n < 2 ^ 16) (numbers_of c) → length (letter_of c ∷ spaced (fields_of (numbers_of c))) ≤ 19
line_short c h = omega (arith, spaced_short (numbers_of c) h, few c)
  where
    few : (c : Command) → length (numbers_of c) ≤ 3
    few (set_table benches jobs) = omega arith
    few (take_in j x y) = omega arith
    few (close_job j) = omega arith
    few (ask_tight_set h) = omega arith
    few ask_heaviest = omega arith

-- a readable line, by its fields
command_fields : (line : List ℕ) (c : Command) → (command line ≡ some c) ↔ (Each (λ n. n < 2 ^ 16) (numbers_of c) × (line ≡ letter_of c ∷ spaced (fields_of (numbers_of c))))
unfolding command
command_fields line c = (forth (leb (length line) 40), λ p. ap command p.1 ∙ back p.0)
  where
    forth : (z : Bool) → cond z (fields_command (pieces space line)) none ≡ some c → Each (λ n. n < 2 ^ 16) (numbers_of c) × (line ≡ letter_of c ∷ spaced (fields_of (numbers_of c)))
    forth true e =
        let r = cut_line line in
        let a = fields_are r.0 r.1 c (ap fields_command (sym r.2) ∙ e) in
        (a.2, r.3 ∙ ap₂ (λ (f : List ℕ) (fs : List (List ℕ)). f ++ spaced fs) a.0 a.1)
    forth false e = absurd (none-ne-some c e)

    letter : (c : Command) → letter_of c ≢ space
    letter (set_table benches jobs) e = omega arith
    letter (take_in j x y) e = omega arith
    letter (close_job j) e = omega arith
    letter (ask_tight_set h) e = omega arith
    letter ask_heaviest e = omega arith

    back : Each (λ n. n < 2 ^ 16) (numbers_of c) → command (letter_of c ∷ spaced (fields_of (numbers_of c))) ≡ some c
    back h =
        let ns = numbers_of c in
        let fs = fields_of ns in
        let without = each_map (Each (λ (c : ℕ). c ≢ space)) (λ (n : ℕ). digits n n) ns (λ n i. no_space (digits n n) (written n n (omega arith)).only) in
        let again = before_sep space (letter_of c ∷ []) (spaced fs) fs (letter c, tt) (spaced_again fs without) in
        let short = line_short c h in
        rw (le-leb (length (letter_of c ∷ spaced fs)) 40 (omega arith), again) (rw (fields_command, are_numbers ns h) (is_command c))

-- a line is readable exactly if it is a command's letter and its numbers, one space between; such a line has at most 19 bytes
pub command_exact : (line : List ℕ) (c : Command) → (command line ≡ some c) ↔ (Each (λ n. n < 2 ^ 16) (numbers_of c) × (line ≡ letter_of c ∷ flat_map (λ n. space ∷ digits n n) (numbers_of c)))
command_exact line c =
    let e = ap (λ (l : List ℕ). letter_of c ∷ l) (spaced_numbers (numbers_of c)) in
    let r = command_fields line c in
    (λ d. let p = r.0 d in (p.0, p.1 ∙ e), λ p. r.1 (p.0, p.1 ∙ sym e))

-- "at most 40 bytes before the line feed": a readable line has 19 at most, so the limit never shows
pub readable_short : (line : List ℕ) (c : Command) → command line ≡ some c → length line ≤ 19
readable_short line c e = let r = (command_fields line c).0 e in omega (arith, ap length r.1, line_short c r.0)

-- "at most 40 bytes before the line feed"
pub long_unreadable : (line : List ℕ) → 40 < length line → command line ≡ none
long_unreadable line h = is_none (command line) (λ c e. omega (arith, readable_short line c e))

-- "a last line without a line feed, gives 10"
pub last_line : (s : Counter) (c : ℕ) (l : List ℕ) → prints s ((c ∷ l) ∷ []) ≡ text "R 10\n"
unfolding prints printed flat_map
last_line s c l = refl

-- and nothing after the last line feed is no line
pub no_line : (s : Counter) → prints s ([] ∷ []) ≡ []
unfolding prints
no_line s = refl

-- "Its list has 1,000 bytes": a word for each of the most benches
pub list_holds_all : length counter_list ≡ 2 * most_benches
list_holds_all = refl
