-- The input as it comes in: what is printed does not depend on where it is cut.
use Prim.Native.Nat.{ℕ, ◌<◌}
use native.Mathlib.Omega.{arith}
use mathlib.Core.Path.{◌≡◌, refl, sym, ap, ◌∙◌}
use mathlib.Core.Logic.{◌≢◌}
use mathlib.Core.Bool.{Bool, true, false, cond}
use mathlib.Core.List.{List, [], ◌∷◌, ◌++◌, append_assoc, append-nil, flat_map}
use mathlib.Core.Option.{Option, none, some}
use lib.Dec.{eqb}
use lib.ListN.{length, length-append}
use Rattle.spec_text.specs.Numbers.{line_feed}
use Rattle.spec_counter.specs.Counter.{Counter, Command, pieces, onto, command, line_for, done, after, unreadable_line, prints, counter}
use Rattle.spec_counter.specs.Stream.{line_text, line_after, Place, beginning, Unended, output_from, Consumes, ConsumesAll, ended, then, at_end}
use Rattle.spec_counter.proofs.Counter.{before_piece, long_unreadable}
use Rattle.spec_counter.proofs.CounterRun.{unreadable_line_lem}

-- a list has a first piece
first_piece : (sep : ℕ) (l : List ℕ) → (g : List ℕ) × (gs : List (List ℕ)) × (pieces sep l ≡ g ∷ gs)
first_piece sep [] = ([], [], refl)
first_piece sep (c ∷ l) = go (eqb c sep) (first_piece sep l)
  where
    go : (z : Bool) → (g : List ℕ) × (gs : List (List ℕ)) × (pieces sep l ≡ g ∷ gs) → (g : List ℕ) × (gs : List (List ℕ)) × (cond z ([] ∷ pieces sep l) (onto c (pieces sep l)) ≡ g ∷ gs)
    go true r = ([], pieces sep l, refl)
    go false r = (c ∷ r.0, r.1, ap (onto c) r.2)

-- a line that is complete is answered, and the rest is read in the state after it
prints_line : (s : Counter) (line piece : List ℕ) (rest : List (List ℕ)) → prints s (line ∷ piece ∷ rest) ≡ line_text s line ++ prints (line_after s line) (piece ∷ rest)
unfolding prints line_text line_after
prints_line s line piece rest = go (command line)
  where
    go : (r : Option Command) → elim r [ none ↦ unreadable_line ++ prints s (piece ∷ rest) | some c ↦ let o = done c s.table in line_for c o ++ prints (after c s o) (piece ∷ rest) ] ≡ elim r [ none ↦ unreadable_line | some c ↦ line_for c (done c s.table) ] ++ prints (elim r [ none ↦ s | some c ↦ after c s (done c s.table) ]) (piece ∷ rest)
    go none = refl
    go (some c) = refl

-- a line feed ends the line
pub consumes_line : (s : Counter) (line : List ℕ) → Unended line → Consumes (record { counter = s; line = line }) (record { counter = line_after s line; line = [] }) (line_feed ∷ []) (line_text s line)
unfolding output_from
consumes_line s line u = record { whole = λ rest. let r = first_piece line_feed rest in rw (before_piece line_feed line (line_feed ∷ rest) [] (pieces line_feed rest) u refl, append-nil line, r.2) (prints_line s line r.0 r.1) }

-- another byte belongs to it
pub consumes_byte : (s : Counter) (line : List ℕ) (c : ℕ) → Consumes (record { counter = s; line = line }) (record { counter = s; line = line ++ (c ∷ []) }) (c ∷ []) []
unfolding output_from
consumes_byte s line c = record { whole = λ rest. ap (λ (l : List ℕ). prints s (pieces line_feed l)) (sym (append_assoc line (c ∷ []) rest)) }

-- a line of more than 40 bytes stays unreadable, so a further byte changes nothing
pub consumes_past : (s : Counter) (line : List ℕ) (c : ℕ) → Unended line → 40 < length line → c ≢ line_feed → Consumes (record { counter = s; line = line }) (record { counter = s; line = line }) (c ∷ []) []
unfolding output_from prints
consumes_past s line c u long n = record { whole = λ rest. go rest (first_piece line_feed rest) }
  where
    Rest : List ℕ → Type 0
    Rest rest = (g : List ℕ) × (gs : List (List ℕ)) × (pieces line_feed rest ≡ g ∷ gs)

    -- whatever follows such a line
    same : (g g' : List ℕ) (gs : List (List ℕ)) → prints s ((line ++ g) ∷ gs) ≡ prints s ((line ++ g') ∷ gs)
    same g g' [] = ends line long
      where
        ends : (l : List ℕ) → 40 < length l → prints s ((l ++ g) ∷ []) ≡ prints s ((l ++ g') ∷ [])
        ends [] h = absurd (omega arith)
        ends (b ∷ l) h = refl
    same g g' (piece ∷ gs) =
        let none_of : (k : List ℕ) → command (line ++ k) ≡ none = λ k. long_unreadable (line ++ k) (omega (arith, long, length-append line k)) in
        unreadable_line_lem s (line ++ g) piece gs (none_of g) ∙ sym (unreadable_line_lem s (line ++ g') piece gs (none_of g'))

    go : (rest : List ℕ) → Rest rest → prints s (pieces line_feed (line ++ c ∷ rest)) ≡ prints s (pieces line_feed (line ++ rest))
    go rest r =
        let a = before_piece line_feed line rest r.0 r.1 u r.2 in
        let b = before_piece line_feed line (c ∷ rest) (c ∷ r.0) r.1 u (before_piece line_feed (c ∷ []) rest r.0 r.1 (n, tt) r.2) in
        ap (prints s) b ∙ same (c ∷ r.0) r.0 r.1 ∙ ap (prints s) (sym a)

-- the input ends
pub output_end : (p : Place) → Unended p.line → output_from p [] ≡ at_end p.line
unfolding output_from prints
output_end p u = ap (prints p.counter) (before_piece line_feed p.line [] [] [] u refl ∙ ap (λ (l : List ℕ). l ∷ []) (append-nil p.line))

-- bytes read one after the other
pub consumes_then : {a b c : Place} {h t k u : List ℕ} → Consumes a b h t → Consumes b c k u → Consumes a c (h ++ k) (t ++ u)
consumes_then {a} {b} {c} {h} {t} {k} {u} g f = record { whole = λ rest. ap (output_from a) (append_assoc h k rest) ∙ g.whole (k ++ rest) ∙ ap (λ (l : List ℕ). t ++ l) (f.whole rest) ∙ sym (append_assoc t u (output_from c rest)) }

-- nothing read, nothing printed
pub goes_none : (a : Place) → Consumes a a [] []
goes_none a = record { whole = λ rest. refl }

-- lists put together
abbrev pub joint : List (List ℕ) → List ℕ
joint ls = flat_map (λ l. l) ls

run_consumes : {b a : Place} {inputs texts : List (List ℕ)} → ConsumesAll b a inputs texts → Consumes a b (joint inputs) (joint texts)
unfolding flat_map
run_consumes {b} {a} ended = goes_none b
run_consumes (then g r) = consumes_then g (run_consumes r)

-- however the input is cut into pieces, what is printed for them and at the end is what the whole input prints
pub however_cut : (b : Place) (inputs texts : List (List ℕ)) → ConsumesAll b beginning inputs texts → Unended b.line → joint texts ++ at_end b.line ≡ counter (joint inputs)
unfolding output_from counter
however_cut b inputs texts r u =
    ap (λ (l : List ℕ). joint texts ++ l) (sym (output_end b u)) ∙ sym ((run_consumes r).whole []) ∙ ap (λ (l : List ℕ). counter l) (append-nil (joint inputs))
