-- Demand 3: one claim over every list of calls.
use Prim.Native.Nat.{ℕ, zero, suc, ◌≤◌}
use mathlib.Core.Path.{◌≡◌, refl, sym, ap, subst, ◌∙◌}
use mathlib.Core.Logic.{◌⊎◌, inl, inr}
use mathlib.Core.Bool.{Bool, true, not, ◌||◌, false≢true}
use mathlib.Core.List.{List, [], ◌∷◌}
use lib.Dec.{T}
use lib.ListN.{length, get_or, replicate}
use Rattle.spec_table.specs.Board.{Board, Valid, holder_of, stands, Shares, excess, names_fit}
use Rattle.spec_lists.specs.Lists.{empty}
use Rattle.spec_table.specs.Table.{words, layout, sizes_fit, length_for, sound, decode, all_rise}
use Rattle.spec_pair.specs.Pair.{records_read, lowest_between}
use Rattle.spec_sharing.specs.Sharing.{close, level, Levelled, relevel}
use Rattle.spec_calls.specs.Answers.{Answer, Outcome, is_refused, said}
use Rattle.spec_calls.specs.Calls.{Arriving, Closing, Call, arrival, closing, levelling, ask, between, is_question, between_fact, blanking, outcome, arrival_outcome, closing_outcome, levelling_outcome}
use Rattle.spec_sharing.specs.Demand2.{Demand2}
use Rattle.spec_calls.specs.JobBook.{Book, entered, refused_each, once_in_order, table_after, OneLoad, Runs, AsDefined, Start, fromBlank, from_level, Claim, Demand3}
use Rattle.spec_lists.proofs.Tests.{true→T}
use Rattle.spec_sharing.proofs.Paths.{jobless_level}
use Rattle.spec_table.proofs.Places.{sized}
use Rattle.spec_table.proofs.Sound.{sound_storable}
use Rattle.spec_calls.proofs.Blanking.{blanking_blank, empty_board, storable_empty, blank_sound, blank_decodes}
use Rattle.spec_calls.proofs.JobBook.{refused_enters, question_enters}
use Rattle.spec_sharing.proofs.Levels.{level_least, level_demand2}
use Rattle.spec_sharing.proofs.KeepsLevel.{arrival_keeps_level, closing_keeps_level}
use Rattle.spec_sharing.proofs.Levelling.{level_rests}
use Rattle.spec_calls.proofs.ChangedTables.{run_rises, run_fixed}
use Rattle.spec_calls.proofs.Pairs.{between_everything}
use Rattle.spec_calls.proofs.Outcomes.{WritesBoard, namable_some, namable_fit, arrive_on, AcceptedArrival, AcceptedClosing, Relevelled, Left, by_call}

-- what a call leaves of a sound level table: such a table again, its jobs as the book has them, one load changed as the answer says
record Carried (c : Call) (t : List ℕ) (o : Outcome) : Type 0 where
  form : T (sound o.table)
  flat : T (level (decode o.table))
  benches : (decode o.table).benches ≡ (decode t).benches
  book : (decode o.table).named ≡ entered c (is_refused o.answer) (decode t).named
  one_load : OneLoad c o.answer (decode t) (decode o.table)

-- it is enough to know the answer and the board that is written
carried_as : (c : Call) (t : List ℕ) (o : Outcome) (a : Answer) (d : Board) → o.answer ≡ a → WritesBoard o.table d → T (level d) → d.benches ≡ (decode t).benches → d.named ≡ entered c (is_refused a) (decode t).named → OneLoad c a (decode t) d → Carried c t o
carried_as c t o a d e w l b n one =
    record {
      form = w.sound;
      flat = subst (λ (d : Board). T (level d)) (sym w.board) l;
      benches = ap (λ (d : Board). d.benches) w.board ∙ b;
      book = ap (λ (d : Board). d.named) w.board ∙ n ∙ ap (λ (a : Answer). entered c (is_refused a) (decode t).named) (sym e);
      one_load = subst (λ (a : Answer). OneLoad c a (decode t) (decode o.table)) (sym e) (subst (OneLoad c a (decode t)) (sym w.board) one);
    }

-- a refused call and a question change no load, and nothing in the book
idle_load : (c : Call) (a : Answer) (b d : Board) → (is_refused a ≡ true) ⊎ T (is_question c) → OneLoad c a b d
idle_load (arrival k) a b d (inl r) = λ n. absurd (false≢true (sym n ∙ r))
idle_load (arrival k) a b d (inr q) = absurd q
idle_load (closing k) a b d (inl r) = λ n. absurd (false≢true (sym n ∙ r))
idle_load (closing k) a b d (inr q) = absurd q
idle_load (levelling allowance) a b d i = tt
idle_load (ask q lent) a b d i = tt
idle_load (between x y) a b d i = tt

idle_enters : (c : Call) (a : Answer) (k : Book) → (is_refused a ≡ true) ⊎ T (is_question c) → entered c (is_refused a) k ≡ k
idle_enters c a k (inl r) = ap (λ (z : Bool). entered c z k) r ∙ refused_enters c k
idle_enters c a k (inr q) = question_enters c q (is_refused a) k

module _ (t : List ℕ) (s : T (sound t)) (l : T (level (decode t))) where
  v : Valid (decode t)
  v = (sound_storable t s).valid

  carried_arrival : (k : Arriving) → AcceptedArrival t k (arrive_on t k) → Carried (arrival k) t (outcome (arrival k) t)
  unfolding arrival_outcome
  carried_arrival k a =
      let c = arrive_on t k in
      let m = a.may in
      carried_as (arrival k) t (outcome (arrival k) t) (arrival_outcome k c).answer c.board (ap (λ o. o.answer) a.is) a.writes
      (arrival_keeps_level (decode t) v l k.job k.given m.number m.free (namable_some (decode t) k.given m.fit) (namable_fit (decode t) k.given m.fit))
      a.does.benches a.does.named (λ n. (holder_of c.board k.job, c.bench, length c.moved, refl, a.rose))

  carried_closing : (k : Closing) → AcceptedClosing t k (close (decode t) k.job) → Carried (closing k) t (outcome (closing k) t)
  unfolding closing_outcome
  carried_closing k a =
      let c = close (decode t) k.job in
      carried_as (closing k) t (outcome (closing k) t) (closing_outcome k c).answer c.board (ap (λ o. o.answer) a.is) a.writes
      (closing_keeps_level (decode t) v l k.job a.stood) a.does.benches a.does.named (λ n. (c.bench, length c.moved, refl, a.fell))

  -- a levelling finds nothing to turn
  carried_levelling : (allowance : ℕ) → Relevelled t allowance (relevel allowance (decode t)) → Carried (levelling allowance) t (outcome (levelling allowance) t)
  carried_levelling allowance a =
      let r = relevel allowance (decode t) in
      let e = ap (λ (q : Levelled). q.board) (level_rests allowance (decode t) l) in
      carried_as (levelling allowance) t (outcome (levelling allowance) t) (levelling_outcome r).answer r.board (ap (λ o. o.answer) a.is) a.writes
      (subst (λ (d : Board). T (level d)) (sym e) l) a.does.report.benches a.does.report.jobs tt

  carried_left : (c : Call) → Left t c (outcome c t) → Carried c t (outcome c t)
  carried_left c a =
      let o = outcome c t in
      let w : WritesBoard o.table (decode t) = subst (λ (u : List ℕ). WritesBoard u (decode t)) (sym a.table) (record { sound = s; board = refl }) in
      carried_as c t o o.answer (decode t) refl w l refl (sym (idle_enters c o.answer (decode t).named a.idle)) (idle_load c o.answer (decode t) (decode t) a.idle)

  carried : (c : Call) → Carried c t (outcome c t)
  carried = by_call t s (λ c. Carried c t (outcome c t)) carried_arrival carried_closing carried_levelling carried_left

-- what a whole list of calls leaves: the claim, and a sound level table again
record Ended (t : List ℕ) (k : Book) (cs : List Call) (os : List Outcome) : Type 0 where
  claim : Claim t k cs os
  form : T (sound (table_after t os))
  flat : T (level (decode (table_after t os)))

-- from any sound level table, by one call after another
ended : (t : List ℕ) (k : Book) → T (sound t) → T (level (decode t)) → (decode t).named ≡ k → (cs : List Call) (os : List Outcome) → Runs AsDefined t cs os → Ended t k cs os
ended t k s l e [] [] r =
    let v = (sound_storable t s).valid in
    record {
      claim = record {
        benches = refl;
        book = e;
        shares = subst (λ (named : Book). Shares named (decode t).holders) e v.shares;
        least = λ h holders m. level_least (decode t) v l h holders (subst (λ (named : Book). Shares named holders) (sym e) m);
        one_load = tt;
        rising = run_rises t [] [] r;
        fixed = run_fixed t [] [] r;
        answered = tt;
      };
      form = s;
      flat = l;
    }
ended t k s l e [] (o ∷ os) r = absurd r
ended t k s l e (c ∷ cs) [] r = absurd r
ended t k s l e (c ∷ cs) (o ∷ os) r =
    let d = subst (Carried c t) (sym r.0) (carried t s l c) in
    let i = ended o.table (entered c (is_refused o.answer) k) d.form d.flat (d.book ∙ ap (entered c (is_refused o.answer)) e) cs os r.1 in
    let j = i.claim in
    record {
      claim = record {
        benches = j.benches ∙ d.benches;
        book = j.book;
        shares = j.shares;
        least = λ h holders m. subst (λ (n : ℕ). excess n (decode (table_after o.table os)).holders h ≤ excess n holders h) d.benches (j.least h holders m);
        one_load = (d.one_load, j.one_load);
        rising = run_rises t (c ∷ cs) (o ∷ os) r;
        fixed = run_fixed t (c ∷ cs) (o ∷ os) r;
        answered = r;
      };
      form = i.form;
      flat = i.flat;
    }

-- whatever does the calls as they are defined makes a run of the definition
pub runs_defined : (Does : Call → List ℕ → Outcome → Type 0) → ((c : Call) (t : List ℕ) (o : Outcome) → Does c t o → AsDefined c t o) → (t : List ℕ) (cs : List Call) (os : List Outcome) → Runs Does t cs os → Runs AsDefined t cs os
runs_defined Does meets t [] [] r = tt
runs_defined Does meets t [] (o ∷ os) r = absurd r
runs_defined Does meets t (c ∷ cs) [] r = absurd r
runs_defined Does meets t (c ∷ cs) (o ∷ os) r = (meets c t o r.0, runs_defined Does meets o.table cs os r.1)

-- a board without jobs is level
pub empty_level : (benches jobs : ℕ) → Valid (empty_board benches jobs) → T (level (empty_board benches jobs))
empty_level benches jobs v = jobless_level (empty_board benches jobs) v (λ j t. none j t)
  where
    nothing : (n i : ℕ) → get_or {A = List ℕ} (replicate n []) i [] ≡ []
    nothing zero i = refl
    nothing (suc n) zero = refl
    nothing (suc n) (suc i) = nothing n i

    none : (j : ℕ) → T (stands (empty_board benches jobs) j) → ⊥
    none zero t = t
    none (suc i) t = subst (λ (l : List ℕ). T (not (empty l))) (nothing jobs i) t

-- every start is a sound level table, and the book has its jobs
started : (t : List ℕ) (k : Book) → Start t k → T (sound t) × T (level (decode t)) × ((decode t).named ≡ k)
started t k (fromBlank benches jobs e) =
    let z = sized (length_for benches jobs) benches jobs (true→T (sizes_fit (length_for benches jobs) benches jobs) e) in
    let d = blank_decodes benches jobs z.benches_within z.jobs_within in
    let v = (storable_empty benches jobs z.benches_within z.jobs_within).valid in
    (blank_sound benches jobs z.benches_within z.jobs_within, subst (λ (b : Board). T (level b)) (sym d) (empty_level benches jobs v), ap (λ (b : Board). b.named) d)
started t k (from_level u s l) = (true→T (sound u) s, true→T (level (decode u)) l, refl)

-- what blanking leaves is such a start, whatever the bytes were
pub blanking_starts : (benches jobs : ℕ) (t : List ℕ) → sizes_fit (length t) benches jobs ≡ true → Start (blanking benches jobs t).table (replicate jobs [])
blanking_starts benches jobs t e =
    let b = blanking_blank benches jobs t e in
    subst (λ (u : List ℕ). Start u (replicate jobs [])) (sym b.0) (fromBlank benches jobs b.1)

-- so every list of calls from a start ends
from_start : (t : List ℕ) (k : Book) → Start t k → (cs : List Call) (os : List Outcome) → Runs AsDefined t cs os → Ended t k cs os
from_start t k start = let s = started t k start in ended t k s.0 s.1 s.2

-- demand 3, whole
pub demand_3 : Demand3
demand_3 Does meets t k start cs os r = (from_start t k start cs os (runs_defined Does meets t cs os r)).claim

-- after every list of calls the table is sound and level ..
pub level_after : (t : List ℕ) (k : Book) → Start t k → (cs : List Call) (os : List Outcome) → Runs AsDefined t cs os → T (sound (table_after t os)) × T (level (decode (table_after t os)))
level_after t k start cs os r = let e = from_start t k start cs os r in (e.form, e.flat)

-- .. and demand 2 holds of it: its heaviest load is least, and its tight set proves it
pub demand_2_after : (t : List ℕ) (k : Book) → Start t k → (cs : List Call) (os : List Outcome) → Runs AsDefined t cs os → Demand2 (decode (table_after t os))
demand_2_after t k start cs os r =
    let e = level_after t k start cs os r in
    level_demand2 (decode (table_after t os)) (sound_storable (table_after t os) e.0).valid e.1

-- 02: .. and where its chains rise, as after every accepted change, the question for a job between two benches is answered as if all
-- were read
pub between_after : (t : List ℕ) (k : Book) → Start t k → (cs : List Call) (os : List Outcome) → Runs AsDefined t cs os → T (all_rise t || once_in_order cs (refused_each os)) →
    (x y : ℕ) → let u = table_after t os in T (names_fit (decode u).benches (x ∷ y ∷ [])) →
    (outcome (between x y) u).answer ≡ said (between_fact (lowest_between (decode u) x y) (length (records_read (layout (words u)) x y)))
between_after t k start cs os r p x y f =
    between_everything x y (table_after t os) (level_after t k start cs os r).0 (run_rises t cs os r p) f
