-- Blanking, arrival, closing, levelling: their refusals, and what an accepted one leaves.
use Prim.Native.Nat.{ℕ}
use mathlib.Core.Path.{◌≡◌, refl, sym, ap, ◌∙◌}
use mathlib.Core.Logic.{◌⊎◌}
use mathlib.Core.Bool.{Bool, true, false, cond, not}
use mathlib.Core.List.{List, [], ◌∷◌}
use lib.Dec.{T, eqb}
use lib.ListN.{length}
use borrow.Author.Tests.{eqb-false}
use Rattle.spec_lists.specs.Lists.{within}
use Rattle.spec_table.specs.Board.{Board, stands, names_fit}
use Rattle.spec_table.specs.Table.{sizes_fit, blank_table, decode}
use Rattle.spec_sharing.specs.Sharing.{Change}
use Rattle.spec_calls.specs.Answers.{refused, list_too_short, arrived, closed, said, levelled, stopped}
use Rattle.spec_calls.specs.Calls.{Arriving, Closing, MayArrive, Call, lent_to, arrival, closing, levelling, outcome, blanking, arrival_outcome, closing_outcome, levelling_outcome}
use Rattle.spec_lists.proofs.Tests.{true→T, T→true, false→not, failed, passed}
use Rattle.spec_table.proofs.Named.{pair_fits}
use Rattle.spec_calls.proofs.Outcomes.{arrival_accepted, closing_accepted, levelling_accepted}
use Rattle.spec_calls.proofs.Refused.{arrival_number_refused, arrival_bench_refused, arrival_standing_refused, arrival_list_refused, closing_number_refused, closing_standing_refused, closing_list_refused, arrival_exact, closing_exact}
use Rattle.table_size.specs.declared.Size.{Size}
use Rattle.table_size.specs.Sizes.{SoundTable}
use Rattle.table_size.proofs.Sizes.{job_of_board, bench_of_board}
use Rattle.table_refusals.specs.declared.Refusal.{Refusal}
use Rattle.sharing_effects.specs.Effects.{lent, TooShort}
use Rattle.sharing_effects.specs.declared.Effect.{Effect}
use Rattle.sharing_levelling.specs.declared.Levelling.{Levelling}
use Rattle.sharing_arrival.specs.ArrivalResult.{ArrivalOf}
use Rattle.sharing_closing.specs.ClosingResult.{ClosingOf}
use Rattle.sharing_levelling.specs.LevellingResult.{LevellingOf}
use Rattle.board_answers.specs.Answered.{answer_of, Leaves}
use Rattle.board_answers.specs.declared.Answer.{Answer}
use Rattle.std.specs.Prelude.{Result, Ok, Err}
use Rattle.board_answers.specs.declared.Answer.TheVariants.{Blanked, Arrived, Closed, Levelled, Stopped}
use Rattle.table_refusals.specs.declared.Refusal.TheVariants.{Sizes, JobNumber, BenchNumber, AlreadyStanding, NotStanding}
use Rattle.board_answers.proofs.Formal.{refused_leaves}

-- sizes that fit are blanked ..
pub blanked : (benches jobs : ℕ) (t : List ℕ) {u : List ℕ} → true ≡ sizes_fit (length t) benches jobs → u ≡ blank_table benches jobs → Leaves (blanking benches jobs t) (Ok Blanked) u []
unfolding blanking
blanked benches jobs t e b = let f : sizes_fit (length t) benches jobs ≡ true = sym e in record { answer = rw f; bytes = rw f b; lent = rw f }

-- .. any other are refused, and no byte is changed
pub blank_refused : (benches jobs : ℕ) (t : List ℕ) {u : List ℕ} {r : Refusal} → r ≡ Sizes → false ≡ sizes_fit (length t) benches jobs → u ≡ t → Leaves (blanking benches jobs t) (Err r) u []
unfolding blanking
blank_refused benches jobs t q e b =
    let f : sizes_fit (length t) benches jobs ≡ false = sym e in
    rw q (record { answer = rw f; bytes = rw f b; lent = rw f })

-- what a levelling answers, by whether it ended level
abbrev level_answer : Bool → ℕ → Result Answer Refusal
level_answer true paths = Ok (Levelled paths)
level_answer false paths = Ok (Stopped paths)

level_told : (v : Bool) {m n : ℕ} → m ≡ n → answer_of (level_answer v m) ≡ said (cond v (levelled n) (stopped n))
level_told true e = ap (λ (k : ℕ). said (levelled k)) e
level_told false e = ap (λ (k : ℕ). said (stopped k)) e

-- an arrival with two benches
abbrev arriving : ℕ → ℕ → ℕ → List ℕ → Arriving
arriving j x y list = record { job = j; given = x ∷ y ∷ []; list = list }

-- a closing
abbrev closing_of : ℕ → List ℕ → Closing
closing_of j list = record { job = j; list = list }

-- a change that is refused since its list is too short leaves what it was lent
refused_as : (c : Call) {d : Change} {t u list left : List ℕ} {r : Refusal} → TooShort d (lent t list) (lent u left) r → lent_to c ≡ list → (outcome c t).answer ≡ refused list_too_short → Leaves (outcome c t) (Err r) u left
refused_as c {d} {t} {u} {list} {left} {r} a same e =
    let q = refused_leaves r c t (e ∙ ap refused (sym a.why)) in
    record { answer = q.answer; bytes = ap (λ l. l.table) a.left ∙ q.bytes; lent = ap (λ l. l.list) a.left ∙ sym same ∙ q.lent }

-- an arrival whose numbers are not refused
pub record Numbered (b : Board) (j x y : ℕ) : Type 0 where
  pub number : T (within 1 (length b.named) j)
  pub fit : T (names_fit b.benches (x ∷ y ∷ []))

-- an arrival may go through where its numbers passed and no such job stands
pub may_arrive : {b : Board} {j x y : ℕ} {h : Bool} → Numbered b j x y → h ≡ stands b j → h ≡ false → MayArrive b j (x ∷ y ∷ [])
may_arrive {b} {j} n e w =
    record { number = n.number; free = false→not (stands b j) (sym e ∙ w); fit = n.fit }

module _ {t : List ℕ} {s : Size} (z : SoundTable t s) where
  -- bench x is not one of 1 to B
  pub bench_wrong : (x : ℕ) {h : Bool} → h ≡ within 1 s.benches x → not h ≡ true → within 1 (decode t).benches x ≡ false
  bench_wrong x e n = failed (bench_of_board z x e) n

  -- the tests of an arrival's numbers
  pub arrival_numbered : (j x y : ℕ) {h f g : Bool} → h ≡ within 1 s.jobs j → not h ≡ false → f ≡ within 1 s.benches x → not f ≡ false → g ≡ within 1 s.benches y → not g ≡ false → eqb x y ≡ false → Numbered (decode t) j x y
  arrival_numbered j x y e n ex nx ey ny d =
      record {
        number = passed (job_of_board z j e) n;
        fit = (pair_fits (decode t).benches x y).1 (passed (bench_of_board z x ex) nx, passed (bench_of_board z y ey) ny, eqb-false x y d);
      }

  -- a levelling
  pub levelling_left : {u : List ℕ} (allowance : ℕ) {r : Levelling} (v : Bool) → LevellingOf t u allowance r → r.level ≡ v → Leaves (outcome (levelling allowance) t) (level_answer v r.paths) u []
  unfolding levelling_outcome
  levelling_left allowance v a w =
      let e = (levelling_accepted t z.sound allowance).is in
      rw (e, sym a.ended ∙ w) (record { answer = level_told v a.paths; bytes = a.bytes; lent = refl })

  module _ (list : List ℕ) where
    -- 3
    pub arrival_number : (j x y : ℕ) {h : Bool} → h ≡ within 1 s.jobs j → not h ≡ true → Leaves (outcome (arrival (arriving j x y list)) t) (Err JobNumber) t list
    arrival_number j x y e n =
        refused_leaves JobNumber (arrival (arriving j x y list)) t (arrival_number_refused t z.sound (arriving j x y list) (failed (job_of_board z j e) n))

    pub closing_number : (j : ℕ) {h : Bool} → h ≡ within 1 s.jobs j → not h ≡ true → Leaves (outcome (closing (closing_of j list)) t) (Err JobNumber) t list
    closing_number j e n =
        refused_leaves JobNumber (closing (closing_of j list)) t (closing_number_refused t z.sound (closing_of j list) (failed (job_of_board z j e) n))

    -- 4
    pub arrival_bench : (j x y : ℕ) {h : Bool} → h ≡ within 1 s.jobs j → not h ≡ false → (within 1 (decode t).benches x ≡ false) ⊎ (within 1 (decode t).benches y ≡ false) ⊎ (x ≡ y) → Leaves (outcome (arrival (arriving j x y list)) t) (Err BenchNumber) t list
    arrival_bench j x y e n w =
        refused_leaves BenchNumber (arrival (arriving j x y list)) t (arrival_bench_refused t z.sound j x y list (T→true (within 1 (length (decode t).named) j) (passed (job_of_board z j e) n)) w)

    -- 5
    pub arrival_standing : (j x y : ℕ) {h : Bool} → Numbered (decode t) j x y → h ≡ stands (decode t) j → h ≡ true → Leaves (outcome (arrival (arriving j x y list)) t) (Err AlreadyStanding) t list
    arrival_standing j x y n e w =
        refused_leaves AlreadyStanding (arrival (arriving j x y list)) t (arrival_standing_refused t z.sound (arriving j x y list) n.fit (true→T (stands (decode t) j) (sym e ∙ w)))

    -- 6
    pub closing_standing : (j : ℕ) {h g : Bool} → h ≡ within 1 s.jobs j → not h ≡ false → g ≡ stands (decode t) j → not g ≡ true → Leaves (outcome (closing (closing_of j list)) t) (Err NotStanding) t list
    closing_standing j e n d w =
        refused_leaves NotStanding (closing (closing_of j list)) t (closing_standing_refused t z.sound (closing_of j list) (T→true (within 1 (length (decode t).named) j) (passed (job_of_board z j e) n)) (failed d w))

    -- 8 ..
    pub arrival_short : {u left : List ℕ} (j x y : ℕ) (r : Refusal) → MayArrive (decode t) j (x ∷ y ∷ []) → ArrivalOf j x y (lent t list) (lent u left) (Err r) → Leaves (outcome (arrival (arriving j x y list)) t) (Err r) u left
    arrival_short j x y r m a =
        refused_as (arrival (arriving j x y list)) a refl (arrival_list_refused t z.sound (arriving j x y list) m a.short)

    pub closing_short : {u left : List ℕ} (j : ℕ) (r : Refusal) → T (stands (decode t) j) → ClosingOf j (lent t list) (lent u left) (Err r) → Leaves (outcome (closing (closing_of j list)) t) (Err r) u left
    closing_short j r p a =
        refused_as (closing (closing_of j list)) a refl (closing_list_refused t z.sound (closing_of j list) p a.short)

    -- .. or an accepted change
    pub arrival_made : {u left : List ℕ} (j x y : ℕ) (e : Effect) → MayArrive (decode t) j (x ∷ y ∷ []) → ArrivalOf j x y (lent t list) (lent u left) (Ok e) → Leaves (outcome (arrival (arriving j x y list)) t) (Ok (Arrived e.holder e.bench e.moved)) u left
    unfolding arrival_outcome
    arrival_made j x y e m a =
        let made = (arrival_accepted t z.sound (arriving j x y list) ((arrival_exact t z.sound (arriving j x y list)).1 (m, a.room))).is in
        rw made (record { answer = λ i. arrived (a.holder i) (a.bench i) (a.moved i); bytes = a.table; lent = a.list })

    pub closing_made : {u left : List ℕ} (j : ℕ) (e : Effect) → T (stands (decode t) j) → ClosingOf j (lent t list) (lent u left) (Ok e) → Leaves (outcome (closing (closing_of j list)) t) (Ok (Closed e.bench e.moved)) u left
    unfolding closing_outcome
    closing_made j e p a =
        let made = (closing_accepted t z.sound (closing_of j list) ((closing_exact t z.sound (closing_of j list)).1 (p, a.room))).is in
        rw made (record { answer = λ i. closed (a.bench i) (a.moved i); bytes = a.table; lent = a.list })
