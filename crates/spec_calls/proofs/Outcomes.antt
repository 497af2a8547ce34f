-- What an accepted arrival, closing or levelling leaves of a sound table: a sound table again, of the board that the rule names.
use Prim.Native.Nat.{ℕ, ◌*◌, ◌≤◌}
use mathlib.Core.Path.{◌≡◌, refl, sym, ap, subst, ◌∙◌}
use mathlib.Core.Logic.{◌⊎◌, inl, inr}
use mathlib.Core.Bool.{true, false, not}
use mathlib.Core.List.{List, [], ◌∷◌}
use mathlib.Core.Option.{Option, none, some}
use lib.Dec.{T, eqb}
use lib.ListN.{length}
use borrow.Author.Tests.{ltb-false}
use Rattle.spec_lists.specs.Lists.{within, Each, empty}
use Rattle.spec_table.specs.Board.{Board, stands, names_fit}
use Rattle.spec_table.specs.Table.{paired, sound, decode, encode, Storable}
use Rattle.spec_sharing.specs.Sharing.{Change, arrive, close, Levelled, relevel}
use Rattle.spec_calls.specs.Answers.{Refusal, Outcome, first_holding, is_refused, refused_or, said, levelled}
use Rattle.spec_calls.specs.Calls.{Arriving, Closing, namable, MayArrive, Call, arrival, closing, levelling, ask, between, arrival_conditions, closing_conditions, refusals, is_question, lent_to, accepted, outcome, arrival_outcome, closing_outcome, levelling_outcome}
use Rattle.spec_sharing.specs.Demand2.{OneMore}
use Rattle.spec_lists.proofs.Tests.{not_false, false→not, left, right, or_right}
use Rattle.spec_table.proofs.Named.{resized, changed_storable}
use Rattle.spec_calls.proofs.Refusals.{accepted_by, accepted_answers, question_leaves}
use Rattle.spec_calls.proofs.ChainOrder.{sound_outcome}
use Rattle.spec_calls.proofs.Tally.{is_change}
use Rattle.spec_table.proofs.Sound.{sound_storable}
use Rattle.spec_table.proofs.Encode.{encode_sound, decode_encode}
use Rattle.spec_sharing.proofs.Changes.{Changed, arrival_does, closing_does}
use Rattle.spec_sharing.proofs.Levelling.{Relevels, levelling_does, enough_allowance}
use Rattle.spec_calls.proofs.Stops.{levelling_says_level}
use Rattle.spec_sharing.proofs.Paths.{level_exact}

-- a table that a change writes: sound, and of that board
pub record WritesBoard (u : List ℕ) (b : Board) : Type 0 where
  pub sound : T (sound u)
  pub board : decode u ≡ b

written_as : {u : List ℕ} (b : Board) → Storable b → u ≡ encode b → WritesBoard u b
written_as b s e =
    subst (λ (u : List ℕ). WritesBoard u b) (sym e) (record { sound = encode_sound b s; board = decode_encode b s })

-- benches that a job may name: there are some, a record has room for them, and they are different ones of 1 to B
module _ (b : Board) (given : List ℕ) (n : T (namable b given)) where
  two : T (eqb (length given) 2)
  two = left (eqb (length given) 2) (names_fit b.benches given) n

  pub namable_some : T (not (empty given))
  namable_some = go given two
    where
      go : (l : List ℕ) → T (eqb (length l) 2) → T (not (empty l))
      go [] e = e
      go (x ∷ l) e = tt

  pub namable_paired : T (paired given)
  namable_paired = or_right (empty given) (eqb (length given) 2) two

  pub namable_fit : T (names_fit b.benches given)
  namable_fit = right (eqb (length given) 2) (names_fit b.benches given) n

-- no condition of an arrival holds: it may go through, and its list is long enough
may_arrive : (b : Board) (a : Arriving) → Each (λ k. k.holds ≡ false) (arrival_conditions a b) → MayArrive b a.job a.given × (2 * length (arrive b a.job a.given).moved ≤ length a.list)
unfolding arrival_conditions
may_arrive b a e = (
  record {
    number = not_false (within 1 (length b.named) a.job) e.0;
    free = false→not (stands b a.job) e.1.1.0;
    fit = not_false (namable b a.given) e.1.0;
  },
  ltb-false (length a.list) (2 * length (arrive b a.job a.given).moved) e.1.1.1.0,
)

may_close : (b : Board) (c : Closing) → Each (λ k. k.holds ≡ false) (closing_conditions c b) → T (stands b c.job) × (2 * length (close b c.job).moved ≤ length c.list)
unfolding closing_conditions
may_close b c e =
    (not_false (stands b c.job) e.1.0, ltb-false (length c.list) (2 * length (close b c.job).moved) e.1.1.0)

-- what an accepted arrival leaves of a sound table: one bench's load rose by one, the one in the answer, and the number
-- of moved jobs is true; its list was long enough for them
pub record AcceptedArrival (t : List ℕ) (a : Arriving) (c : Change) : Type 0 where
  pub may : MayArrive (decode t) a.job a.given
  pub room : 2 * length c.moved ≤ length a.list
  pub is : outcome (arrival a) t ≡ arrival_outcome a c
  pub writes : WritesBoard (outcome (arrival a) t).table c.board
  pub does : Changed (decode t) a.job a.given c
  pub rose : OneMore (decode t).benches (decode t).holders c.board.holders c.bench

-- the change that an arrival makes
abbrev pub arrive_on : List ℕ → Arriving → Change
arrive_on t a = arrive (decode t) a.job a.given

-- an accepted arrival on any sound table
pub arrival_accepted : (t : List ℕ) → T (sound t) → (a : Arriving) → is_refused (outcome (arrival a) t).answer ≡ false → AcceptedArrival t a (arrive_on t a)
unfolding accepted arrival_outcome refusals
arrival_accepted t s a n =
    let by = accepted_by (arrival a) t n in
    let st = sound_storable t s in
    let (m, room) = may_arrive (decode t) a by.0.1.1 in
    let c = arrive_on t a in
    let d = arrival_does (decode t) st.valid a.job a.given m.number m.free (namable_some (decode t) a.given m.fit) (namable_fit (decode t) a.given m.fit) in
    record {
      may = m;
      room = room;
      is = by.1;
      writes = written_as c.board (changed_storable (decode t) c.board a.job a.given st (namable_paired (decode t) a.given m.fit) d.0.valid d.0.benches d.0.named) (ap (λ o. o.table) by.1);
      does = d.0;
      rose = d.1;
    }

-- what an accepted closing leaves: one bench's load fell by one
pub record AcceptedClosing (t : List ℕ) (k : Closing) (c : Change) : Type 0 where
  pub stood : T (stands (decode t) k.job)
  pub room : 2 * length c.moved ≤ length k.list
  pub is : outcome (closing k) t ≡ closing_outcome k c
  pub writes : WritesBoard (outcome (closing k) t).table c.board
  pub does : Changed (decode t) k.job [] c
  pub fell : OneMore (decode t).benches c.board.holders (decode t).holders c.bench

-- an accepted closing on any sound table
pub closing_accepted : (t : List ℕ) → T (sound t) → (k : Closing) → is_refused (outcome (closing k) t).answer ≡ false → AcceptedClosing t k (close (decode t) k.job)
unfolding accepted closing_outcome refusals
closing_accepted t s k n =
    let by = accepted_by (closing k) t n in
    let st = sound_storable t s in
    let (m, room) = may_close (decode t) k by.0.1.1 in
    let c = close (decode t) k.job in
    let d = closing_does (decode t) st.valid k.job m in
    record {
      stood = m;
      room = room;
      is = by.1;
      writes = written_as c.board (changed_storable (decode t) c.board k.job [] st tt d.0.valid d.0.benches d.0.named) (ap (λ o. o.table) by.1);
      does = d.0;
      fell = d.1;
    }

-- what a levelling leaves of a sound table; nothing but its form refuses it
pub record Relevelled (t : List ℕ) (allowance : ℕ) (r : Levelled) : Type 0 where
  pub is : outcome (levelling allowance) t ≡ levelling_outcome r
  pub writes : WritesBoard (outcome (levelling allowance) t).table r.board
  pub does : Relevels allowance (decode t) r

-- a levelling of any sound table
pub levelling_accepted : (t : List ℕ) → T (sound t) → (allowance : ℕ) → Relevelled t allowance (relevel allowance (decode t))
unfolding accepted levelling_outcome
levelling_accepted t s allowance =
    let e = sound_outcome (levelling allowance) tt t s in
    let st = sound_storable t s in
    let r = relevel allowance (decode t) in
    let d = levelling_does allowance (decode t) st.valid in
    let q = d.report in
    let p = subst (Each (λ names. T (paired names))) (sym q.jobs) st.pairs in
    record { is = e; writes = written_as r.board (resized (decode t) r.board st d.valid q.benches (ap length q.jobs) p) (ap (λ o. o.table) e); does = d }

-- "level" is answered, whatever the board, from an allowance of 7,998,000 on
pub levelling_enough : (t : List ℕ) → T (sound t) → (allowance : ℕ) → 7998000 ≤ allowance → (outcome (levelling allowance) t).answer ≡ said (levelled (relevel allowance (decode t)).paths)
levelling_enough t s allowance l =
    let a = levelling_accepted t s allowance in
    let v = a.does.valid in
    let e = enough_allowance (decode t) (sound_storable t s) allowance l in
    ap (λ o. o.answer) a.is ∙ (levelling_says_level (relevel allowance (decode t)) v).1 ((level_exact (relevel allowance (decode t)).board v).0 e)

-- a levelling's answer reports no change of one load
pub levelling_quiet : (r : Levelled) → is_change (levelling_outcome r).answer ≡ false
unfolding levelling_outcome
levelling_quiet r = refl

-- a call that leaves the table: a refused one, or a question
pub record Left (t : List ℕ) (c : Call) (o : Outcome) : Type 0 where
  pub table : o.table ≡ t
  pub quiet : is_change o.answer ≡ false
  pub idle : (is_refused o.answer ≡ true) ⊎ T (is_question c)

-- every call on a sound table is one of four: an accepted arrival, an accepted closing, a levelling, or one that leaves
-- the table
module _ (t : List ℕ) (s : T (sound t)) (P : Call → Type 0) (arrives : (a : Arriving) → AcceptedArrival t a (arrive_on t a) → P (arrival a)) (closes : (k : Closing) → AcceptedClosing t k (close (decode t) k.job) → P (closing k)) (levels : (allowance : ℕ) → Relevelled t allowance (relevel allowance (decode t)) → P (levelling allowance)) (leaves : (c : Call) → Left t c (outcome c t) → P c) where
  by_accepted : (c : Call) → outcome c t ≡ accepted c t (decode t) → P c
  unfolding accepted
  by_accepted (arrival a) e = arrives a (arrival_accepted t s a (ap (λ o. is_refused o.answer) e ∙ accepted_answers (arrival a) t (decode t)))
  by_accepted (closing k) e = closes k (closing_accepted t s k (ap (λ o. is_refused o.answer) e ∙ accepted_answers (closing k) t (decode t)))
  by_accepted (levelling allowance) e = levels allowance (levelling_accepted t s allowance)
  by_accepted (ask q lent) e =
      leaves (ask q lent) (record { table = question_leaves (ask q lent) tt t; quiet = ap (λ o. is_change o.answer) e; idle = inr tt })
  by_accepted (between x y) e =
      leaves (between x y) (record { table = question_leaves (between x y) tt t; quiet = ap (λ o. is_change o.answer) e; idle = inr tt })

  pub by_call : (c : Call) → P c
  unfolding outcome
  by_call c = go (first_holding (refusals c t)) refl
    where
      is : (o : Option Refusal) → first_holding (refusals c t) ≡ o → outcome c t ≡ refused_or o t (lent_to c) (accepted c t (decode t))
      is o e = ap (λ o. refused_or o t (lent_to c) (accepted c t (decode t))) e

      go : (o : Option Refusal) → first_holding (refusals c t) ≡ o → P c
      go none e = by_accepted c (is none e)
      go (some r) e =
          leaves c (subst (Left t c) (sym (is (some r) e)) (record { table = refl; quiet = refl; idle = inl refl }))
