-- The results of arrival, closing and levelling in 01's words: what the numbers of an answer say of the boards before and after,
-- and what is listed.
use Prim.Native.Nat.{ℕ, suc, ◌≤◌, ◌<◌}
use native.Mathlib.Omega.{arith}
use native.Mathlib.Decide.{dec_lt}
use mathlib.Core.Path.{◌≡◌, sym, ap, subst, subst₂, ◌∙◌}
use mathlib.Core.List.{List}
use lib.Dec.{T, T_not}
use lib.ListN.{length, take}
use Rattle.spec_lists.specs.Lists.{Each}
use Rattle.spec_table.specs.Board.{Board, holder_of}
use Rattle.spec_table.specs.Table.{most_jobs, words, sound, decode}
use Rattle.spec_sharing.specs.Paths.{BenchPath, IsPath, improves}
use Rattle.spec_sharing.specs.Sharing.{Change, close, relevel, level}
use Rattle.spec_calls.specs.Answers.{is_refused, arrived, closed, said, levelled, stopped}
use Rattle.spec_calls.specs.Calls.{Arriving, Closing, arrival, closing, levelling, outcome, arrival_outcome, closing_outcome, levelling_outcome}
use Rattle.spec_sharing.specs.Demand2.{OneMore, ArrivalReport, ClosingReport, LevellingReport}
use Rattle.spec_lists.proofs.Tests.{within_high}
use Rattle.spec_lists.proofs.Elements.{in_each}
use Rattle.spec_table.proofs.Named.{stands_within}
use Rattle.spec_table.proofs.Words.{ListLeft, in_list_lem}
use Rattle.spec_table.proofs.Sound.{sound_storable}
use Rattle.spec_sharing.proofs.Paths.{level_exact, unlevel_improves}
use Rattle.spec_sharing.proofs.Changes.{Changed, moved_stands}
use Rattle.spec_calls.proofs.Stops.{says_level, says_stopped}
use Rattle.spec_calls.proofs.Outcomes.{arrive_on, AcceptedArrival, arrival_accepted, AcceptedClosing, closing_accepted, levelling_accepted}

module _ (t : List ℕ) (s : T (sound t)) where
  -- moved jobs have numbers of 1 to J, which fit a word
  moved_small : {j : ℕ} {names : List ℕ} {c : Change} → Changed (decode t) j names c → Each (λ w. w < 65536) c.moved
  moved_small {j} {names} {c} d =
      let st = sound_storable t s in
      in_each (λ (w : ℕ). w < 65536) c.moved
      (λ i k. omega (arith, within_high 1 (length (decode t).named) i (stands_within (decode t) i (moved_stands (decode t) st.valid j names c d i k)), within_high 1 most_jobs (length (decode t).named) st.jobs))

  -- an accepted arrival's answer has the numbers of its change ..
  arrival_numbers : (k : Arriving) (holder rose moved : ℕ) → (outcome (arrival k) t).answer ≡ arrived holder rose moved → let c = arrive_on t k in AcceptedArrival t k c × (holder_of c.board k.job ≡ holder) × (c.bench ≡ rose) × (length c.moved ≡ moved)
  unfolding arrival_outcome
  arrival_numbers k holder rose moved e =
      let a = arrival_accepted t s k (ap is_refused e) in
      let c = arrive_on t k in
      let d : arrived (holder_of c.board k.job) c.bench (length c.moved) ≡ arrived holder rose moved = ap (λ o. o.answer) (sym a.is) ∙ e in
      (a, cc, cc, cc)

  -- .. and so has a closing's
  closing_numbers : (k : Closing) (fell moved : ℕ) → (outcome (closing k) t).answer ≡ closed fell moved → let c = close (decode t) k.job in AcceptedClosing t k c × (c.bench ≡ fell) × (length c.moved ≡ moved)
  unfolding closing_outcome
  closing_numbers k fell moved e =
      let a = closing_accepted t s k (ap is_refused e) in
      let c = close (decode t) k.job in
      let d : closed c.bench (length c.moved) ≡ closed fell moved = ap (λ o. o.answer) (sym a.is) ∙ e in
      (a, cc, cc)

  -- 02: "They go as words into a lent list; the remainder is untouched": so many jobs as the answer says, in path order
  pub arrival_list : (k : Arriving) (holder rose moved : ℕ) → (outcome (arrival k) t).answer ≡ arrived holder rose moved → ListLeft (arrive_on t k).moved moved k.list (outcome (arrival k) t).lent
  unfolding arrival_outcome
  arrival_list k holder rose moved e =
      let (a, h, b, m) = arrival_numbers k holder rose moved e in
      rw (sym m, ap (λ o. o.lent) a.is) (in_list_lem (arrive_on t k).moved k.list (moved_small a.does) a.room)

  pub closing_list : (k : Closing) (fell moved : ℕ) → (outcome (closing k) t).answer ≡ closed fell moved → ListLeft (close (decode t) k.job).moved moved k.list (outcome (closing k) t).lent
  unfolding closing_outcome
  closing_list k fell moved e =
      let (a, b, m) = closing_numbers k fell moved e in
      rw (sym m, ap (λ o. o.lent) a.is) (in_list_lem (close (decode t) k.job).moved k.list (moved_small a.does) a.room)

  -- at most B − 1 jobs are moved, by whatever arrival ..
  pub arrival_most : (k : Arriving) (holder rose moved : ℕ) → (outcome (arrival k) t).answer ≡ arrived holder rose moved → suc moved ≤ (decode t).benches
  arrival_most k holder rose moved e =
      let (a, h, b, m) = arrival_numbers k holder rose moved e in
      rw (sym m) a.does.few

  -- .. or closing
  pub closing_most : (k : Closing) (fell moved : ℕ) → (outcome (closing k) t).answer ≡ closed fell moved → suc moved ≤ (decode t).benches
  closing_most k fell moved e =
      let (a, b, m) = closing_numbers k fell moved e in
      rw (sym m) a.does.few

  -- an arrival's answer, and what is listed
  pub arrival_result : (k : Arriving) (holder rose moved : ℕ) → (outcome (arrival k) t).answer ≡ arrived holder rose moved → let o = outcome (arrival k) t in ArrivalReport (decode t) (decode o.table) k.job k.given holder rose moved (take moved (words o.lent))
  arrival_result k holder rose moved e =
      let (a, h, b, m) = arrival_numbers k holder rose moved e in
      subst₂ (λ (u : Board) (l : List ℕ). ArrivalReport (decode t) u k.job k.given holder rose moved l) (sym a.writes.board) (sym (arrival_list k holder rose moved e).read)
      (record {
        benches = a.does.benches;
        jobs = a.does.named;
        in_the_end = h;
        one_rose = subst (OneMore (decode t).benches (decode t).holders (arrive_on t k).board.holders) b a.rose;
        others = sym a.does.number ∙ m;
        listed = a.does.moved;
        number = m;
      })

  -- a closing's answer, and what is listed
  pub closing_result : (k : Closing) (fell moved : ℕ) → (outcome (closing k) t).answer ≡ closed fell moved → let o = outcome (closing k) t in ClosingReport (decode t) (decode o.table) k.job fell moved (take moved (words o.lent))
  closing_result k fell moved e =
      let (a, b, m) = closing_numbers k fell moved e in
      subst₂ (λ (u : Board) (l : List ℕ). ClosingReport (decode t) u k.job fell moved l) (sym a.writes.board) (sym (closing_list k fell moved e).read)
      (record {
        benches = a.does.benches;
        jobs = a.does.named;
        one_fell = subst (OneMore (decode t).benches (close (decode t) k.job).board.holders (decode t).holders) b a.fell;
        others = sym a.does.number ∙ m;
        listed = a.does.moved;
        number = m;
      })

  -- a levelling's answer tells its count and its board
  levelling_result : (allowance : ℕ) → LevellingReport (decode t) (decode (outcome (levelling allowance) t).table) allowance (relevel allowance (decode t)).paths
  levelling_result allowance =
      let a = levelling_accepted t s allowance in
      let r = relevel allowance (decode t) in
      subst (λ (u : Board). LevellingReport (decode t) u allowance r.paths) (sym a.writes.board) a.does.report

  -- "level": no improving path is left
  pub level_result : (allowance paths : ℕ) → (outcome (levelling allowance) t).answer ≡ said (levelled paths) → let after = decode (outcome (levelling allowance) t).table in LevellingReport (decode t) after allowance paths × ((p : BenchPath) → IsPath after p → T (improves after p) → ⊥)
  unfolding levelling_outcome
  level_result allowance paths e =
      let a = levelling_accepted t s allowance in
      let r = relevel allowance (decode t) in
      let d = (says_level r.paths paths (level r.board)).0 (ap (λ o. o.answer) (sym a.is) ∙ e) in
      (subst (LevellingReport (decode t) (decode (outcome (levelling allowance) t).table) allowance) d.1 (levelling_result allowance), subst (λ (u : Board). (p : BenchPath) → IsPath u p → T (improves u p) → ⊥) (sym a.writes.board) ((level_exact r.board a.does.valid).0 d.0))

  -- "stopped": one is, and the allowance is used up
  pub stopped_result : (allowance paths : ℕ) → (outcome (levelling allowance) t).answer ≡ said (stopped paths) → let after = decode (outcome (levelling allowance) t).table in LevellingReport (decode t) after allowance paths × ((p : BenchPath) × IsPath after p × T (improves after p)) × (paths ≡ allowance)
  unfolding levelling_outcome
  stopped_result allowance paths e =
      let a = levelling_accepted t s allowance in
      let r = relevel allowance (decode t) in
      let d = (says_stopped r.paths paths (level r.board)).0 (ap (λ o. o.answer) (sym a.is) ∙ e) in
      let used : r.paths ≡ allowance = elim (dec_lt r.paths allowance) [ yes h ↦ absurd (T_not (level r.board) d.0 (a.does.done h)) | no h ↦ omega (arith, a.does.report.allowed) ] in
      (subst (LevellingReport (decode t) (decode (outcome (levelling allowance) t).table) allowance) d.1 (levelling_result allowance), subst (λ (u : Board). (p : BenchPath) × IsPath u p × T (improves u p)) (sym a.writes.board) (unlevel_improves r.board d.0), sym d.1 ∙ used)
