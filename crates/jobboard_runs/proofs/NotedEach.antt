-- The tally's equality, by the contracts of `Tally::new` and `Tally::note`.
use Prim.Native.Nat.{ℕ, ◌+◌}
use mathlib.Core.Path.{◌≡◌, refl, sym, ap, subst, ◌∙◌}
use mathlib.Core.List.{List}
use mathlib.Core.Option.{none}
use contract.Lifetimes.{Lfts}
use Rattle.spec_table.specs.Board.{standing}
use Rattle.spec_table.specs.Table.{decode}
use Rattle.spec_calls.specs.Answers.{Outcome, is_refused, said, blanked}
use Rattle.spec_calls.specs.Calls.{Call}
use Rattle.spec_calls.specs.JobBook.{table_after, Runs, AsDefined}
use Rattle.spec_calls.specs.Tally as paper
use Rattle.spec_calls.specs.Tally.{zero_tally, noted, tally_after, NoNine}
use Rattle.spec_calls.proofs.Blanking.{blanking_fits, blanking_blank}
use Rattle.spec_calls.proofs.Demand3.{runs_defined}
use Rattle.spec_calls.proofs.TallyRun.{arrivals_less_closings}
use Rattle.board_answers.specs.Answered.{answer_of}
use Rattle.board_changes.proofs.Contracts.{blank_meets}
use Rattle.board_changes.proofs.blank.Reads as blank
use Rattle.board_tally.specs.declared.Tally.{Tally}
use Rattle.board_tally.specs.Counts.{tally_of, note_of}
use Rattle.board_tally.proofs.Contracts.{new_zero, note_notes}
use Rattle.jobboard_runs.specs.Done.{Done}
use Rattle.jobboard_runs.specs.NotedEach.{NotedEach, ended, then, New}
use Rattle.jobboard_runs.proofs.Done.{done_defined}

-- answers noted by the code are noted as defined: no 9, and the tally handed back is the definition's
noting_noted : (y : Tally) (os : List Outcome) (z : Tally) → NotedEach y os z → NoNine (tally_of y) os × (tally_of z ≡ tally_after (tally_of y) os)
noting_noted y os z (ended x) = (tt, refl)
noting_noted y os z (then κs a r s o rest w p e c n) =
    let one = note_notes κs a r s p in
    let answer = ap (λ b. noted (tally_of a.0) b) e in
    let here : (noted (tally_of a.0) o.answer).refusal ≡ none = ap (λ m. m.refusal) answer ∙ sym one.refusal ∙ ap note_of c in
    let next : tally_of r.tally ≡ (noted (tally_of a.0) o.answer).tally = one.tally ∙ sym (ap (λ m. m.tally) answer) in
    let i = noting_noted r.tally rest w n in
    ((here, subst (λ (t : paper.Tally). NoNine t rest) next i.0), i.1 ∙ ap (λ (t : paper.Tally). tally_after t rest) next)

-- "If a blank table and a zero tally start together, each answer is noted once without a 9, and the table is not blanked
-- again, arrivals less closings are the jobs standing": of the code
pub board_balanced : (κs : Lfts 1) (a : _) (r : _) (s : _) → blank.Post κs a r s → answer_of r ≡ said blanked → (y : Tally) → New y → (cs : List Call) (os : List Outcome) → Runs Done s.0.now cs os → (z : Tally) → NotedEach y os z → z.arrivals ≡ z.closings + standing (decode (table_after s.0.now os))
board_balanced κs a r s p e y new cs os runs z n =
    let o = blank_meets κs a r s p in
    let b = a.1.0 in
    let j = a.1.1.0 in
    let fits = blanking_fits b j a.0.now (ap (λ (o : Outcome). is_refused o.answer) (sym o) ∙ ap is_refused e) in
    let (same, sizes) = blanking_blank b j a.0.now fits in
    let u = ap (λ (o : Outcome). o.table) o ∙ same in
    let zero = new_zero tt tt y tt new.made in
    let i = subst (λ (t : paper.Tally). NoNine t os × (tally_of z ≡ tally_after t os)) zero (noting_noted y os z n) in
    let all = arrivals_less_closings b j sizes cs os (subst (λ (t : List ℕ). Runs AsDefined t cs os) u (runs_defined Done done_defined s.0.now cs os runs)) i.0 in
    ap (λ (t : paper.Tally). t.arrivals) i.1 ∙ all
    ∙ sym (λ k. (i.1 k).closings + standing (decode (table_after (u k) os)))
