-- Each test is one of document 01's refusals, in its order; past them the arrival is the rule's, or its list is too short.
use mathlib.Core.Path.{ap}
use mathlib.Core.Logic.{inl, inr}
use mathlib.Core.Bool.{not}
use mathlib.Core.List.{[], ◌∷◌}
use borrow.Author.Tests.{ne_eqb}
use Rattle.board_answers.proofs.Formal.{passed_on}
use Rattle.spec_table.specs.Table.{decode}
use Rattle.spec_calls.specs.Calls.{MayArrive}
use Rattle.board_changes.proofs.ChangeOutcomes.{Numbered, arrival_number, bench_wrong, arrival_bench, arrival_numbered, arrival_standing, may_arrive, arrival_short, arrival_made}
use Rattle.board_changes.proofs.arrival_on.Goals as goal
use Rattle.board_changes.proofs.arrival_on.Goals.{Else-first-second, Else-stands}
use Rattle.board_changes.proofs.arrival_on.Goals.{then-not-has_bench-via-then-not-has_bench, then-not-has_bench-via-else-not-has_bench+then-not-has_bench-2, then-not-has_bench-via-else-not-has_bench+else-not-has_bench-2+then-first-second}

pub returns-then-not-has_job : goal.returns-then-not-has_job
returns-then-not-has_job c = arrival_number c.requires.found_sound.sound c.args.list.now c.args.job c.args.first c.args.second c.has_job.ensures (ap not c.if-not-has_job.true)

pub returns-then-not-has_bench : goal.returns-then-not-has_bench
returns-then-not-has_bench c =
    arrival_bench c.requires.found_sound.sound c.args.list.now c.args.job c.args.first c.args.second c.has_job.ensures (ap not c.if-not-has_job.false)
    (
    elim c.then-not-has_bench.branch [
      | then-not-has_bench-via-then-not-has_bench w ↦ inl (bench_wrong c.requires.found_sound.sound c.args.first c.has_bench.ensures (ap not w.if-not-has_bench.true))
      | then-not-has_bench-via-else-not-has_bench+then-not-has_bench-2 w ↦ inr (inl (bench_wrong c.requires.found_sound.sound c.args.second w.has_bench-else-not-has_bench.ensures (ap not w.if-not-has_bench-2.true)))
      | then-not-has_bench-via-else-not-has_bench+else-not-has_bench-2+then-first-second w ↦ inr (inr w.if-first-second.true)
    ]
    )

-- the numbers passed
passes : (c : Else-first-second) → let a = c.args in Numbered (decode a.t.now) a.job a.first a.second
passes c =
    let a = c.args in
    arrival_numbered c.requires.found_sound.sound a.job a.first a.second c.has_job.ensures (ap not c.if-not-has_job.false) c.has_bench.ensures (ap not c.if-not-has_bench.false) c.has_bench-else-not-has_bench.ensures (ap not c.if-not-has_bench-2.false) (ne_eqb c.args.first c.args.second c.if-first-second.false)

pub returns-then-stands : goal.returns-then-stands
returns-then-stands c = arrival_standing c.requires.found_sound.sound c.args.list.now c.args.job c.args.first c.args.second (passes (goal.at.returns-then-stands c).Else-first-second) c.stands.ensures c.if-stands.true

-- and no such job stands
may : (c : Else-stands) → Numbered (decode c.args.t.now) c.args.job c.args.first c.args.second → MayArrive (decode c.args.t.now) c.args.job (c.args.first ∷ c.args.second ∷ [])
may c n = may_arrive n c.stands.ensures c.if-stands.false

pub returns-in_err-effect : goal.returns-in_err-effect
returns-in_err-effect c =
    passed_on c.from_residual.ensures.1 (arrival_short c.requires.found_sound.sound c.args.list.now c.args.job c.args.first c.args.second c.in_err-effect.field-0.0 (may (goal.at.returns-in_err-effect c).Else-stands (passes (goal.at.returns-in_err-effect c).Else-first-second)) c.in_err-effect.ensures)

pub returns : goal.returns
returns c = arrival_made c.requires.found_sound.sound c.args.list.now c.args.job c.args.first c.args.second c.in_ok-effect.effect (may (goal.at.returns c).Else-stands (passes (goal.at.returns c).Else-first-second)) c.in_ok-effect.ensures
