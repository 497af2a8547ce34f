-- 1 by the sizes, then 4 by the benches, before a record is read.
use mathlib.Core.Path.{sym, ◌∙◌}
use mathlib.Core.Logic.{inl, inr}
use Rattle.board_answers.proofs.Formal.{passed_on}
use Rattle.table_size.proofs.Sizes.{fit_size}
use Rattle.board_pair.proofs.AskingPair.{misfit_refused, benches_refused}
use Rattle.board_pair.proofs.between.Goals as goal
use Rattle.board_pair.proofs.between.Goals.{then-not-has_bench-via-then-not-has_bench, then-not-has_bench-via-else-not-has_bench+then-not-has_bench-2, then-not-has_bench-via-else-not-has_bench+else-not-has_bench-2+then-first-second}

pub returns-in_err-s : goal.returns-in_err-s
returns-in_err-s c =
    passed_on c.from_residual.ensures.1 (misfit_refused c.args.t.now c.args.first c.args.second c.in_err-s.ensures)

pub returns-then-not-has_bench : goal.returns-then-not-has_bench
returns-then-not-has_bench c =
    benches_refused (fit_size c.args.t.now c.in_ok-s.s c.in_ok-s.ensures) c.args.first c.args.second (
    elim c.then-not-has_bench.branch [
      | then-not-has_bench-via-then-not-has_bench w ↦ inl (sym c.has_bench.ensures ∙ w.if-not-has_bench.true)
      | then-not-has_bench-via-else-not-has_bench+then-not-has_bench-2 w ↦ inr (inl (sym w.has_bench-else-not-has_bench.ensures ∙ w.if-not-has_bench-2.true))
      | then-not-has_bench-via-else-not-has_bench+else-not-has_bench-2+then-first-second w ↦ inr (inr w.if-first-second.true)
    ]
    )

pub between_two-requires-clause-size_of : goal.between_two-requires-clause-size_of
between_two-requires-clause-size_of c = fit_size c.args.t.now c.in_ok-s.s c.in_ok-s.ensures
