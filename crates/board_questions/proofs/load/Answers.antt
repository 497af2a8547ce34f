-- The load of a bench of a sound table, or that it has no such bench.
use mathlib.Core.List.{[]}
use Rattle.spec_calls.specs.Calls.{ask, load_of}
use Rattle.board_answers.proofs.Formal.{form_refused, passed_on}
use Rattle.board_questions.proofs.Asking.{load_read, bench_refused}
use Rattle.board_questions.proofs.load.Goals as goal

pub returns-in_err-form : goal.returns-in_err-form
returns-in_err-form c = passed_on c.from_residual.ensures.1 (form_refused _ (ask (load_of c.args.bench) []) tt c.args.t.now c.in_err-form.ensures.says)

pub returns-then-not-has_bench : goal.returns-then-not-has_bench
returns-then-not-has_bench c = bench_refused c.in_ok-form.ensures.says.sound c.args.bench c.has_bench.ensures c.if-not-has_bench.true

pub returns : goal.returns
returns c = load_read c.in_ok-form.ensures.says.sound c.args.bench c.from.result c.in_ok-form.ensures.says.loaded c.has_bench.ensures c.if-not-has_bench.false c.from.ensures
