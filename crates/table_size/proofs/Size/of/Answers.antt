-- Words 0 and 1 as a size, and its byte length, decide whether a table's sizes fit.
use Rattle.std.proofs.Common.{get_or, arith, Ok}
use Rattle.std.proofs.lemmas.Result.{err_from_is_err_and}
use Rattle.spec_table.specs.Table.{words}
use Rattle.table_size.specs.Sizes.{SizeFor}
use Rattle.table_size.proofs.Sizes.{short_misfit, words_misfit, length_misfit, size_fit}
use Rattle.table_size.proofs.Size.of.Goals as goal
use Rattle.table_size.proofs.Size.of.Goals.{In_ok-s}

-- words 0 and 1 are the size that `new` returned
read_size : (c : In_ok-s) → SizeFor (get_or (words c.args.t.now) 0 0) (get_or (words c.args.t.now) 1 0) (Ok c.in_ok-s.s)
read_size c = rw (c.read-2.ensures.value, c.read.ensures.value) at c.in_ok-s.ensures

pub returns-then-t-lt8 : goal.returns-then-t-lt8
returns-then-t-lt8 c = short_misfit c.args.t.now c.if-t-lt8.true

pub returns-in_err-s : goal.returns-in_err-s
returns-in_err-s c =
    let p = err_from_is_err_and c.from_residual.result c.from_residual.ensures.1 in
    rw (p.1, p.2) (words_misfit c.args.t.now (rw (c.read-2.ensures.value, c.read.ensures.value) at c.in_err-s.ensures))

pub returns-then-t-bytes : goal.returns-then-t-bytes
returns-then-t-bytes c = size_fit c.args.t.now c.in_ok-s.s (read_size (goal.at.returns-then-t-bytes c).In_ok-s) (omega arith)

pub returns-else-t-bytes : goal.returns-else-t-bytes
returns-else-t-bytes c = length_misfit c.args.t.now c.in_ok-s.s (read_size (goal.at.returns-else-t-bytes c).In_ok-s) (λ e. c.if-t-bytes.false (omega arith))
