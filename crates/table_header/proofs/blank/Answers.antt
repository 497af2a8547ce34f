-- Sizes that fit are a size and its byte length, and a blank table is zero bytes with words 0 and 1 written.
use Rattle.std.proofs.Common.{◌≡◌, length, sym, arith}
use Rattle.std.proofs.lemmas.Result.{err_from_is_err_and}
use Rattle.spec_table.specs.Table.{length_for}
use Rattle.table_words.proofs.Bytes.{blank_bytes}
use Rattle.table_size.proofs.Sizes.{sizes_fit_lem, sizes_other, sizes_refused}
use Rattle.table_header.proofs.blank.Goals as goal

pub returns-in_err-s-clause-value : goal.returns-in_err-s-clause-value
returns-in_err-s-clause-value c =
    let p = err_from_is_err_and c.from_residual.result c.from_residual.ensures.1 in
    rw p.1 (sym (sizes_refused (length c.args.t.now) c.args.benches c.args.jobs c.in_err-s.ensures))

pub returns-then-t-bytes-clause-value : goal.returns-then-t-bytes-clause-value
returns-then-t-bytes-clause-value c =
    sym (sizes_other (length c.args.t.now) c.args.benches c.args.jobs c.in_ok-s.s c.in_ok-s.ensures (λ e. c.if-t-bytes.true (omega arith)))

pub returns-clause-value : goal.returns-clause-value
returns-clause-value c = sym (sizes_fit_lem (length c.args.t.now) c.args.benches c.args.jobs c.in_ok-s.s c.in_ok-s.ensures (omega arith))

pub returns-clause-t_after : goal.returns-clause-t_after
returns-clause-t_after c =
    let f = c.in_ok-s.ensures.value in
    let n : length c.args.t.now ≡ length_for c.args.benches c.args.jobs = omega (arith, f.same_benches, f.same_jobs) in
    rw (c.write-2.ensures, c.write.ensures, c.clear.ensures, n) (blank_bytes c.args.benches c.args.jobs)
