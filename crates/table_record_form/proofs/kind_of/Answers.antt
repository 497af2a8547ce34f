-- A record is told by its words: fitting, filled though it does not fit, or by the words after the first. Where ways of the tests
-- meet, each gives the same.
use native.Mathlib.Omega.{arith}
use mathlib.Core.Path.{sym, ◌∙◌, subst}
use mathlib.Core.Logic.{⊎_elim}
use lib.Dec.{T}
use borrow.Author.Tests.{eqb-true, eqb-false, leb-true}
use Rattle.spec_lists.proofs.Tests.{true→T}
use Rattle.table_record_form.proofs.KindOfRecord.{AllZero, Fits, vacant_kind, fitting_kind, unfit_kind}
use Rattle.table_record_form.proofs.kind_of.Goals as goal
use Rattle.table_record_form.proofs.kind_of.Goals.{Joined-else-has_bench, else-has_bench-via-then-has_bench+then-has_bench-2+then-first-second+then-holder-ge1+else-holder-le2, else-has_bench-via-then-has_bench+then-has_bench-2+then-first-second+else-holder-ge1, else-has_bench-via-then-has_bench+then-has_bench-2+else-first-second, else-has_bench-via-then-has_bench+else-has_bench-2, else-has_bench-via-else-has_bench}

pub returns-then-holder-le2 : goal.returns-then-holder-le2
returns-then-holder-le2 c =
    fitting_kind c.args.s.benches c.args.r
    (record {
      first = true→T _ (sym c.has_bench.ensures ∙ c.if-has_bench.true);
      second = true→T _ (sym c.has_bench-then-has_bench.ensures ∙ c.if-has_bench-2.true);
      apart = c.if-first-second.true;
      holder_least = omega (arith, leb-true);
      holder_most = omega (arith, leb-true);
    })

-- one of the tests of a fitting record fails
unfit : (c : Joined-else-has_bench) → Fits c.args.s.benches c.args.r → ⊥
unfit c f = elim c.else-has_bench.branch [
  | else-has_bench-via-then-has_bench+then-has_bench-2+then-first-second+then-holder-ge1+else-holder-le2 w ↦ omega arith
  | else-has_bench-via-then-has_bench+then-has_bench-2+then-first-second+else-holder-ge1 w ↦ omega arith
  | else-has_bench-via-then-has_bench+then-has_bench-2+else-first-second w ↦ f.apart w.if-first-second.false
  | else-has_bench-via-then-has_bench+else-has_bench-2 w ↦ subst T (sym w.has_bench-then-has_bench.ensures ∙ w.if-has_bench-2.false) f.second
  | else-has_bench-via-else-has_bench w ↦ subst T (sym c.has_bench.ensures ∙ w.if-has_bench.false) f.first
]

pub returns-then-first-ne0 : goal.returns-then-first-ne0
returns-then-first-ne0 c = unfit_kind c.args.s.benches c.args.r (λ z. c.if-first-ne0.true z.0) (unfit (goal.at.returns-then-first-ne0 c).Joined-else-has_bench)

pub returns-then-next-eq0 : goal.returns-then-next-eq0
returns-then-next-eq0 c =
    let z : AllZero c.args.r = omega (arith, eqb-true) in
    vacant_kind c.args.s.benches c.args.r z

pub returns-else-second-eq0 : goal.returns-else-second-eq0
returns-else-second-eq0 c = unfit_kind c.args.s.benches c.args.r (λ z. ⊎_elim (λ w. omega (arith, eqb-false)) (⊎_elim (λ w. omega (arith, eqb-false)) (λ w. omega arith)) c.else-second-eq0.either) (unfit (goal.at.returns-else-second-eq0 c).Joined-else-has_bench)
