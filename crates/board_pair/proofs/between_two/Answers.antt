-- Two walks: one that is broken refuses, else both tell the answer.
use native.Mathlib.Omega.{arith}
use mathlib.Core.Path.{refl, sym, ◌∙◌}
use Rattle.board_answers.proofs.Formal.{passed_on}
use Rattle.board_pair.proofs.AskingPair.{first_refused, first_read, second_refused, second_read, both_few, pair_answered}
use Rattle.board_pair.proofs.between_two.Goals as goal

pub returns-in_err-one : goal.returns-in_err-one
returns-in_err-one c =
    passed_on c.from_residual.ensures.1 (first_refused c.requires.size_of c.args.first c.args.second c.requires.t c.in_err-one.ensures)

pub returns-in_err-other : goal.returns-in_err-other
returns-in_err-other c =
    let z = c.requires.size_of in
    let first = first_read z c.args.first c.args.second c.requires.t c.in_ok-one.ensures in
    passed_on c.from_residual-in_err-other.ensures.1 (second_refused z c.args.first c.args.second c.requires.t first c.in_err-other.ensures)

pub overflow_add-records : goal.overflow_add-records
overflow_add-records c =
    let z = c.requires.size_of in
    let first = first_read z c.args.first c.args.second c.requires.t c.in_ok-one.ensures in
    omega (arith, both_few z c.args.first c.args.second c.requires.t first (second_read z c.args.first c.args.second c.requires.t first c.in_ok-other.ensures))

pub returns-in-Some : goal.returns-in-Some
returns-in-Some c =
    let z = c.requires.size_of in
    let first = first_read z c.args.first c.args.second c.requires.t c.in_ok-one.ensures in
    let both = second_read z c.args.first c.args.second c.requires.t first c.in_ok-other.ensures in
    pair_answered z c.args.first c.args.second c.requires.t first both _ (sym c.in-Some.is ∙ c.or.ensures) refl

pub returns-in-None : goal.returns-in-None
returns-in-None c =
    let z = c.requires.size_of in
    let first = first_read z c.args.first c.args.second c.requires.t c.in_ok-one.ensures in
    let both = second_read z c.args.first c.args.second c.requires.t first c.in_ok-other.ensures in
    pair_answered z c.args.first c.args.second c.requires.t first both _ (sym c.in-None.is ∙ c.or.ensures) refl
