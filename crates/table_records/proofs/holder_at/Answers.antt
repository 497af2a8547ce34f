-- The name at the holder's place, by `holder-word`; none where the place is not 1 or 2.
use Prim.Native.Nat.{ℕ, ◌+◌, ◌*◌}
use native.Mathlib.Omega.{arith}
use mathlib.Core.Path.{◌∙◌, subst}
use mathlib.Core.Logic.{⊎_elim, inl, inr}
use borrow.Author.Tests.{ltb-true}
use Rattle.table_words.specs.Bytes.{IsWord}
use Rattle.table_size.proofs.Written.{holder_word, holder_none}
use Rattle.table_records.proofs.holder_at.Goals as goal
use Rattle.table_records.proofs.holder_at.Goals.{After-read-place}

-- the word read is the holder's
place : (c : After-read-place) → let a = c.args in IsWord a.t.now (a.s.benches + 4 * a.j + 2) c.read-place.result
place c =
    let a = c.args in
    subst (λ (i : ℕ). IsWord a.t.now (i + 2) c.read-place.result) c.record_at.ensures c.read-place.ensures

pub returns-then-place-lt1 : goal.returns-then-place-lt1
returns-then-place-lt1 c =
    holder_none c.args.t.now c.args.s c.args.j c.requires.size_of c.requires.job_in c.read-place.result (place (goal.at.returns-then-place-lt1 c).After-read-place)
    (⊎_elim (λ w. inl (omega arith)) (λ w. inr (omega (arith, ltb-true))) c.then-place-lt1.either)

pub returns : goal.returns
returns c = c.name_at.ensures.value ∙ holder_word c.args.t.now c.args.s c.args.j c.requires.size_of c.requires.job_in c.read-place.result (place (goal.at.returns c).After-read-place)
