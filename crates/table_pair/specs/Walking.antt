-- A walk along a chain as the code tells it.
use Rattle.std.specs.Prelude.{ℕ, cond, length, Option, Some, None, Result, Ok, Err}
use Rattle.std.proofs.Math.Option as maybe
use Rattle.spec_lists.specs.Lists.{nth}
use Rattle.spec_table.specs.Table.{Layout, vacant}
use Rattle.spec_pair.specs.Pair as paper
use Rattle.table_refusals.specs.declared.Refusal.{Refusal}
use Rattle.table_refusals.specs.declared.Refusal.TheVariants.{Unsound}
use Rattle.table_pair.specs.declared.Walked.{Walked}

-- the first match
abbrev pub match_in : Option ℕ → maybe.Option ℕ
match_in None = maybe.none
match_in (Some m) = maybe.some m

-- each end of a walk, and how many records were read
abbrev pub end_of : paper.End → ℕ → Result Walked Refusal
end_of paper.broken read = Err Unsound
end_of paper.unmatched read = Ok (record { job = None; records = read })
end_of (paper.matched j) read = Ok (record { job = Some j; records = read })

-- the walk as 02 defines it
abbrev pub walk_of : paper.Walk → Result Walked Refusal
walk_of w = end_of w.end (length w.read)

-- what job j's record says to a walk along bench x's chain: it is refused, or matches, or leads to the next job
unfoldable pub step_at : Layout → ℕ → ℕ → ℕ → Result (Option ℕ) Refusal
step_at l x y j =
    let e = nth l.entries j vacant in
    cond (paper.is_held_by l.benches x e) (Ok (cond (paper.names_both x y e.names) None (Some e.next))) (Err Unsound)
