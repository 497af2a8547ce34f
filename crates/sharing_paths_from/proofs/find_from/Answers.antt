-- Each call goes one part further, on every board that the contract speaks of: the first level, the end, and the path to it.
use Rattle.spec_table.specs.Board.{Board}
use Rattle.spec_table.specs.Table.{decode}
use Rattle.table_board.specs.BoardView.{Loaded}
use Rattle.sharing_paths_from.specs.ArrivalSearch.{WithNew, FirstLevel, job_of, leads_to}
use Rattle.sharing_paths_from.proofs.Finding.{nothing_found, first_level, path_found}
use Rattle.sharing_paths_from.proofs.find_from.Goals as goal
use Rattle.sharing_paths_from.proofs.find_from.Goals.{After-begin_with-found}

-- the first level was found, on each board of which the contract speaks
begun : (c : After-begin_with-found) (b : Board) → WithNew (decode c.args.t.now) b c.args.s c.args.x c.args.arriving → Loaded b c.args.loads.now → FirstLevel (decode c.args.t.now) b c.args.s c.args.loads.now c.args.x (job_of c.args.arriving) (leads_to c.args.arriving) c.lightest-goal.result c.begin_with-found.result c.begin_with-found.new.queue c.begin_with-found.new.came
begun c b j l =
    first_level j c.requires.bench_in l c.lightest-goal.ensures c.if-loads-x.false (c.begin_with-found.ensures b j)

pub returns-then-loads-x : goal.returns-then-loads-x
returns-then-loads-x c =
    λ b j l.
    nothing_found j c.requires.bench_in l c.lightest-goal.ensures c.if-loads-x.true c.told-path

pub end_from-end-requires-clause-by_index : goal.end_from-end-requires-clause-by_index
end_from-end-requires-clause-by_index c =
    let (b, j, l) = c.requires.with_job in
    (b, _, _, begun (goal.at.end_from-end-requires-clause-by_index c).After-begin_with-found b j l)

pub follow_back-requires-clause-by_index : goal.follow_back-requires-clause-by_index
follow_back-requires-clause-by_index c =
    let (b, j, l) = c.requires.with_job in
    let e = c.end_from-end.ensures b _ _ (begun (goal.at.follow_back-requires-clause-by_index c).After-begin_with-found b j l) in
    (e.course, e.found, _, e.behind)

pub returns : goal.returns
returns c =
    λ b j l.
    let e = c.end_from-end.ensures b _ _ (begun (goal.at.returns c).After-begin_with-found b j l) in
    path_found j c.requires.bench_in e c.follow_back.array_long (c.follow_back.ensures e.course e.found _ e.behind)
