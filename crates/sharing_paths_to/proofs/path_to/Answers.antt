-- The trail is followed back, and its first job's holder is where it starts.
use Rattle.table_board.proofs.RecordsAsBoard.{sound_holds_board}
use Rattle.sharing_paths_to.proofs.Rounds.{path_job, path_found}
use Rattle.sharing_paths_to.proofs.path_to.Goals as goal

pub holder-bench-requires-clause-job_in : goal.holder-bench-requires-clause-job_in
holder-bench-requires-clause-job_in c =
    let (board, found, queue, without, k) = c.requires.by_index in
    let h = sound_holds_board c.args.t.now c.args.s c.requires.in_order.sound in
    rw c.from.ensures (path_job c.follow_back.new.path h without k c.requires.n_nonzero (c.follow_back.ensures k.course found queue k.behind))

pub returns : goal.returns
returns c =
    λ board found queue without k.
    let h = sound_holds_board c.args.t.now c.args.s c.requires.in_order.sound in
    path_found c.follow_back.new.path h without k c.requires.n_nonzero (c.follow_back.ensures k.course found queue k.behind) c.follow_back.array_long (rw c.from.ensures at c.holder-bench.ensures)
