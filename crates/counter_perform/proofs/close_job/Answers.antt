-- The closing on the table among the bytes, its answer noted, and its line with the jobs that it moved.
use Rattle.counter_perform.proofs.Performing.{closing_fits, closing_replies}
use Rattle.counter_perform.proofs.close_job.Goals as goal

pub listing-requires-clause-k_in_bounds : goal.listing-requires-clause-k_in_bounds
listing-requires-clause-k_in_bounds c = closing_fits _ _ c.closing-answer.ensures

pub returns : goal.returns
returns c = closing_replies c.requires.room c.zero_list-list.ensures c.noted.ensures.length c.noted.ensures.tally c.closing-answer.auto.t c.args.job c.closing-answer.ensures c.of.ensures.numbers c.listing.ensures
