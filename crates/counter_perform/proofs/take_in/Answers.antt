-- The arrival on the table among the bytes, its answer noted, and its line with the jobs that it moved.
use Rattle.counter_perform.proofs.Performing.{arrival_fits, arrival_replies}
use Rattle.counter_perform.proofs.take_in.Goals as goal

pub listing-requires-clause-k_in_bounds : goal.listing-requires-clause-k_in_bounds
listing-requires-clause-k_in_bounds c = arrival_fits _ _ c.arrival-answer.ensures

pub returns : goal.returns
returns c = arrival_replies c.requires.room c.zero_list-list.ensures c.noted.ensures.length c.noted.ensures.tally c.arrival-answer.auto.t c.args.job c.args.first c.args.second c.arrival-answer.ensures c.of.ensures.numbers c.listing.ensures
