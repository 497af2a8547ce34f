-- The tight set's line with the benches that are in the list; the state stays.
use Rattle.counter_perform.proofs.Performing.{tight_fits, tight_replies}
use Rattle.counter_perform.proofs.ask_tight_set.Goals as goal

pub listing-requires-clause-k_in_bounds : goal.listing-requires-clause-k_in_bounds
listing-requires-clause-k_in_bounds c = tight_fits _ _ _ c.tight_set-answer.ensures

pub returns : goal.returns
returns c = tight_replies c.requires.room c.zero_list-list.ensures c.args.height c.tight_set-answer.ensures c.of.ensures.numbers c.listing.ensures
