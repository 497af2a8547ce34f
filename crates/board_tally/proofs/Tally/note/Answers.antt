-- All three counts are raised, or none.
use Rattle.board_tally.proofs.Noting.{tally_fits, counted_noted, full_noted}
use Rattle.board_tally.proofs.Tally.note.Goals as goal

pub returns-then-not-fits : goal.returns-then-not-fits
returns-then-not-fits c = full_noted c.args.self c.by-added.result c.fits.result c.fits.ensures c.args.answer (c.by-added.ensures c.args.self (tally_fits c.args.self _ c.well_formed.0)) c.if-not-fits.true

pub returns : goal.returns
returns c = counted_noted c.args.self c.by-added.result c.fits.result c.fits.ensures c.args.answer (c.by-added.ensures c.args.self (tally_fits c.args.self _ c.well_formed.0)) c.if-not-fits.false
