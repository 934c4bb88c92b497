use Rattle.rr_trip.proofs.GridLemmas.{decimal_four}
use Rattle.rr_trip.proofs.grid.push_year.Goals as goal

pub returns : goal.returns
returns c = rw (decimal_four c.args.year c.if-year-lt10000.false c.ranges.year.fits) c.in_ok-push_unsigned.ensures.ok
