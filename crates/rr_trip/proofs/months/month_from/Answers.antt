use Rattle.std.proofs.Common.{to_z-of_z}
use Rattle.rr_trip.proofs.months.month_from.Goals as goal

pub returns : goal.returns
returns g c = record {
  begins = to_z-of_z c.ranges.first;
  signs = rw (c.month_length.ensures, to_z-of_z c.ranges.first) at c.in_ok-signs.ensures;
}
