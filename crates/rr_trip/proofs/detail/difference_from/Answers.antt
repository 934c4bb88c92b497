use Rattle.std.proofs.Common.{to_z-of_z}
use Rattle.rr_trip.proofs.detail.difference_from.Goals as goal

pub returns : goal.returns
returns c = record {
  comes = c.in_ok-further.ensures.further;
  printable = c.in_ok-further.ensures.printable;
  months = rw (to_z-of_z c.ranges.day, c.days_b-b.ensures) at c.in_ok-months.ensures;
  times = rw (to_z-of_z c.ranges.day, c.days_b-b.ensures) at c.in_ok-times.ensures;
}
