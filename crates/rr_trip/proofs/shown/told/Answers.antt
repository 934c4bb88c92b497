use Rattle.std.proofs.Common.{rules, to_z-of_z}
use Rattle.rr_trip.proofs.shown.told.Goals as goal

pub returns : goal.returns
returns c = record {
  further = c.in_ok-further.further;
  picture = c.in_ok-months.months.items;
  comes = c.in_ok-further.ensures.further;
  painted = rw (to_z-of_z c.ranges.day, c.days_b-b.ensures) at c.in_ok-months.ensures;
  is = search rules;
}
