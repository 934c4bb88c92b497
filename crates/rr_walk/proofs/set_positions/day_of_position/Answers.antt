use Rattle.std.proofs.Common.{to_z-of_z}
use Rattle.rr_walk.proofs.PositionDayLemmas.{day_of_none, day_of_some}
use Rattle.rr_walk.proofs.set_positions.day_of_position.Goals as goal

pub returns-in-None : goal.returns-in-None
returns-in-None c = day_of_none c.args.each c.args.count c.args.position (rw (c.in-None.is, to_z-of_z c.ranges.position) at c.rank_of.ensures)

pub returns-in-Some : goal.returns-in-Some
returns-in-Some c = day_of_some c.args.each c.args.count c.args.position c.in-Some.rank (rw (c.in-Some.is, to_z-of_z c.ranges.position) at c.rank_of.ensures)
