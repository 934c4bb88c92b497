use Rattle.std.proofs.Common.{◌≡◌, arith, of_z, to_z, to_z-of_z, w64}
use Rattle.std.proofs.lemmas.Int.{ints}
use Rattle.rr_model.specs.Moment.{day_part}
use Rattle.rr_walk.proofs.WalkLemmas.{start_near}
use Rattle.rr_walk.proofs.day_rule.DayRule.first_second.Goals as goal

pub returns : goal.returns
returns c =
    let i = c.self.inside in
    let n = start_near i.kind i.start i.start_day c.self.invariant.of_day c.self.invariant.valid.in_years in
    let day : to_z w64 (of_z w64 i.start_day) ≡ day_part i.kind i.start = omega (arith, ints, n.0, n.1, c.self.invariant.of_day) in
    rw (← c.self.view_is) (rw (to_z-of_z c.ranges.day) at (c.first_second.ensures i.kind i.start day c.self.invariant.of_second))
