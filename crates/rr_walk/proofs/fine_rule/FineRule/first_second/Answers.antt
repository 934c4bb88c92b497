use Rattle.std.proofs.Common.{◌≡◌, arith, of_z, to_z, to_z-of_z, w64}
use Rattle.std.proofs.lemmas.Int.{ints}
use Rattle.rr_model.specs.declared.kind.Kind.TheVariants.{Moments}
use Rattle.rr_model.specs.Moment.{day_part}
use Rattle.rr_walk.proofs.WalkLemmas.{start_near}
use Rattle.rr_walk.proofs.fine_rule.FineRule.first_second.Goals as goal

pub returns : goal.returns
returns c =
    let i = c.self.inside in
    let n = start_near Moments i.start i.start_day c.self.invariant.of_day c.self.invariant.valid.in_years in
    let day : to_z w64 (of_z w64 i.start_day) ≡ day_part Moments i.start = omega (arith, ints, n.0, n.1, c.self.invariant.of_day) in
    rw (← c.self.view_is) (rw (to_z-of_z c.ranges.day) at (c.first_second.ensures Moments i.start day c.self.invariant.of_second))
