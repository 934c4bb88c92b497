use Rattle.std.proofs.Common.{◌≡◌, arith, rules, w64, to_z, of_z, to_z-of_z, FitsSigned}
use Rattle.std.proofs.lemmas.Int.{ints}
use Rattle.rr_walk.proofs.fine_rule.FineRule.unit_offset.Goals as goal

pub first_fit-requires-clause-start : goal.first_fit-requires-clause-start
first_fit-requires-clause-start c =
    let fits : FitsSigned w64 c.self.inside.own_unit = search rules in
    rw (to_z-of_z fits) c.self.invariant.own_near

pub returns : goal.returns
returns c =
    let i = c.self.inside in
    let fits : FitsSigned w64 i.own_unit = search rules in
    let first = rw (to_z-of_z c.ranges.day) at (c.first_unit-first.ensures.value i.rule.week_start) in
    let a : to_z w64 (of_z w64 c.first_unit-first.result) ≡ c.first_unit-first.result =
    omega (arith, ints, c.first_unit-first.ensures.near.0, c.first_unit-first.ensures.near.1) in
    rw (← c.self.view_is) (rw (c.self.invariant.of_own, first) at (rw (a, to_z-of_z fits) at c.first_fit.ensures.value))
