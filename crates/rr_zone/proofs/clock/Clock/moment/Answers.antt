use Rattle.std.proofs.Common.{FitsSigned, rules, w64, to_z-of_z, arith}
use Rattle.std.proofs.lemmas.Int.{ints}
use Rattle.std.specs.Prelude.{pos, ◌+ℤ◌, ◌-ℤ◌}
use Rattle.rr_zone.proofs.MomentLemmas.{early-of, early-years, moment-is, some-years, years-of}
use Rattle.rr_zone.proofs.NearLemmas.{years-near}
use Rattle.rr_zone.proofs.clock.Clock.moment.Goals as goal

pub moment_by-requires-clause-local : goal.moment_by-requires-clause-local
moment_by-requires-clause-local c = rw (to_z-of_z c.ranges.local) (years-near c.args.local c.requires)

pub moment_by-requires-clause-early : goal.moment_by-requires-clause-early
moment_by-requires-clause-early c =
    rw (to_z-of_z c.ranges.local)
    (early-years c.later_in_years.result _ (c.args.local -ℤ pos 86_400) (rw (to_z-of_z c.ranges.local) at c.later_in_years.ensures.value)
    (rw c.if-is_none.false at c.is_none.ensures) (omega (arith, ints)) c.later_in_years.ensures.years)

pub moment_by-requires-clause-late : goal.moment_by-requires-clause-late
moment_by-requires-clause-late c =
    rw (to_z-of_z c.ranges.local)
    (some-years c.in-Some.late _ (c.args.local +ℤ pos 86_400) (rw (to_z-of_z c.ranges.local) at c.in-Some.ensures.value) (omega (arith, ints)) c.in-Some.ensures.years)

pub moment_by-requires-clause-last : goal.moment_by-requires-clause-last
moment_by-requires-clause-last c =
    let late : FitsSigned w64 c.in-Some.late = search rules in
    let same = (years-of c.in-Some.late _ (c.args.local +ℤ pos 86_400) (rw (to_z-of_z c.ranges.local) at c.in-Some.ensures.value) (omega (arith, ints))).0 in
    rw (to_z-of_z c.ranges.local, ← same) (rw (to_z-of_z late) at c.in_ok-last.ensures.up_to)

pub returns-clause-value : goal.returns-clause-value
returns-clause-value c =
    let late : FitsSigned w64 c.in-Some.late = search rules in
    let years = years-of c.in-Some.late _ (c.args.local +ℤ pos 86_400) (rw (to_z-of_z c.ranges.local) at c.in-Some.ensures.value) (omega (arith, ints)) in
    moment-is c.moment_by.result c.args.self.now c.args.local c.in_ok-last.last
    (early-of c.later_in_years.result _ (c.args.local -ℤ pos 86_400) (rw (to_z-of_z c.ranges.local) at c.later_in_years.ensures.value)
    (rw c.if-is_none.false at c.is_none.ensures) (omega (arith, ints)))
    years.1 (rw (to_z-of_z late, years.0) at c.in_ok-last.ensures.onset) (rw (c.in_ok-last.ensures.zone, to_z-of_z c.ranges.local) at c.moment_by.ensures.value)
