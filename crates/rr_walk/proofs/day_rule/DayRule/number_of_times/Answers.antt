use Rattle.std.proofs.Common.{ap, sym}
use Rattle.std.specs.Prelude.{Some}
use Rattle.rr_walk.proofs.PlainLemmas.{keeps_one, placed_number}
use Rattle.rr_model.specs.Rule.DaysAndTimes.{IsCandidateTime}
use Rattle.rr_walk.proofs.day_rule.DayRule.number_of_times.Goals as goal

pub returns-in-Some-clause-within : goal.returns-in-Some-clause-within
returns-in-Some-clause-within c =
    let known = rw (sym c.self.view_is) at c.requires.knows in
    (known c.in-Some.number (ap (λ n. Some n) c.in-Some.is)).0

pub returns-clause-knows : goal.returns-clause-knows
returns-clause-knows c =
    let i = c.self.inside in
    let P = IsCandidateTime i.rule i.kind i.start in
    let at = placed_number c.place.new.self i.times c.as_slice.result.now c.in_ok-of.field-0 c.in_ok-number.number.index P
    c.in_ok-number.ensures.placed c.in_ok-of.ensures c.as_slice.ensures.same c.self.invariant.of_times in
    keeps_one c.place.new.self i.rule i.kind i.start c.in_ok-number.number P at.0 at.1

pub returns-clause-within : goal.returns-clause-within
returns-clause-within c =
    let i = c.self.inside in
    (placed_number c.place.new.self i.times c.as_slice.result.now c.in_ok-of.field-0 c.in_ok-number.number.index (IsCandidateTime i.rule i.kind i.start)
    c.in_ok-number.ensures.placed c.in_ok-of.ensures c.as_slice.ensures.same c.self.invariant.of_times).0

pub returns-clause-number : goal.returns-clause-number
returns-clause-number c =
    let i = c.self.inside in
    rw (← c.self.view_is)
    (placed_number c.place.new.self i.times c.as_slice.result.now c.in_ok-of.field-0 c.in_ok-number.number.index (IsCandidateTime i.rule i.kind i.start)
    c.in_ok-number.ensures.placed c.in_ok-of.ensures c.as_slice.ensures.same c.self.invariant.of_times).1
