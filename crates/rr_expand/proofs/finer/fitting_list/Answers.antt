use Rattle.std.proofs.Common.{◌∙◌, sym, rules, FitsSigned, w64, to_z, of_z, to_z-of_z}
use Rattle.rr_expand.proofs.UnitSets.{numbers_below}
use Rattle.rr_expand.proofs.FinerLemmas.{found_first, found_more, found_all}
use Rattle.rr_expand.proofs.finer.fitting_list.Goals as goal

pub loop-unit-init : goal.loop-unit-init
loop-unit-init c =
    let rule = c.args.rule.now in
    let start = to_z-of_z c.ranges.start in
    let day = to_z-of_z c.ranges.day in
    let fits_start : FitsSigned w64 c.unit_of.result = search rules in
    let fits_day : FitsSigned w64 c.first_unit-first.result = search rules in
    let start_unit = to_z-of_z fits_start ∙ rw start at (c.unit_of.ensures.value rule.week_start) in
    let day_unit = to_z-of_z fits_day ∙ rw day at (c.first_unit-first.ensures.value rule.week_start) in
    rw (start, day) (found_first rule c.args.start c.args.day c.first_fit-unit.result c.new-out.result.items c.requires.interval c.new-out.ensures.items
    (rw (start_unit, day_unit) at c.first_fit-unit.ensures.value))

pub push_unit-requires-clause-minutes : goal.push_unit-requires-clause-minutes
push_unit-requires-clause-minutes c = numbers_below _ _ _ _ _ c.deref.ensures.value c.requires.times.0

pub push_unit-requires-clause-seconds : goal.push_unit-requires-clause-seconds
push_unit-requires-clause-seconds c = numbers_below _ _ _ _ _ c.deref-in-loop-unit.ensures.value c.requires.times.1

pub loop-unit-preserved : goal.loop-unit-preserved
loop-unit-preserved c =
    let rule = c.args.rule.now in
    let low = rw c.units_of_day.ensures at c.loop-unit-test.true in
    let more = rw (c.deref.ensures.value, c.deref-in-loop-unit.ensures.value) at c.in_ok-push_unit.ensures in
    let times = rw (sym (to_z-of_z c.ranges.start)) at c.requires.times in
    rw c.from-unit.ensures
    (found_more rule (to_z w64 (of_z w64 c.args.start))
    (to_z w64 (of_z w64 c.args.day)) c.loop-unit.unit c.loop-unit.out.items c.push_unit.new.out.items c.args.times.now.minutes.items
    c.args.times.now.seconds.items
    c.requires.interval c.requires.freq low times more c.loop-unit.invariant)

pub returns : goal.returns
returns c = found_all c.args.rule.now c.args.start c.args.day c.loop-unit.unit c.loop-unit.out.items c.requires.freq
    (rw c.units_of_day.ensures at c.loop-unit-test.false) (rw (to_z-of_z c.ranges.start, to_z-of_z c.ranges.day) at c.loop-unit.invariant)
