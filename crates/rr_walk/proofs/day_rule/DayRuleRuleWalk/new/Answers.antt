use Rattle.std.proofs.Common.{rules, ◌≡◌, ◌∙◌, refl, arith, FitsSigned, w64, to_z, of_z, to_z-of_z}
use Rattle.std.proofs.lemmas.Bool.{false≢true}
use Rattle.std.proofs.lemmas.Int.{ints}
use Rattle.rr_model.specs.Calendar.{IsDayWithin}
use Rattle.rr_model.specs.Moment.{day_part}
use Rattle.rr_model.specs.Moment.Units.{unit_number}
use Rattle.rr_model.specs.declared.kind.Kind.TheVariants.{Days}
use Rattle.rr_cal.proofs.DayUnitLemmas.{unit_near}
use Rattle.rr_walk.proofs.WalkLemmas.{start_near}
use Rattle.rr_walk.proofs.day_rule.DayRuleRuleWalk.new.Goals as goal

pub new-requires : goal.new-requires
new-requires c =
    let n = start_near c.args.kind c.args.start c.day_part-start_day.result
    (rw (to_z-of_z c.ranges.start) at c.day_part-start_day.ensures) c.requires.in_years in
    (omega (arith, ints, n.0, n.1), omega (arith, ints, n.0, n.1))

pub whole_unit-requires-clause-near : goal.whole_unit-requires-clause-near
whole_unit-requires-clause-near c =
    let freq = c.args.rule.now.freq in
    let week_start = c.args.rule.now.week_start in
    let day_fits : FitsSigned w64 c.day_part-start_day.result = search rules in
    let own_fits : FitsSigned w64 c.unit_of-own_unit.result = search rules in
    let day : to_z w64 (of_z w64 c.day_part-start_day.result) ≡ day_part c.args.kind c.args.start =
    to_z-of_z day_fits ∙ rw (to_z-of_z c.ranges.start) at c.day_part-start_day.ensures in
    let own : to_z w64 (of_z w64 c.unit_of-own_unit.result) ≡ unit_number freq week_start Days (day_part c.args.kind c.args.start) =
    to_z-of_z own_fits ∙ rw day at c.unit_of-own_unit.ensures in
    let n = start_near c.args.kind c.args.start (day_part c.args.kind c.args.start) refl c.requires.in_years in
    let near : IsDayWithin 0 (day_part c.args.kind c.args.start) = (omega (arith, ints, n.0), omega (arith, ints, n.1)) in
    rw own (unit_near freq week_start (day_part c.args.kind c.args.start) c.requires.freq near).0

pub invariant_of-result : goal.invariant_of-result
invariant_of-result c =
    let freq = c.args.rule.now.freq in
    let week_start = c.args.rule.now.week_start in
    let start = to_z-of_z c.ranges.start in
    let day_fits : FitsSigned w64 c.day_part-start_day.result = search rules in
    let own_fits : FitsSigned w64 c.unit_of-own_unit.result = search rules in
    let day : to_z w64 (of_z w64 c.day_part-start_day.result) ≡ day_part c.args.kind c.args.start =
    to_z-of_z day_fits ∙ rw start at c.day_part-start_day.ensures in
    let own : to_z w64 (of_z w64 c.unit_of-own_unit.result) ≡ unit_number freq week_start Days (day_part c.args.kind c.args.start) =
    to_z-of_z own_fits ∙ rw day at c.unit_of-own_unit.ensures in
    rw (c.in_ok-copy.ensures, start, day, own) (record {
      freq = c.requires.freq;
      valid = record { valid = c.requires.valid; in_years = c.requires.in_years };
      of_day = refl;
      of_second = rw start at c.second_part.ensures.value;
      of_times = rw start at c.in_ok-times.ensures;
      of_allowed = rw day at c.in_ok-allowed.ensures;
      of_own = refl;
      of_last = refl;
      of_unit = c.whole_unit.ensures.unit;
      held = λ h. absurd (false≢true h);
    })
