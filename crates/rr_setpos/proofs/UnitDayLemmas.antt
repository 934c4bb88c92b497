-- How far the unit of a day goes.
use Rattle.std.proofs.Common.{◌≡◌, true, ℤ, pos, ◌+ℤ◌, ◌≤ℤ◌, ◌<ℤ◌, refl, arith}
use Rattle.std.proofs.lemmas.Int.{ints}
use Rattle.rr_model.specs.Calendar.{IsDayWithin}
use Rattle.rr_model.specs.Moment.Units.{unit_number, is_whole_days}
use Rattle.rr_model.specs.declared.kind.Kind.TheVariants.{Days}
use Rattle.rr_model.specs.declared.rule.Rule.{Rule}
use Rattle.rr_cal.proofs.StretchLemmas.{units_are_stretches}
use Rattle.rr_cal.proofs.DayUnitLemmas.{unit_length, unit_near}
use Rattle.rr_setpos.specs.Ranks.{first_of_unit, next_of_unit}

module _ (rule : Rule) (day : ℤ) (coarse : is_whole_days rule.freq ≡ true) where
  pub in_unit : (first_of_unit rule day ≤ℤ day) × (day <ℤ next_of_unit rule day)
  in_unit = (units_are_stretches rule.freq rule.week_start Days day (unit_number rule.freq rule.week_start Days day)).0 refl

  pub not_over : day ≤ℤ (first_of_unit rule day +ℤ pos 365)
  not_over =
      let n = unit_length rule.freq rule.week_start (unit_number rule.freq rule.week_start Days day) coarse in
      omega (arith, ints, in_unit.1, n.1, n.2)

  pub near_day : IsDayWithin 0 day → IsDayWithin 1000 (first_of_unit rule day) × IsDayWithin 1000 (next_of_unit rule day)
  near_day near = unit_near rule.freq rule.week_start day coarse near
