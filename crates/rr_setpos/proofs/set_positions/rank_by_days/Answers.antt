use Rattle.std.proofs.Common.{refl, rules, FitsSigned, to_z-of_z, w64}
use Rattle.rr_setpos.proofs.FitLemmas.{product_fits, same_within, sum_fits}
use Rattle.rr_setpos.proofs.set_positions.rank_by_days.Goals as goal

pub times_before-times-requires : goal.times_before-times-requires
times_before-times-requires c = same_within _ _ c.seconds_of.ensures

pub overflow_mul-result : goal.overflow_mul-result
overflow_mul-result c =
    product_fits _ _ _ c.args.start.now.kind c.days_before-before.ensures.few c.times_before-times.ensures.few c.seconds_of.ensures

pub overflow_add-result : goal.overflow_add-result
overflow_add-result c =
    sum_fits _ _ _ _ _ c.args.start.now.kind c.days_before-before.ensures.few c.times_before-times.ensures.few c.seconds_of.ensures
    c.times_before.ensures.few c.second_part-second.ensures.below

pub overflow_mul-result-2 : goal.overflow_mul-result-2
overflow_mul-result-2 c =
    product_fits _ _ _ c.args.start.now.kind c.days_of_unit-days.ensures.few c.times_before-times.ensures.few c.seconds_of.ensures

pub returns-clause-rank : goal.returns-clause-rank
returns-clause-rank c =
    let fits : FitsSigned w64 c.args.moment.now.at = search rules in
    rw (
      c.days_before-before.ensures.value,
      c.times_before-times.ensures.value,
      c.times_before.ensures.value,
      c.seconds_of.ensures,
      c.second_part-second.ensures.value,
      to_z-of_z fits,
    ) refl

pub returns-clause-size : goal.returns-clause-size
returns-clause-size c = rw (c.days_of_unit-days.ensures.value, c.times_before-times.ensures.value, c.seconds_of.ensures) refl
