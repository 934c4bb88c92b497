use Rattle.std.proofs.Common.{◌∙◌, to_z-of_z}
use Rattle.std.specs.Prelude.{nat_lt}
use Rattle.rr_model.specs.Rising.Sets.{IsSetOf}
use Rattle.rr_model.specs.declared.kind.Kind.TheVariants.{Moments}
use Rattle.rr_model.specs.Rule.DaysAndTimes.{IsCandidateTime}
use Rattle.rr_expand.proofs.SetLemmas.{passed_below, ok_set}
use Rattle.rr_expand.proofs.TimeLemmas.{below_a_day, candidate_times}
use Rattle.rr_expand.proofs.day_times.times_of_day.Goals as goal

pub push_hours-requires-clause-hours : goal.push_hours-requires-clause-hours
push_hours-requires-clause-hours c = passed_below _ _ _ 24 c.deref.ensures.value c.in_ok-hours.ensures

pub push_hours-requires-clause-minutes : goal.push_hours-requires-clause-minutes
push_hours-requires-clause-minutes c = passed_below _ _ _ 60 c.deref-2.ensures.value c.in_ok-minutes.ensures

pub push_hours-requires-clause-seconds : goal.push_hours-requires-clause-seconds
push_hours-requires-clause-seconds c = passed_below _ _ _ 60 c.deref-3.ensures.value c.in_ok-seconds.ensures

times_set : (c : goal.After-as_slice) → IsSetOf nat_lt c.as_slice.result.now (IsCandidateTime c.args.rule.now Moments c.args.start)
times_set c =
    let start = to_z-of_z c.ranges.start in
    let hs = rw (c.time_of-own.ensures.hour, start) at c.in_ok-hours.ensures in
    let ms = rw (c.time_of-own.ensures.minute, start) at c.in_ok-minutes.ensures in
    let ss = rw (c.time_of-own.ensures.second, start) at c.in_ok-seconds.ensures in
    let made = rw (c.new-times.ensures.items, c.deref.ensures.value, c.deref-2.ensures.value, c.deref-3.ensures.value) at c.in_ok-push_hours.ensures in
    rw (c.as_slice.ensures.value ∙ made)
    (candidate_times c.args.rule.now c.args.start c.in_ok-hours.hours.items c.in_ok-minutes.minutes.items c.in_ok-seconds.seconds.items c.requires hs ms ss)

pub of-requires : goal.of-requires
of-requires c = below_a_day _ _ (λ s h. h.0) (times_set c)

pub returns : goal.returns
returns c = ok_set (IsCandidateTime c.args.rule.now Moments c.args.start) c.as_slice.result.now c.of.result
    (times_set c.before.before.before.before.before) c.of.ensures
