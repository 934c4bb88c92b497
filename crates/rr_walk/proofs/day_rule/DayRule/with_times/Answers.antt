use Rattle.std.proofs.Common.{ap, length, to_z-of_z}
use Rattle.rr_model.specs.Rule.DaysAndTimes.{IsCandidateTime}
use Rattle.rr_walk.proofs.AloneRankLemmas.{numbered}
use Rattle.rr_walk.proofs.day_rule.DayRule.with_times.Goals as goal

pub returns-clause-found : goal.returns-clause-found
returns-clause-found c =
    let r = c.args.self.now in
    let u = rw c.self.view_is at c.self.invariant in
    numbered c.number_of_times.new.sets _ c.args.day c.self.inside.times (IsCandidateTime r.rule r.kind r.start) (to_z-of_z c.ranges.day)
    (ap (λ xs. length xs) c.as_slice-count.ensures.same) u.of_times c.in_ok-number.ensures.within c.in_ok-number.ensures.number
