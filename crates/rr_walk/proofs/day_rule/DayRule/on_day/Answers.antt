use Rattle.std.proofs.Common.{to_z-of_z}
use Rattle.std.proofs.lemmas.Result.{IfOk-weaker}
use Rattle.rr_model.specs.Sets.Tree.{chosen_of}
use Rattle.rr_walk.specs.Walk.{IsOnDayIn, IsDayOfTimes}
use Rattle.rr_walk.proofs.DayListLemmas.{occupied_on}
use Rattle.rr_walk.proofs.day_rule.DayRule.on_day.Goals as goal

pub returns-clause-found : goal.returns-clause-found
returns-clause-found c =
    let r = c.args.self.now in
    let sets = c.day_of_times.new.sets in
    let tree = chosen_of r.rule r.kind r.start in
    let day = to_z-of_z c.ranges.day in
    IfOk-weaker c.day_of_times.result (IsDayOfTimes sets c.args.day c.in_ok-times.times) (IsOnDayIn sets tree c.args.day)
    (λ f p. occupied_on sets tree c.args.day c.in_ok-times.times f (rw day at c.in_ok-times.ensures) p) (rw day at c.day_of_times.ensures.day)
