use Rattle.std.proofs.Common.{◌∙◌, rules, FitsSigned, w64, to_z-of_z, arith}
use Rattle.rr_setpos.proofs.TimeCountLemmas.{times_of_date, times_of_day}
use Rattle.rr_setpos.proofs.SelectLemmas.{time_at_second}
use Rattle.rr_setpos.proofs.select.nth_time.Goals as goal

pub nth_in_day-requires : goal.nth_in_day-requires
nth_in_day-requires c =
    let fits : FitsSigned w64 c.args.start.now.at = search rules in
    rw (c.time_of.ensures.hour, c.time_of.ensures.minute, c.time_of.ensures.second, to_z-of_z fits)
    (rw (times_of_day c.args.rule.now c.args.start.now.at 86_400 (omega arith)) at (rw c.in-Moments.is at c.requires))

pub returns-in-Days-clause-rank : goal.returns-in-Days-clause-rank
returns-in-Days-clause-rank c =
    let low = rw (times_of_date c.args.rule.now c.args.start.now.at 1) at (rw c.in-Days.is at c.requires) in
    rw c.in-Days.is (times_of_date c.args.rule.now c.args.start.now.at 0 ∙ omega (arith, low))

pub returns-in-Moments-clause-holds : goal.returns-in-Moments-clause-holds
returns-in-Moments-clause-holds c =
    let fits : FitsSigned w64 c.args.start.now.at = search rules in
    let holds = rw (c.time_of.ensures.hour, c.time_of.ensures.minute, c.time_of.ensures.second, to_z-of_z fits) at c.nth_in_day.ensures.holds in
    rw c.in-Moments.is (time_at_second c.args.rule.now c.args.start.now.at c.nth_in_day.result c.nth_in_day.ensures.within ∙ holds)

pub returns-in-Moments-clause-rank : goal.returns-in-Moments-clause-rank
returns-in-Moments-clause-rank c =
    let fits : FitsSigned w64 c.args.start.now.at = search rules in
    let rank = rw (c.time_of.ensures.hour, c.time_of.ensures.minute, c.time_of.ensures.second, to_z-of_z fits) at c.nth_in_day.ensures.rank in
    rw c.in-Moments.is (times_of_day c.args.rule.now c.args.start.now.at c.nth_in_day.result (omega (arith, c.nth_in_day.ensures.within)) ∙ rank)
