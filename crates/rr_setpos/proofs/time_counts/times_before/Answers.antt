use Rattle.std.proofs.Common.{sym, rules, FitsSigned, w64, to_z-of_z}
use Rattle.rr_setpos.proofs.TimeCountLemmas.{times_of_date, times_of_day}
use Rattle.rr_setpos.proofs.time_counts.times_before.Goals as goal

pub returns-in-Days-clause-value : goal.returns-in-Days-clause-value
returns-in-Days-clause-value c = rw c.in-Days.is (sym (times_of_date c.args.rule.now c.args.start.now.at c.args.second))

pub returns-in-Moments-clause-value : goal.returns-in-Moments-clause-value
returns-in-Moments-clause-value c =
    let fits : FitsSigned w64 c.args.start.now.at = search rules in
    rw (c.in-Moments.is, c.before_in_day.ensures.value, c.time_of.ensures.hour, c.time_of.ensures.minute, c.time_of.ensures.second, to_z-of_z fits)
    (sym (times_of_day c.args.rule.now c.args.start.now.at c.args.second (rw c.in-Moments.is at c.requires)))
