use Rattle.std.proofs.Common.{sym}
use Rattle.rr_setpos.proofs.TimeCountLemmas.{day_turns}
use Rattle.rr_setpos.proofs.time_counts.before_in_day.Goals as goal

pub returns-clause-value : goal.returns-clause-value
returns-clause-value c =
    rw (
      c.if_allowed.ensures.value,
      c.count_allowed-hours.ensures.value,
      c.before_in_hour.ensures.value,
      c.before_in_hour-2.ensures.value,
      c.allows_filled.ensures,
      c.wants_hour.ensures,
      c.wants_hour-2.ensures,
    )
    (sym (day_turns c.args.rule.now c.args.own.hour c.args.own.minute c.args.own.second c.args.second))
