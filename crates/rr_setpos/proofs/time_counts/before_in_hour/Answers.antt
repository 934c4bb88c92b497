use Rattle.std.proofs.Common.{sym}
use Rattle.rr_setpos.proofs.TimeCountLemmas.{hour_turns}
use Rattle.rr_setpos.proofs.time_counts.before_in_hour.Goals as goal

pub returns-clause-value : goal.returns-clause-value
returns-clause-value c =
    rw (
      c.if_allowed.ensures.value,
      c.count_allowed-minutes.ensures.value,
      c.before_in_minute.ensures.value,
      c.before_in_minute-2.ensures.value,
      c.allows_filled.ensures,
      c.wants_minute.ensures,
      c.wants_minute-2.ensures,
    )
    (sym (hour_turns c.args.rule.now c.args.own.minute c.args.own.second c.args.second))
