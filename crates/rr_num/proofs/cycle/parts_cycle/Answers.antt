use Rattle.std.proofs.Common.{sym, ap, ◌∙◌}
use Rattle.rr_num.proofs.PartsLemmas.{parts_calendar, parts_weekdays, one_or_seven}
use Rattle.rr_num.proofs.cycle.parts_cycle.Goals as goal

pub returns-then-asks_calendar-clause-value : goal.returns-then-asks_calendar-clause-value
returns-then-asks_calendar-clause-value c = sym (parts_calendar c.args.rule.now (sym c.asks_calendar.ensures ∙ c.if-asks_calendar.true))

pub returns-then-is_empty-clause-value : goal.returns-then-is_empty-clause-value
returns-then-is_empty-clause-value c =
    sym (parts_weekdays c.args.rule.now (sym c.asks_calendar.ensures ∙ c.if-asks_calendar.false)
    ∙ ap one_or_seven (sym c.is_empty.ensures ∙ c.if-is_empty.true))

pub returns-else-is_empty-clause-value : goal.returns-else-is_empty-clause-value
returns-else-is_empty-clause-value c =
    sym (parts_weekdays c.args.rule.now (sym c.asks_calendar.ensures ∙ c.if-asks_calendar.false)
    ∙ ap one_or_seven (sym c.is_empty.ensures ∙ c.if-is_empty.false))
