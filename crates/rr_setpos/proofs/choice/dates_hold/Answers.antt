use Rattle.std.proofs.Common.{◌∙◌, sym}
use Rattle.rr_model.proofs.DaysAndTimesLemmas.{date_parts_hold-day}
use Rattle.rr_setpos.proofs.choice.dates_hold.Goals as goal

pub returns : goal.returns
returns c = c.date_parts_hold.ensures
    ∙ rw c.args.start.now.of_day (sym (date_parts_hold-day c.args.rule.now c.args.start.now.kind c.args.start.now.at c.args.day.now.number))
