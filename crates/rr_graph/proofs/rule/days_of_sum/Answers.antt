use Rattle.std.proofs.Common.{sym, ◌∙◌}
use Rattle.rr_model.specs.Graph.Counterpart.{has_weekday}
use Rattle.rr_graph.proofs.WeekdayLemmas.{put_weekday, skip_weekday}
use Rattle.rr_graph.proofs.rule.days_of_sum.Goals.{then-is_day_in+in_ok-put, else-is_day_in}
use Rattle.rr_graph.proofs.rule.days_of_sum.Goals as goal

pub loop-weekday-preserved : goal.loop-weekday-preserved
loop-weekday-preserved c =
    let k = c.loop-weekday.weekday in
    let items = c.loop-weekday.items in
    elim c.if-is_day_in.branch [
      | then-is_day_in+in_ok-put w ↦ w.items-is ∙ w.in_ok-put.ensures.ok
          ∙ put_weekday (has_weekday c.args.days) items k c.loop-weekday-test.true c.loop-weekday.invariant (sym c.is_day_in.ensures ∙ w.if-is_day_in.true)
      | else-is_day_in w ↦ w.items-is
          ∙ skip_weekday (has_weekday c.args.days) items k c.loop-weekday-test.true c.loop-weekday.invariant (sym c.is_day_in.ensures ∙ w.if-is_day_in.false)
    ]
