use Rattle.std.proofs.Common.{◌≡◌, take}
use Rattle.rr_model.specs.Graph.Counterpart.{has_weekday}
use Rattle.rr_graph.proofs.WeekdayLemmas.{passed, all_weekdays}
use Rattle.rr_graph.proofs.rule.days_of_sum.Given as goal

abbrev pub invariant-loop-weekday : goal.invariant-loop-weekday
invariant-loop-weekday l = l.items ≡ passed (has_weekday l.days) (take l.weekday all_weekdays)
