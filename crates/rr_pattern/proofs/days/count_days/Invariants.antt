use Rattle.std.proofs.Common.{◌≡◌, ◌≤◌}
use Rattle.rr_model.specs.Whole.Count.{count_from}
use Rattle.rr_model.specs.Graph.Occurrences.{is_day_in}
use Rattle.rr_pattern.proofs.days.count_days.Given as goal

abbrev pub invariant-loop-k : goal.invariant-loop-k
invariant-loop-k l = (l.count ≡ count_from (is_day_in l.days) l.first l.k) × (l.count ≤ l.k)
