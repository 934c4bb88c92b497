use Rattle.std.proofs.Common.{◌+◌, ◌%◌}
use Rattle.std.specs.List.{list_any}
use Rattle.rr_expand.specs.LeftOut.{IsNextIn, has_weekday}
use Rattle.rr_expand.proofs.left_out.gap.Given as goal

abbrev pub invariant-loop-days : goal.invariant-loop-days
invariant-loop-days l = IsNextIn (λ i. list_any (has_weekday ((l.weekday + i) % 7)) l.items) 0 7 l.days
