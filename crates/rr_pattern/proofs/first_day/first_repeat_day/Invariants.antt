use Rattle.std.proofs.Common.{pos, ◌+ℤ◌, ◌≡◌, ◌≤ℤ◌}
use borrow.Author.Gap.{gap}
use Rattle.rr_model.specs.Graph.Occurrences.{first_repeat_day, first_from, days_up_to, is_pattern_day}
use Rattle.rr_pattern.proofs.first_day.first_repeat_day.Given as goal

abbrev pub invariant-loop-next : goal.invariant-loop-next
invariant-loop-next l =
    (l.range.start_day ≤ℤ l.next)
    × (first_repeat_day l.pattern l.range ≡ first_from (is_pattern_day l.pattern l.range.start_day) l.next (days_up_to l.next l.last))

abbrev pub decreases-loop-next : goal.decreases-loop-next
decreases-loop-next l = gap l.next (l.last +ℤ pos 1)
