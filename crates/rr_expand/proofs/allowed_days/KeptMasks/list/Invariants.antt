use Rattle.std.proofs.Common.{pos, nat_abs, ◌+ℤ◌, ◌-ℤ◌, ◌≤ℤ◌}
use Rattle.rr_expand.specs.KeptMasks.{AreKeptMasks, ListAllowed}
use Rattle.rr_expand.proofs.allowed_days.KeptMasks.list.Given as goal

abbrev pub invariant-loop-day : goal.invariant-loop-day
invariant-loop-day l = AreKeptMasks (record { rule = l.fn.rule; start_day = l.fn.start_day }) l.self
    × (l.fn.first ≤ℤ l.day)
    × (l.day ≤ℤ (l.fn.first +ℤ pos l.fn.count))
    × ListAllowed (record { rule = l.fn.rule; start_day = l.fn.start_day }) l.fn.first l.day l.days.items

abbrev pub decreases-loop-day : goal.decreases-loop-day
decreases-loop-day l = nat_abs ((l.fn.first +ℤ pos l.fn.count) -ℤ l.day)
