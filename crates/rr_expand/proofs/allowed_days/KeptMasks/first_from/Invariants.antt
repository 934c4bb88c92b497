use Rattle.std.proofs.Common.{pos, nat_abs, ◌-ℤ◌}
use Rattle.rr_expand.specs.KeptMasks.{AreKeptMasks}
use Rattle.rr_expand.proofs.KeptMaskLemmas.{IsPassed}
use Rattle.rr_expand.proofs.allowed_days.KeptMasks.first_from.Given as goal

abbrev pub invariant-loop-day : goal.invariant-loop-day
invariant-loop-day l = AreKeptMasks (record { rule = l.fn.rule; start_day = l.fn.start_day }) l.self
    × IsPassed (record { rule = l.fn.rule; start_day = l.fn.start_day }) l.fn.from l.fn.end l.day

abbrev pub decreases-loop-day : goal.decreases-loop-day
decreases-loop-day l = nat_abs (pos 3_000_000_002_000 -ℤ l.day)
