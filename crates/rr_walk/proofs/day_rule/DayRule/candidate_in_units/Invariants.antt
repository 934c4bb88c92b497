use Rattle.std.proofs.Common.{◌≡◌, pos, nat_abs, ◌-ℤ◌, ◌≤ℤ◌}
use Rattle.rr_walk.proofs.PlainLemmas.{IsLookedUpTo}
use Rattle.rr_walk.proofs.day_rule.DayRule.candidate_in_units.Given as goal

abbrev pub invariant-loop-unit : goal.invariant-loop-unit
invariant-loop-unit l = (l.self ≡ l.fn.self) × IsLookedUpTo l.fn.self l.from l.to l.unit × (l.unit ≤ℤ pos 8_000_000_000_000)

abbrev pub decreases-loop-unit : goal.decreases-loop-unit
decreases-loop-unit l = nat_abs (pos 20_000_000_000_000 -ℤ l.unit)
