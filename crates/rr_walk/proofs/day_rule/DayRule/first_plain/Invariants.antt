use Rattle.std.proofs.Common.{pos, nat_abs, ◌-ℤ◌, ◌≤ℤ◌}
use Rattle.rr_model.specs.Calendar.{IsDayWithin}
use Rattle.rr_model.specs.Sets.Tree.{chosen_of}
use Rattle.rr_shapes.specs.Tables.{Extends}
use Rattle.rr_lazy.specs.Next.{HasNone}
use Rattle.rr_walk.specs.Ruling.{IsSameRuling, KnowsTimes}
use Rattle.rr_walk.proofs.day_rule.DayRule.first_plain.Given as goal

abbrev pub invariant-loop-candidate : goal.invariant-loop-candidate
invariant-loop-candidate l = IsSameRuling l.self l.fn.self
    × KnowsTimes l.self l.sets
    × Extends l.fn.sets l.sets
    × (l.from ≤ℤ l.day)
    × IsDayWithin 0 l.day
    × HasNone (chosen_of l.fn.self.rule l.fn.self.kind l.fn.self.start) l.from l.day

abbrev pub decreases-loop-candidate : goal.decreases-loop-candidate
decreases-loop-candidate l = nat_abs (pos 4_000_000_000_000 -ℤ l.day)
