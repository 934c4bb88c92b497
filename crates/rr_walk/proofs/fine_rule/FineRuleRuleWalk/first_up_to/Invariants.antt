use Rattle.std.proofs.Common.{pos, nat_abs, ◌-ℤ◌, ◌≤ℤ◌}
use Rattle.rr_model.specs.declared.kind.Kind.TheVariants.{Moments}
use Rattle.rr_model.specs.Sets.Tree.{chosen_of}
use Rattle.rr_shapes.specs.Tables.{Extends}
use Rattle.rr_lazy.specs.Next.{HasNone}
use Rattle.rr_walk.specs.Ruling.{IsSameRuling, KnowsUnitOffsets}
use Rattle.rr_walk.proofs.fine_rule.FineRuleRuleWalk.first_up_to.Given as goal

abbrev pub invariant-loop-day : goal.invariant-loop-day
invariant-loop-day l =
    IsSameRuling l.self l.fn.self × KnowsUnitOffsets l.self l.sets × Extends l.fn.sets l.sets × (l.from ≤ℤ l.day) × (l.day ≤ℤ pos 4_000_000_000_000)
    × HasNone (chosen_of l.fn.self.rule Moments l.fn.self.start) l.from l.day

abbrev pub decreases-loop-day : goal.decreases-loop-day
decreases-loop-day l = nat_abs (pos 20_000_000_000_000 -ℤ l.day)
