use Rattle.std.proofs.Common.{pos, nat_abs, ◌-ℤ◌, ◌≤ℤ◌}
use Rattle.rr_model.specs.Moment.{day_part}
use Rattle.rr_model.specs.Sets.Tree.{chosen_of}
use Rattle.rr_shapes.specs.Tables.{Extends}
use Rattle.rr_walk.specs.Ruling.{IsSameRuling, KnowsTimes}
use Rattle.rr_walk.specs.Walk.{IsWalked}
use Rattle.rr_walk.proofs.day_rule.DayRule.first_at_positions.Given as goal

abbrev pub invariant-loop-alloc : goal.invariant-loop-alloc
invariant-loop-alloc l = IsSameRuling l.self l.fn.self × KnowsTimes l.self l.sets × Extends l.fn.sets l.sets
    × IsWalked l.fn.self.rule (chosen_of l.fn.self.rule l.fn.self.kind l.fn.self.start) (day_part l.fn.self.kind l.fn.self.start) l.from l.unit
    × (l.unit ≤ℤ pos 8_000_000_000_000)

abbrev pub decreases-loop-alloc : goal.decreases-loop-alloc
decreases-loop-alloc l = nat_abs (pos 20_000_000_000_000 -ℤ l.unit)
