use Rattle.std.specs.Prelude.{ℕ, ◌-◌, ◌≤◌, ◌<◌, length, get_or, pos, ◌≤ℤ◌}
use Rattle.rr_model.specs.Sets.Tree.{chosen_of}
use Rattle.rr_shapes.specs.Tables.{Extends}
use Rattle.rr_walk.proofs.DayListLemmas.{PassedDays}
use Rattle.rr_walk.proofs.day_rule.DayRule.first_of.Given as goal

abbrev pub invariant-loop-found : goal.invariant-loop-found
invariant-loop-found l = Extends l.fn.sets l.sets × PassedDays (chosen_of l.self.rule l.self.kind l.self.start) l.fn.days l.fn.from l.rank
    × ((k : ℕ) → l.rank ≤ k → k < length l.fn.days → l.fn.from ≤ℤ get_or l.fn.days k (pos 0))

abbrev pub decreases-loop-found : goal.decreases-loop-found
decreases-loop-found l = length l.fn.days - l.rank
