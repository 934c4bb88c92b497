-- What the iterators over rules stand for.
use Rattle.std.specs.Prelude.{ℕ, List, ℤ}
use Rattle.rr_model.specs.Sets.Tree.{Tree}
use Rattle.rr_lazy.specs.Next.{IsSoundLazy}
use Rattle.rr_shapes.specs.Tables.{Extends}
use Rattle.rr_walk.specs.Ruling.{KnowsUnitOffsets, KnowsTimes, keeps_more, unit_offsets_more}
use Rattle.rr_walk.specs.Steps.{sound_ruling, tree_of_ruling}
use Rattle.rr_walk.specs.declared.rule_lazy.RuleLazy.{RuleLazy}
use Rattle.rr_walk.specs.declared.rule_lazy.RuleLazy.TheVariants.{FineUnits, WholeDays}

-- the chosen moments of the rule
abbrev pub tree_of_rule : RuleLazy → Tree
tree_of_rule (FineUnits a) = tree_of_ruling a.walk
tree_of_rule (WholeDays a) = tree_of_ruling a.walk

-- how far an iterator over a rule has come
abbrev pub position_of_rule : RuleLazy → ℤ
position_of_rule (FineUnits a) = a.position
position_of_rule (WholeDays a) = a.position

-- what it knows of a table of sets
abbrev pub knows_rule : RuleLazy → List (List ℕ) → Type 0
knows_rule (FineUnits a) sets = KnowsUnitOffsets a.walk sets
knows_rule (WholeDays a) sets = KnowsTimes a.walk sets

pub knows_rule_more : (s : RuleLazy) (old new : List (List ℕ)) → Extends old new → knows_rule s old → knows_rule s new
knows_rule_more (FineUnits a) old new more k = unit_offsets_more a.walk old new more k
knows_rule_more (WholeDays a) old new more k = keeps_more a.walk 0 _ old new more k

pub sound_rule : (s : RuleLazy) → IsSoundLazy (tree_of_rule s) (position_of_rule s)
sound_rule (FineUnits a) = sound_ruling a.walk a.position a.valid a.begun
sound_rule (WholeDays a) = sound_ruling a.walk a.position a.valid a.begun
