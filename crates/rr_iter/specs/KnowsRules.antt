-- What the iterator over the members of the rules of a series knows of a table of sets.
use Rattle.std.specs.Prelude.{ℕ, List}
use Rattle.std.specs.List.{All}
use Rattle.rr_shapes.specs.Tables.{Extends}
use Rattle.rr_lazy.specs.Ahead.{IsAheadIn}
use Rattle.rr_lazy.specs.Many.{forest_of}
use Rattle.rr_lazy.specs.Tables.{all_more}
use Rattle.rr_model.specs.Sets.Tree.{Tree, many}
use Rattle.rr_iter.specs.Ended.{knows_ended, knows_ended_more, position_of_ended, tree_of_ended}
use Rattle.rr_iter.specs.declared.rules_of_series.RulesOfSeries.{RulesOfSeries}

-- the members of the rules
abbrev pub tree_of_rules : RulesOfSeries → Tree
tree_of_rules s = many (forest_of (λ p. tree_of_ended p.lazy) s.lazy.parts.items)

-- what each rule knows, and the day that it gave and that was not passed on
abbrev pub knows_rules : RulesOfSeries → List (List ℕ) → Type 0
knows_rules s sets =
    All (λ p. knows_ended p.lazy sets × IsAheadIn sets (tree_of_ended p.lazy) (position_of_ended p.lazy) s.lazy.position p.ahead) s.lazy.parts.items

pub knows_rules_more : (s : RulesOfSeries) (old new : List (List ℕ)) → Extends old new → knows_rules s old → knows_rules s new
knows_rules_more s old new more k =
    all_more knows_ended tree_of_ended position_of_ended knows_ended_more s.lazy.position (λ p. p.lazy) (λ p. p.ahead) s.lazy.parts.items old new more k
