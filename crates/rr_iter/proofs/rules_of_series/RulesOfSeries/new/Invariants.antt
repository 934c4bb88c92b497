use Rattle.std.proofs.Common.{◌≡◌, ℕ, List, All, pos, take}
use Rattle.rr_model.specs.Calendar.{first_day_of_year}
use Rattle.rr_model.specs.Sets.Tree.{many}
use Rattle.rr_model.specs.Series.Tree.{members_of_all}
use Rattle.rr_lazy.specs.Many.{forest_of}
use Rattle.rr_lazy.specs.Ahead.{IsAheadIn}
use Rattle.rr_iter.specs.Ended.{knows_ended, position_of_ended, tree_of_ended}
use Rattle.rr_iter.proofs.rules_of_series.RulesOfSeries.new.Given as goal

abbrev pub invariant-loop-rule : goal.invariant-loop-rule
invariant-loop-rule l =
    (many (forest_of (λ p. tree_of_ended p.lazy) l.lazy.parts.items) ≡ many (members_of_all l.kind l.start (take l.rule-index l.rules)))
    × (l.lazy.position ≡ first_day_of_year (pos 1))
    × ((sets : List (List ℕ)) → All (λ p. knows_ended p.lazy sets × IsAheadIn sets (tree_of_ended p.lazy) (position_of_ended p.lazy) l.lazy.position p.ahead)
    l.lazy.parts.items)
