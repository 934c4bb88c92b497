-- What the iterator over the dates that are added to a series and the members of its rules knows of a table of sets.
use Rattle.std.specs.Prelude.{ℕ, List, ⊤}
use Rattle.rr_shapes.specs.Tables.{Extends}
use Rattle.rr_lazy.specs.Ahead.{IsAheadIn}
use Rattle.rr_lazy.specs.Tables.{ahead_more}
use Rattle.rr_model.specs.Sets.Tree.{Tree, dates_of, union}
use Rattle.rr_iter.specs.KnowsRules.{knows_rules, knows_rules_more, tree_of_rules}
use Rattle.rr_iter.specs.declared.dates_and_rules.DatesAndRules.{DatesAndRules}

-- the dates and the members of the rules that the iterator unites
abbrev pub tree_of_all : DatesAndRules → Tree
tree_of_all s = union (dates_of s.lazy.a.lazy.kind s.lazy.a.lazy.dates) (tree_of_rules s.lazy.b.lazy)

-- nothing of the dates, what the rules know, and the day that each of the two gave and that was not passed on
abbrev pub knows_all : DatesAndRules → List (List ℕ) → Type 0
knows_all s sets =
    ⊤ × knows_rules s.lazy.b.lazy sets × IsAheadIn sets (dates_of s.lazy.a.lazy.kind s.lazy.a.lazy.dates) s.lazy.a.lazy.position s.lazy.position s.lazy.a.ahead
    × IsAheadIn sets (tree_of_rules s.lazy.b.lazy) s.lazy.b.lazy.lazy.position s.lazy.position s.lazy.b.ahead

pub knows_all_more : (s : DatesAndRules) (old new : List (List ℕ)) → Extends old new → knows_all s old → knows_all s new
knows_all_more s old new more k = (
  tt,
  knows_rules_more s.lazy.b.lazy old new more k.1,
  ahead_more old new (dates_of s.lazy.a.lazy.kind s.lazy.a.lazy.dates) s.lazy.a.lazy.position s.lazy.position s.lazy.a.ahead more k.2,
  ahead_more old new (tree_of_rules s.lazy.b.lazy) s.lazy.b.lazy.lazy.position s.lazy.position s.lazy.b.ahead more k.3,
)
