-- What the iterator over a series without the members of its excluded rules knows of a table of sets.
use Rattle.std.specs.Prelude.{ℕ, List}
use Rattle.rr_shapes.specs.Tables.{Extends}
use Rattle.rr_lazy.specs.Except.{KnowsBoth, knows_both_more}
use Rattle.rr_lazy.specs.Parts.{Part, part_of}
use Rattle.rr_model.specs.Sets.Tree.{Tree, except}
use Rattle.rr_iter.specs.KnowsAll.{knows_all, knows_all_more, tree_of_all}
use Rattle.rr_iter.specs.KnowsRules.{knows_rules, knows_rules_more, tree_of_rules}
use Rattle.rr_iter.specs.declared.kept_lazy.KeptLazy.{KeptLazy}

-- without the members of the excluded rules
abbrev pub tree_of_kept : KeptLazy → Tree
tree_of_kept s = except (tree_of_all s.lazy.a.lazy) (tree_of_rules s.lazy.b.lazy)

-- the dates and rules, with the day that they gave and that was not passed on
abbrev pub given_part : KeptLazy → Part
given_part s = part_of (tree_of_all s.lazy.a.lazy) s.lazy.a.lazy.lazy.position s.lazy.a.ahead

-- the excluded rules, with the day that they gave and that was not passed on
abbrev pub excluded_part : KeptLazy → Part
excluded_part s = part_of (tree_of_rules s.lazy.b.lazy) s.lazy.b.lazy.lazy.position s.lazy.b.ahead

-- what both know, and what is known of both
abbrev pub knows_kept : KeptLazy → List (List ℕ) → Type 0
knows_kept s sets = knows_all s.lazy.a.lazy sets × knows_rules s.lazy.b.lazy sets × KnowsBoth sets (given_part s) (excluded_part s) s.lazy.position

pub knows_kept_more : (s : KeptLazy) (old new : List (List ℕ)) → Extends old new → knows_kept s old → knows_kept s new
knows_kept_more s old new more k = (
  knows_all_more s.lazy.a.lazy old new more k.0,
  knows_rules_more s.lazy.b.lazy old new more k.1,
  knows_both_more old new (given_part s) (excluded_part s) s.lazy.position more k.2,
)
