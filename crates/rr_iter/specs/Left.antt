-- What is left of a series once the members of its excluded rules are taken out.
use Rattle.rr_model.specs.Series.Tree.{members_of_all, tree_of_given}
use Rattle.rr_model.specs.Sets.Tree.{Tree, except, many}
use Rattle.rr_model.specs.declared.rule.Series.{Series}

-- the start if it counts, the dates added and the members of the rules, except the members of the excluded rules
abbrev pub tree_of_left : Series → Tree
tree_of_left series = except (tree_of_given series) (many (members_of_all series.kind series.start series.excluded))
