-- What the iterators over the members of a rule stand for.
use Rattle.std.specs.Prelude.{ℕ, List, ℤ}
use Rattle.rr_model.specs.Sets.Tree.{Tree, upto, first_n}
use Rattle.rr_lazy.specs.Next.{IsSoundLazy}
use Rattle.rr_lazy.specs.Upto.{sound_upto}
use Rattle.rr_lazy.specs.FirstN.{sound_first}
use Rattle.rr_shapes.specs.Tables.{Extends}
use Rattle.rr_walk.specs.Lazies.{knows_rule, knows_rule_more, position_of_rule, sound_rule, tree_of_rule}
use Rattle.rr_iter.specs.declared.upto_rule.UptoRule.{UptoRule}
use Rattle.rr_iter.specs.declared.ended_lazy.EndedLazy.{EndedLazy}
use Rattle.rr_iter.specs.declared.ended_lazy.EndedLazy.TheVariants.{Never, Until, Count, Both}

-- what stands in the tree of a rule up to a moment
abbrev pub tree_of_upto : UptoRule → Tree
tree_of_upto s = upto (tree_of_rule s.lazy.lazy) s.lazy.kind s.lazy.at

pub sound_upto_rule : (s : UptoRule) → IsSoundLazy (tree_of_upto s) s.lazy.position
sound_upto_rule s = sound_upto (tree_of_rule s.lazy.lazy) s.lazy.kind s.lazy.at s.lazy.position s.lazy.one_kind s.lazy.begun

-- the members of a rule, up to its end
abbrev pub tree_of_ended : EndedLazy → Tree
tree_of_ended (Never a) = tree_of_rule a
tree_of_ended (Until a) = tree_of_upto a
tree_of_ended (Count a) = first_n (tree_of_rule a.lazy) a.count
tree_of_ended (Both a) = first_n (tree_of_upto a.lazy) a.count

-- how far an iterator over a rule with its end has come
abbrev pub position_of_ended : EndedLazy → ℤ
position_of_ended (Never a) = position_of_rule a
position_of_ended (Until a) = a.lazy.position
position_of_ended (Count a) = a.position
position_of_ended (Both a) = a.position

-- what it knows of a table of sets
abbrev pub knows_ended : EndedLazy → List (List ℕ) → Type 0
knows_ended (Never a) sets = knows_rule a sets
knows_ended (Until a) sets = knows_rule a.lazy.lazy sets
knows_ended (Count a) sets = knows_rule a.lazy sets
knows_ended (Both a) sets = knows_rule a.lazy.lazy.lazy sets

pub knows_ended_more : (s : EndedLazy) (old new : List (List ℕ)) → Extends old new → knows_ended s old → knows_ended s new
knows_ended_more (Never a) old new more k = knows_rule_more a old new more k
knows_ended_more (Until a) old new more k = knows_rule_more a.lazy.lazy old new more k
knows_ended_more (Count a) old new more k = knows_rule_more a.lazy old new more k
knows_ended_more (Both a) old new more k = knows_rule_more a.lazy.lazy.lazy old new more k

pub sound_ended : (s : EndedLazy) → IsSoundLazy (tree_of_ended s) (position_of_ended s)
sound_ended (Never a) = sound_rule a
sound_ended (Until a) = sound_upto_rule a
sound_ended (Count a) = sound_first (tree_of_rule a.lazy) (position_of_rule a.lazy) a.position a.count a.left (sound_rule a.lazy) a.counting
sound_ended (Both a) = sound_first (tree_of_upto a.lazy) a.lazy.lazy.position a.position a.count a.left (sound_upto_rule a.lazy) a.counting
