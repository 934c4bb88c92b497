-- What the iterator over the occurrences of a series stands for, and what it knows of a table of sets.
use Rattle.std.specs.Prelude.{ℕ, List, ℤ}
use Rattle.rr_shapes.specs.Tables.{Extends}
use Rattle.rr_model.specs.Sets.Tree.{Tree, without}
use Rattle.rr_lazy.specs.Next.{IsSoundLazy}
use Rattle.rr_lazy.specs.Stretch.{KnowsPart, sound_without}
use Rattle.rr_lazy.specs.Tables.{knows_part_more}
use Rattle.rr_iter.specs.Alone.{tree_alone}
use Rattle.rr_iter.specs.Ended.{knows_ended, knows_ended_more, position_of_ended, tree_of_ended}
use Rattle.rr_iter.specs.KnowsAlone.{sound_alone}
use Rattle.rr_iter.specs.KnowsKept.{knows_kept, knows_kept_more, tree_of_kept}
use Rattle.rr_iter.specs.declared.any_lazy.AnyLazy.{AnyLazy}
use Rattle.rr_iter.specs.declared.any_lazy.AnyLazy.TheVariants.{Alone, Whole}

-- the occurrences: without the dates that are taken out
abbrev pub tree_of_any : AnyLazy → Tree
tree_of_any (Alone a) = tree_alone a.kind a.start (tree_of_ended a.members)
tree_of_any (Whole a) = without (tree_of_kept a.part.lazy) a.kind a.dates

-- how far an iterator over a series has come
abbrev pub position_of_any : AnyLazy → ℤ
position_of_any (Alone a) = position_of_ended a.members
position_of_any (Whole a) = a.position

-- what it knows of a table of sets
abbrev pub knows_any : AnyLazy → List (List ℕ) → Type 0
knows_any (Alone a) sets = knows_ended a.members sets
knows_any (Whole a) sets =
    knows_kept a.part.lazy sets × KnowsPart sets (tree_of_kept a.part.lazy) a.part.lazy.lazy.position a.kind a.dates a.position a.part.ahead

pub knows_any_more : (s : AnyLazy) (old new : List (List ℕ)) → Extends old new → knows_any s old → knows_any s new
knows_any_more (Alone a) old new more k = knows_ended_more a.members old new more k
knows_any_more (Whole a) old new more k = (
  knows_kept_more a.part.lazy old new more k.0,
  knows_part_more old new (tree_of_kept a.part.lazy) a.part.lazy.lazy.position a.kind a.dates a.position a.part.ahead more k.1,
)

pub sound_any : (s : AnyLazy) → IsSoundLazy (tree_of_any s) (position_of_any s)
sound_any (Alone a) = sound_alone a
sound_any (Whole a) = sound_without (tree_of_kept a.part.lazy) a.kind a.dates a.position a.one_kind a.begun
