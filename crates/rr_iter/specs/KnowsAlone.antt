-- What is known of the iterator over a series that has nothing but one rule, and its start.
use Rattle.rr_lazy.specs.Next.{IsSoundLazy}
use Rattle.rr_iter.specs.Alone.{tree_alone}
use Rattle.rr_iter.specs.Ended.{position_of_ended, sound_ended, tree_of_ended}
use Rattle.rr_iter.specs.declared.alone_lazy.AloneLazy.{AloneLazy}

pub sound_alone : (s : AloneLazy) → IsSoundLazy (tree_alone s.kind s.start (tree_of_ended s.members)) (position_of_ended s.members)
sound_alone s = record { of_kind = s.one_kind; in_years = (sound_ended s.members).in_years }
