-- Occurrences from a moment on, and up to another.
use Rattle.std.specs.Prelude.{ℤ, pos, ◌+ℤ◌, ◌*ℤ◌}
use Rattle.rr_model.specs.Whole.{floor_div}
use Rattle.rr_model.specs.Moment.{Before, Occurrences}
use Rattle.rr_model.specs.declared.kind.Kind.{Kind}
use Rattle.rr_model.specs.declared.kind.Kind.TheVariants.{Days, Moments}

-- the first does not come before the second
abbrev pub IsNotBefore : Kind → ℤ → Kind → ℤ → Type 0
IsNotBefore l u k t = Before l u k t → ⊥

-- the occurrences that do not come before a moment
abbrev pub from_on : Occurrences → Kind → ℤ → Occurrences
from_on P k t l u = P l u × IsNotBefore l u k t

-- the occurrences that do not come before one moment, and come before another
abbrev pub between : Occurrences → Kind → ℤ → Kind → ℤ → Occurrences
between P k t m v l u = P l u × IsNotBefore l u k t × Before l u m v

-- the least number of an occurrence of the first kind that does not come before a moment
abbrev pub number_from : Kind → Kind → ℤ → ℤ
number_from Days Days t = t
number_from Days Moments t = floor_div t 86_400 +ℤ pos 1
number_from Moments Days t = t *ℤ pos 86_400
number_from Moments Moments t = t
