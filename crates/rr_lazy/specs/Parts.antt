-- A part of a combinator, and the day that it gave and that was not passed on yet.
use Rattle.std.specs.Prelude.{ℕ, List, All, Option, ℤ}
use Rattle.rr_model.specs.Sets.Tree.{Tree}
use Rattle.rr_lazy.specs.Ahead.{IsAheadIn}
use Rattle.rr_lazy.specs.declared.ahead.LazyPart.{LazyPart}
use Rattle.rr_lazy.specs.declared.occupied_day.OccupiedDay.{OccupiedDay}

-- a part: what it stands for, where it goes on, and the day that it gave and that was not passed on
pub record Part : Type 0 where
  pub tree : Tree
  pub own : ℤ
  pub ahead : Option OccupiedDay

-- the part with this tree, position and day
abbrev pub part_of : Tree → ℤ → Option OccupiedDay → Part
part_of tree own ahead = record { tree = tree; own = own; ahead = ahead }

-- a part as an iterator stands: its tree and its position, as `tree` and `position` tell them, and the day that it gave
abbrev pub part_in : {L : Type 0} → (L → Tree) → (L → ℤ) → LazyPart L → Part
part_in {L} tree position part = part_of (tree part.lazy) (position part.lazy) part.ahead

-- a part before it is asked and after
pub record AskedPart : Type 0 where
  pub before : Part
  pub after : Part

-- the part of an iterator that stood in one state and stands in another, of the same tree
abbrev pub asked_part : {L : Type 0} → (L → Tree) → (L → ℤ) → LazyPart L → LazyPart L → AskedPart
asked_part {L} tree position part part' = record {
  before = part_in tree position part;
  after = part_of (tree part.lazy) (position part'.lazy) part'.ahead;
}

-- of each part: what its iterator knows, and the day that it gave, from a day on
abbrev pub KnowsEachPart : {L : Type 0} → (L → List (List ℕ) → Type 0) → (L → Tree) → (L → ℤ) → List (List ℕ) → ℤ → List (LazyPart L) → Type 0
KnowsEachPart {L} knows tree position sets from parts =
    All (λ p. knows p.lazy sets × IsAheadIn sets (tree p.lazy) (position p.lazy) from p.ahead) parts
