-- What comes next in two sets of two kinds, all of whose occurrences are differences.
use Rattle.std.specs.Prelude.{◌≡◌, ◌⊎◌, ℕ, ◌+◌, ◌*◌, List, Contains, Option, None, Some, IfSome, ℤ, pos, ◌≤ℤ◌, ◌<ℤ◌}
use Rattle.rr_model.specs.Bounds.{earliest_near}
use Rattle.rr_model.specs.Moment.{day_part}
use Rattle.rr_model.specs.Sets.Sketch.{StandsIn}
use Rattle.rr_model.specs.declared.sketch.Sketch.{Sketch}
use Rattle.rr_model.specs.declared.verdict.Side.{Side}
use Rattle.rr_next.specs.Next.{IsNextAt}
use Rattle.rr_differ.specs.Differences.{ComesBefore}
use Rattle.rr_differ.specs.declared.difference.Difference.{Difference}

-- an occurrence of a set, as a difference on its side
abbrev pub difference_in : Sketch → Side → ℤ → Difference
difference_in s side at = record { kind = s.kind; at = at; side = side }

-- it is the first occurrence of the set from this number on, on its side
pub record IsNextOf (s : Sketch) (side : Side) (at : ℤ) (d : Difference) : Type 0 where
  pub next : IsNextAt s at d.at
  pub is : d ≡ difference_in s side d.at

-- it is an occurrence of the set that comes after all that were found, and all lesser ones were found
pub record IsPendingAt (s : Sketch) (side : Side) (found : List Difference) (d : Difference) : Type 0 where
  pub is : d ≡ difference_in s side d.at
  pub stands : StandsIn s s.kind d.at
  pub lesser : (t : ℤ) → t <ℤ d.at → StandsIn s s.kind t → Contains found (difference_in s side t)
  pub last : (e : Difference) → Contains found e → ComesBefore e d

-- the first occurrence of the set that was not found yet; none if all were found
abbrev pub IsPending : Sketch → Side → List Difference → Option Difference → Type 0
IsPending s side found None = (t : ℤ) → StandsIn s s.kind t → Contains found (difference_in s side t)
IsPending s side found (Some d) = IsPendingAt s side found d

-- the one that comes before the other, of those that are there
abbrev pub IsLesser : Option Difference → Option Difference → Option Difference → Type 0
IsLesser a b None = (a ≡ None) × (b ≡ None)
IsLesser a b (Some d) = ((a ≡ Some d) × IfSome b (ComesBefore d)) ⊎ ((b ≡ Some d) × IfSome a (ComesBefore d))

-- the day lies no further than n steps of a period each past the days that a sequence names
abbrev pub IsWithinSteps : ℕ → Difference → Type 0
IsWithinSteps n d = (earliest_near ≤ℤ day_part d.kind d.at) × (day_part d.kind d.at ≤ℤ pos (1_000_000_001 + n * 16_777_218))
