-- The next occurrence of a sequence, by its number in the sequence's own kind.
use Rattle.std.specs.Prelude.{◌≡◌, ◌⊎◌, ℕ, ⊤, [], Option, None, Some, ℤ, pos, ◌+ℤ◌, ◌≤ℤ◌, ◌<ℤ◌}
use Rattle.rr_model.specs.Moment.{day_part}
use Rattle.rr_model.specs.Sets.Sketch.{StandsIn, times_on}
use Rattle.rr_model.specs.declared.kind.Kind.{Kind}
use Rattle.rr_model.specs.declared.sketch.Sketch.{Sketch}

-- the number lies below the end, if there is one
abbrev pub IsBelow : Option ℤ → ℤ → Type 0
IsBelow None t = ⊤
IsBelow (Some end) t = t <ℤ end

-- the day from which on nothing lies below the end: the one after that of the end
abbrev pub stop_of : Kind → Option ℤ → Option ℤ
stop_of kind None = None
stop_of kind (Some end) = Some (day_part kind end +ℤ pos 1)

-- ---- days

-- no day from this one on and below the end is occupied
abbrev pub AreFreeFrom : Sketch → Option ℤ → ℤ → Type 0
AreFreeFrom s end from = (d : ℤ) → from ≤ℤ d → IsBelow end d → times_on s d ≡ []

-- the day is the first one from this one on that is occupied
pub record IsNextDay (s : Sketch) (from day : ℤ) : Type 0 where
  pub not_before : from ≤ℤ day
  pub occupied : times_on s day ≡ [] → ⊥
  pub none_earlier : (d : ℤ) → from ≤ℤ d → d <ℤ day → times_on s d ≡ []

-- the end lies one period after both days, or is the stop
pub record IsSearchEnd (from settled : ℤ) (period : ℕ) (stop : Option ℤ) (end : ℤ) : Type 0 where
  pub soon : (end ≤ℤ (from +ℤ pos period)) ⊎ (end ≤ℤ (settled +ℤ pos period))
  pub enough : (((from +ℤ pos period) ≤ℤ end) × ((settled +ℤ pos period) ≤ℤ end)) ⊎ (stop ≡ Some end)

-- the day comes within one period after the other, or after the settled day
abbrev pub IsSoon : Sketch → ℤ → ℤ → Type 0
IsSoon s from day = (day ≤ℤ (from +ℤ pos s.period)) ⊎ (day ≤ℤ (s.settled +ℤ pos s.period))

-- ---- occurrences

-- the number is the first from this one on that is an occurrence
pub record IsNextAt (s : Sketch) (at t : ℤ) : Type 0 where
  pub not_before : at ≤ℤ t
  pub stands : StandsIn s s.kind t
  pub none_earlier : (u : ℤ) → at ≤ℤ u → u <ℤ t → StandsIn s s.kind u → ⊥

-- no number from this one on and below the end is an occurrence
abbrev pub HasNoneFrom : Sketch → Option ℤ → ℤ → Type 0
HasNoneFrom s end at = (t : ℤ) → at ≤ℤ t → IsBelow end t → StandsIn s s.kind t → ⊥

-- the number is an occurrence, from this one on and below the end
pub record IsTaken (s : Sketch) (low : ℤ) (end : Option ℤ) (t : ℤ) : Type 0 where
  pub stands : StandsIn s s.kind t
  pub from : low ≤ℤ t
  pub below : IsBelow end t
