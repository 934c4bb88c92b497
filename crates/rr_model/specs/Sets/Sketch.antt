-- A set of occurrences that repeats from some day on: its occupied days, each with the seconds of its occurrences.
use Rattle.std.specs.Prelude.{◌≡◌, ◌↔◌, ℕ, ◌<◌, ◌≤◌, if◌then◌else◌, Option, Some, None, List, [], ◌∷◌, nat_lt, ⊤, ℤ, pos, ◌+ℤ◌, ◌-ℤ◌, ◌≤ℤ◌, ◌<ℤ◌, int_lt}
use Rattle.std.specs.List.{All, Contains}
use Rattle.std.specs.Ordering.{int_eq}
use Rattle.rr_model.specs.Bounds.{earliest_near, latest_near, longest_period}
use Rattle.rr_model.specs.Whole.{floor_mod}
use Rattle.rr_model.specs.Moment.{Occurrences, day_part, second_part}
use Rattle.rr_model.specs.Rising.{Rises}
use Rattle.rr_model.specs.declared.kind.Kind.{Kind}
use Rattle.rr_model.specs.declared.kind.Kind.TheVariants.{Days, Moments}
use Rattle.rr_model.specs.declared.sketch.DayShape.{DayShape}
use Rattle.rr_model.specs.declared.sketch.Sketch.{Sketch}

-- ---- the seconds of a day

-- the seconds that a list of occupied days has for a day
abbrev pub times_in : List DayShape → ℤ → List ℕ
times_in [] d = []
times_in (s ∷ ss) d = if int_eq s.day d then s.times else times_in ss d

-- the day of the first period that a later day repeats
abbrev pub day_in_cycle : Sketch → ℤ → ℤ
day_in_cycle s d = s.settled +ℤ pos (floor_mod (d -ℤ s.settled) s.period)

-- the seconds of a day
abbrev pub times_on : Sketch → ℤ → List ℕ
times_on s d = if int_lt d s.settled then times_in s.before d else times_in s.cycle (day_in_cycle s d)

-- ---- what a sketch must meet

-- the days rise, from low on and below high
abbrev pub HasRisingDays : ℤ → ℤ → List DayShape → Type 0
HasRisingDays low high [] = ⊤
HasRisingDays low high (s ∷ ss) = (low ≤ℤ s.day) × (s.day <ℤ high) × HasRisingDays (s.day +ℤ pos 1) high ss

-- the seconds of an occupied day: of a date 0 alone, of moments one at least, rising and below 86,400
abbrev pub IsTimeSet : Kind → List ℕ → Type 0
IsTimeSet Days times = times ≡ 0 ∷ []
IsTimeSet Moments times = (times ≡ [] → ⊥) × Rises nat_lt times × All (λ x. x < 86_400) times

-- rising days below `settled`, then one period of days that repeats for ever
pub record IsValidSketch (s : Sketch) : Type 0 where
  pub period : 1 ≤ s.period
  pub before : (low : ℤ) × HasRisingDays low s.settled s.before
  pub cycle : HasRisingDays s.settled (s.settled +ℤ pos s.period) s.cycle
  pub before_times : All (λ x. IsTimeSet s.kind x.times) s.before
  pub cycle_times : All (λ x. IsTimeSet s.kind x.times) s.cycle

-- ---- what it says

-- an occurrence of the sketch's kind stands in it if its day has its second
pub record StandsIn (s : Sketch) (k : Kind) (t : ℤ) : Type 0 where
  pub kind : k ≡ s.kind
  pub second : Contains (times_on s (day_part k t)) (second_part k t)

-- exactly these occurrences stand in it
abbrev pub StandsFor : Sketch → Occurrences → Type 0
StandsFor s P = (k : Kind) (t : ℤ) → StandsIn s k t ↔ P k t

-- no day is occupied
abbrev pub IsEmptySketch : Sketch → Type 0
IsEmptySketch s = (d : ℤ) → times_on s d ≡ []

-- the first occupied day, none exactly if no day is
abbrev pub IsFirstDay : Sketch → Option ℤ → Type 0
IsFirstDay s None = IsEmptySketch s
IsFirstDay s (Some first) = (times_on s first ≡ [] → ⊥) × ((d : ℤ) → d <ℤ first → times_on s d ≡ [])

-- ---- day sequences

-- a day within 1,000,000,000 of day 0
abbrev pub IsNearDay : ℤ → Type 0
IsNearDay d = (earliest_near ≤ℤ d) × (d ≤ℤ latest_near)

-- what the sketch of every day sequence meets
pub record IsDaySequence (s : Sketch) : Type 0 where
  pub valid : IsValidSketch s
  pub settled : IsNearDay s.settled
  pub before : All (λ x. IsNearDay x.day) s.before
  pub first : (d : ℤ) → IsFirstDay s (Some d) → IsNearDay d
  pub period : s.period ≤ longest_period
