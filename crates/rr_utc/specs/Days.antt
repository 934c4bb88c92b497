-- The true moments of a series on a day of UTC (RFC 5545, section 3.3.5).
use Rattle.std.specs.Prelude.{◌≡◌, ◌⊎◌, ◌↔◌, ℕ, List, ℤ}
use Rattle.std.specs.List.{Contains}
use Rattle.rr_model.specs.Moment.{day_part, moment_at}
use Rattle.rr_model.specs.Sets.Sketch.{StandsIn}
use Rattle.rr_model.specs.declared.kind.Kind.TheVariants.{Moments}
use Rattle.rr_model.specs.declared.sketch.Sketch.{Sketch}
use Rattle.rr_true.specs.Moments.{IsTrueMoment}
use Rattle.rr_true.specs.Occurrences.{TrueOf}

-- u is a true moment of the series, and lies on this day of UTC
abbrev pub TrueOn : (ℤ → ℤ) → Sketch → ℤ → ℤ → Type 0
TrueOn offset s day u = (day_part Moments u ≡ day) × TrueOf offset (StandsIn s) Moments u

-- u is the moment of one of these seconds of a local day, and lies on this day of UTC
pub record NamedOn (offset : ℤ → ℤ) (day local : ℤ) (times : List ℕ) (u : ℤ) : Type 0 where
  pub second : ℕ
  pub among : Contains times second
  pub moment : IsTrueMoment offset (moment_at Moments local second) u
  pub on_day : day_part Moments u ≡ day

-- the moments found are those that were found before and those of these seconds of a local day
abbrev pub AreWithNamed : (ℤ → ℤ) → ℤ → ℤ → List ℕ → List ℤ → List ℤ → Type 0
AreWithNamed offset day local times old new = (u : ℤ) → Contains new u ↔ (Contains old u ⊎ NamedOn offset day local times u)

-- the moments found are those that were found before, and this one if it lies on the day
abbrev pub AreWithMoment : ℤ → ℤ → List ℤ → List ℤ → Type 0
AreWithMoment day at old new = (u : ℤ) → Contains new u ↔ (Contains old u ⊎ ((at ≡ u) × (day_part Moments u ≡ day)))

-- the moments found are exactly the true moments of the series on a day of UTC
abbrev pub AreTrueOn : (ℤ → ℤ) → Sketch → ℤ → List ℤ → Type 0
AreTrueOn offset s day found = (u : ℤ) → Contains found u ↔ TrueOn offset s day u
