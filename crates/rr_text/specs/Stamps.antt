-- What holds of each date or moment that a basic text states.
use Rattle.std.specs.Prelude.{◌≡◌, true}
use Rattle.rr_model.specs.Moment.Years.{IsInYears}
use Rattle.rr_model.specs.declared.kind.Kind.TheVariants.{Moments}
use Rattle.rr_model.specs.declared.stamp.Stamp.{Stamp}

-- a date or a moment of the years 1 to 9999; only a moment is marked as UTC
abbrev pub IsStamp : Stamp → Type 0
IsStamp stamp = IsInYears stamp.kind stamp.at × (stamp.utc ≡ true → stamp.kind ≡ Moments)
