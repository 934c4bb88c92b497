-- Two series whose zones are apart by a constant wherever they have a local time, or one for a while (RFC 5545, section 3.3.5).
use Rattle.std.specs.Prelude.{◌≡◌, ℤ, pos, ◌+ℤ◌, ◌-ℤ◌, ◌≤ℤ◌, ◌<ℤ◌}
use Rattle.std.specs.Int.{int_min}
use Rattle.rr_model.specs.Moment.{Occurrences, day_part}
use Rattle.rr_model.specs.declared.kind.Kind.TheVariants.{Moments}
use Rattle.rr_model.specs.declared.verdict.Verdict.{Verdict}
use Rattle.rr_model.specs.declared.verdict.Verdict.TheVariants.{Yes, No}
use Rattle.rr_true.specs.Occurrences.{HasNoMomentBefore}

-- from some moment on the first zone is so much further ahead than the second, and both series begin a day later or after that
pub record AreApartFor (f g : ℤ → ℤ) (P Q : Occurrences) (by : ℤ) : Type 0 where
  pub from : ℤ
  pub apart : (u : ℤ) → from ≤ℤ u → f u ≡ g u +ℤ by
  pub first : HasNoMomentBefore P (from +ℤ pos 86_400)
  pub second : HasNoMomentBefore Q (from +ℤ pos 86_400)

-- from one moment on and before another two zones have equal offsets
abbrev pub AreOneBetween : (ℤ → ℤ) → (ℤ → ℤ) → ℤ → ℤ → Type 0
AreOneBetween f g from end = (u : ℤ) → from ≤ℤ u → u <ℤ end → f u ≡ g u

-- the day before the one on which local times first differ, by the verdict on these; the end if they don't, or if it comes first
abbrev pub last_equal_day : Verdict → ℤ → ℤ
last_equal_day Yes end = end
last_equal_day (No kind at side) end = int_min end (day_part Moments at -ℤ pos 1)
