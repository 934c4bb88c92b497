-- An occurrence is a kind and a whole number (RFC 5545, sections 3.3.4 and 3.3.5).
pub mod Units
pub mod Years
use Rattle.std.specs.Prelude.{◌≡◌, ℕ, Bool, true, false, ◌⊎◌, ℤ, pos, ◌+ℤ◌, ◌*ℤ◌, ◌<ℤ◌}
use Rattle.rr_model.specs.Whole.{floor_div, floor_mod}
use Rattle.rr_model.specs.declared.kind.Kind.{Kind}
use Rattle.rr_model.specs.declared.kind.Kind.TheVariants.{Days, Moments}

-- the two kinds are one
abbrev pub is_same_kind : Kind → Kind → Bool
is_same_kind Days Days = true
is_same_kind Moments Moments = true
is_same_kind kind other = false

-- the day of a moment
abbrev pub day_part : Kind → ℤ → ℤ
day_part Days t = t
day_part Moments t = floor_div t 86_400

-- the second of a moment on its day
abbrev pub second_part : Kind → ℤ → ℕ
second_part Days t = 0
second_part Moments t = floor_mod t 86_400

-- the moment at a second of a day
abbrev pub moment_at : Kind → ℤ → ℕ → ℤ
moment_at Days day second = day
moment_at Moments day second = (day *ℤ pos 86_400) +ℤ pos second

-- where a date or a moment lies on the line of seconds: a date at its midnight
abbrev pub instant_of : Kind → ℤ → ℤ
instant_of Days t = t *ℤ pos 86_400
instant_of Moments t = t

-- a set of occurrences
abbrev pub Occurrences : Type 1
Occurrences = Kind → ℤ → Type 0

-- The first comes before the second: at an earlier instant, or as a date before the moment at its midnight.
abbrev pub Before : Kind → ℤ → Kind → ℤ → Type 0
Before k t l u = (instant_of k t <ℤ instant_of l u) ⊎ ((instant_of k t ≡ instant_of l u) × (k ≡ Days) × (l ≡ Moments))
