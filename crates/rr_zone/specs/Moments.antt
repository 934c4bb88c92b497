-- The moment of UTC that a local time of a zone names (RFC 5545, section 3.3.5): the first one with that local time; in a gap by the offset before it.
use Rattle.std.specs.Prelude.{Bool, true, ◌&&◌, ◌||◌, if◌then◌else◌, ℤ, pos, ◌+ℤ◌, ◌-ℤ◌, int_le, int_lt, List, Option, None, Some}
use Rattle.rr_model.specs.Moment.Years.{is_in_years}
use Rattle.rr_model.specs.declared.kind.Kind.TheVariants.{Moments}
use Rattle.rr_zone.specs.Clocks.{offset_before, offset_from}
use Rattle.rr_zone.specs.Onsets.{first_of_zone, last_of_zone}
use Rattle.rr_zone.specs.declared.clock.Onset.{Onset}
use Rattle.rr_zone.specs.declared.observance.Observance.{Observance}

-- the moment of a local time that is so far ahead of UTC, if it is one of the years 1 to 9999
abbrev pub moment_at_offset : ℤ → ℤ → Option ℤ
moment_at_offset t offset = if is_in_years Moments (t -ℤ offset) then Some (t -ℤ offset) else None

-- no onset lies behind a moment
abbrev pub is_over : ℤ → Option Onset → Bool
is_over early None = true
is_over early (Some onset) = int_le onset.at early

-- how far a local time about an onset is ahead of UTC: as before the onset until the clock has passed it both as it was and as it is set then
abbrev pub offset_about : ℤ → Onset → ℤ → ℤ
offset_about before onset t = if int_lt t (onset.at +ℤ before) || int_lt t (onset.at +ℤ onset.to) then before else onset.to

-- by an onset and the one before it, if that lies a day before the local time, so that the clock is set once in these two days
abbrev pub moment_about : Option Onset → Option Onset → Onset → ℤ → Option ℤ
moment_about first previous onset t =
    if is_over (t -ℤ pos 86_400) previous then moment_at_offset t (offset_about (offset_from previous first) onset t) else None

-- by the last onset that is not more than a day after the local time
abbrev pub moment_by : List Observance → ℤ → Option Onset → Option ℤ
moment_by zone t None = moment_at_offset t (offset_before (first_of_zone None zone))
moment_by zone t (Some onset) =
    if int_le onset.at (t -ℤ pos 86_400) then moment_at_offset t onset.to
    else moment_about (first_of_zone None zone) (last_of_zone None zone (onset.at -ℤ pos 1)) onset t

-- The moment of UTC that a local time of a zone names. None if the clock of the zone is set twice in the two days about it, and if one of these days or
-- the moment lies outside of the years 1 to 9999.
abbrev pub utc_moment : List Observance → ℤ → Option ℤ
utc_moment zone t =
    if is_in_years Moments (t -ℤ pos 86_400) && is_in_years Moments (t +ℤ pos 86_400)
    then moment_by zone t (last_of_zone None zone (t +ℤ pos 86_400)) else None
