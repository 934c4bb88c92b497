-- What clocks of a zone show at a moment of UTC (RFC 5545, sections 3.3.5 and 3.6.5). Local time counts seconds since 1970-01-01T00:00:00.
use Rattle.std.specs.Prelude.{if◌then◌else◌, ℤ, pos, ◌+ℤ◌, int_lt, List, Option, None, Some}
use Rattle.rr_zone.specs.Onsets.{first_of_zone, last_of_zone}
use Rattle.rr_zone.specs.declared.clock.LocalTime.{LocalTime}
use Rattle.rr_zone.specs.declared.clock.LocalTime.TheVariants.{Once, Again, Skipping}
use Rattle.rr_zone.specs.declared.clock.Onset.{Onset}
use Rattle.rr_zone.specs.declared.observance.Observance.{Observance}

-- from an onset on, up to the next one
abbrev pub local_from : Onset → ℤ → LocalTime
local_from onset at =
    if int_lt (at +ℤ onset.to) (onset.at +ℤ onset.from) then Again (onset.at +ℤ onset.from)
    else (if int_lt (at +ℤ onset.from) (onset.at +ℤ onset.to) then Skipping (at +ℤ onset.to) else Once (at +ℤ onset.to))

-- before all onsets, of which this is the first: by the offset in use prior to it; without any onset as in UTC
abbrev pub local_before : Option Onset → ℤ → LocalTime
local_before None at = Once at
local_before (Some first) at = Once (at +ℤ first.from)

-- by the last onset not after the moment, if there is one, and the first of all
abbrev pub local_by : Option Onset → Option Onset → ℤ → LocalTime
local_by None first at = local_before first at
local_by (Some onset) first at = local_from onset at

-- local time less UTC before all onsets, of which this is the first: the offset in use prior to it; without any onset as in UTC
abbrev pub offset_before : Option Onset → ℤ
offset_before None = pos 0
offset_before (Some first) = first.from

-- local time less UTC by the last onset not after a moment, if there is one, and the first of all
abbrev pub offset_from : Option Onset → Option Onset → ℤ
offset_from None first = offset_before first
offset_from (Some last) first = last.to

-- The local time of a zone at a moment of UTC, and whether the clock was set at the last onset so that it is in doubt.
abbrev pub local_time : List Observance → ℤ → LocalTime
local_time zone at = local_by (last_of_zone None zone at) (first_of_zone None zone) at
