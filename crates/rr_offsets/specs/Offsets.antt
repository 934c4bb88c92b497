-- How far local time of a zone is ahead of UTC (RFC 5545, section 3.6.5).
use Rattle.std.specs.Prelude.{Bool, ◌&&◌, if◌then◌else◌, ℤ, pos, ◌+ℤ◌, int_le, List, [], ◌∷◌, Option, None, Some}
use Rattle.rr_zone.specs.Onsets.{first_moment, first_of_zone, is_onset, last_of_zone}
use Rattle.rr_zone.specs.declared.clock.Onset.{Onset}
use Rattle.rr_zone.specs.declared.observance.Observance.{Observance}

-- before all onsets, of which this is the first: as it was prior to it; without any onset as in UTC
abbrev pub offset_before : Option Onset → ℤ
offset_before None = pos 0
offset_before (Some first) = first.from

-- by the last onset not after the moment, if there is one, and the first of all
abbrev pub offset_from : Option Onset → Option Onset → ℤ
offset_from None first = offset_before first
offset_from (Some last) first = last.to

-- How many seconds local time of a zone is ahead of UTC at a moment of UTC.
unfoldable pub offset_at : List Observance → ℤ → ℤ
offset_at zone at = offset_from (last_of_zone None zone at) (first_of_zone None zone)

-- ---- from one second to the next

-- an observance begins at a moment of UTC
abbrev pub begins : Observance → ℤ → Bool
begins o at = int_le first_moment (at +ℤ o.from) && is_onset o.series (at +ℤ o.from)

-- the offset of the first observance in the text that begins at a moment of UTC
abbrev pub new_offset : List Observance → ℤ → Option ℤ
new_offset [] at = None
new_offset (o ∷ os) at = if begins o at then Some o.to else new_offset os at
