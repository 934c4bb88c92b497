-- One observance of a time zone (RFC 5545, section 3.6.5).
use Rattle.std.specs.Prelude.{◌≡◌, Bool, true, false, not, ◌&&◌, if◌then◌else◌, ℤ, int_le, List, [], ◌∷◌, All, codes, Option, None, Some, option_and_then, Result, Ok, Err}
use Rattle.std.specs.List.{list_all}
use Rattle.rr_model.specs.Moment.{is_same_kind}
use Rattle.rr_model.specs.Rule.Validity.{is_absent}
use Rattle.rr_model.specs.Series.Validity.{IsValidSeries}
use Rattle.rr_rule_parts.specs.Calendars.{calendar_scan}
use Rattle.rr_model.specs.Text.Event.{no_components, scan_of}
use Rattle.rr_model.specs.Text.Passes.{date_value}
use Rattle.rr_model.specs.declared.kind.Kind.TheVariants.{Moments}
use Rattle.rr_model.specs.declared.line.Line.{Line}
use Rattle.rr_model.specs.declared.refusal.Refusal.{Refusal}
use Rattle.rr_model.specs.declared.rule.End.{End}
use Rattle.rr_model.specs.declared.rule.End.TheVariants.{Until, Both}
use Rattle.rr_model.specs.declared.rule.Freq.{Freq}
use Rattle.rr_model.specs.declared.rule.Freq.TheVariants.{Yearly}
use Rattle.rr_model.specs.declared.rule.Rule.{Rule}
use Rattle.rr_model.specs.declared.rule.Series.{Series}
use Rattle.rr_model.specs.declared.stamp.Stamp.{Stamp}
use Rattle.rr_model.specs.declared.used.LineName.{LineName}
use Rattle.rr_model.specs.declared.used.LineName.TheVariants.{Dtstart}
use Rattle.rr_model.specs.declared.used.Scan.{Scan}
use Rattle.rr_model.specs.declared.used.UsedLine.{UsedLine}
use Rattle.rr_events.specs.Own.{first_value}
use Rattle.rr_iter.specs.Ends.{IsSoundRule}
use Rattle.rr_zone.specs.Offsets.{IsBelowDay, offset_value}
use Rattle.rr_zone.specs.declared.observance.Observance.{Observance}

-- a date value states a moment of local time
abbrev pub is_local : Result Stamp Refusal → Bool
is_local (Ok stamp) = is_same_kind stamp.kind Moments && not stamp.utc
is_local (Err r) = false

-- a used line is DTSTART
abbrev pub is_start : LineName → Bool
is_start Dtstart = true
is_start name = false

-- the first DTSTART of the used lines states a moment of local time
abbrev pub has_local_start : List UsedLine → Bool
has_local_start [] = false
has_local_start (line ∷ lines) = if is_start line.name then is_local (date_value line.number line.value) else has_local_start lines

-- a rule ends at no moment before the start, and at none of another kind
abbrev pub ends_not_before : ℤ → End → Bool
ends_not_before start (Until kind at) = is_same_kind kind Moments && int_le start at
ends_not_before start (Both kind at count) = is_same_kind kind Moments && int_le start at
ends_not_before start end = true

-- the unit is a year
abbrev pub is_yearly : Freq → Bool
is_yearly Yearly = true
is_yearly freq = false

-- a rule of an observance: yearly, at the time of the start
abbrev pub is_zone_rule : ℤ → Rule → Bool
is_zone_rule start rule =
    is_yearly rule.freq && is_absent rule.by_hour && is_absent rule.by_minute && is_absent rule.by_second && ends_not_before start rule.end

-- the onsets of an observance: moments, by rules of observances and dates, and nothing taken out; the start need not be chosen
abbrev pub is_zone_series : Series → Bool
is_zone_series series =
    is_same_kind series.kind Moments && is_absent series.excluded && is_absent series.minus && list_all (is_zone_rule series.start) series.rules

-- the observance of a series, if it is one of onsets
abbrev pub observance_with : ℤ → ℤ → Result Series Refusal → Option Observance
observance_with from to (Err r) = None
observance_with from to (Ok series) = if is_zone_series series then Some (record { series = series; from = from; to = to }) else None

-- the observance of the used lines; a moment of UTC, as UNTIL has to be, is turned by the offset before it
abbrev pub observance_by : ℤ → ℤ → Scan → Option Observance
observance_by from to scan = if has_local_start scan.used then observance_with from to (calendar_scan (Some from) scan) else None

-- The observance that the lines of a component state, if they state one.
abbrev pub observance_of : List Line → Option Observance
observance_of lines =
    option_and_then (λ from. option_and_then (λ to. observance_by from to (scan_of true 0 no_components lines))
    (offset_value (first_value (codes "TZOFFSETTO") lines))) (offset_value (first_value (codes "TZOFFSETFROM") lines))

-- ---- what is known of each of them

-- onsets are moments, by a valid series whose rules end not before the start, and the offsets are less than a day
pub record IsSoundObservance (o : Observance) : Type 0 where
  pub kind : o.series.kind ≡ Moments
  pub valid : IsValidSeries o.series
  pub rules : All (IsSoundRule Moments o.series.start) o.series.rules
  pub from : IsBelowDay o.from
  pub to : IsBelowDay o.to
