-- A series as calendars show it, as a function of the series (RFC 5545, sections 3.3.10 and 3.8.5.3).
use Rattle.std.specs.Prelude.{ℕ, zero, suc, ◌+◌, nat_lt, Bool, true, false, ◌&&◌, if◌then◌else◌, List, [], ◌∷◌, length, Option, None, Some, ℤ, pos, ◌+ℤ◌, ◌-ℤ◌, int_le, int_lt, nat_abs}
use Rattle.std.specs.Option.{is_some}
use Rattle.rr_model.specs.Moment.{is_same_kind}
use Rattle.rr_model.specs.Moment.Years.{is_in_years}
use Rattle.rr_model.specs.Rule.Chosen.{is_chosen}
use Rattle.rr_model.specs.Rule.Validity.{is_absent}
use Rattle.rr_model.specs.declared.kind.Kind.{Kind}
use Rattle.rr_model.specs.declared.kind.Kind.TheVariants.{Days, Moments}
use Rattle.rr_model.specs.declared.limits.TheConstants.{MAX_DATES}
use Rattle.rr_model.specs.declared.rule.End.{End}
use Rattle.rr_model.specs.declared.rule.End.TheVariants.{Never, Until, Count, Both}
use Rattle.rr_model.specs.declared.rule.Rule.{Rule}
use Rattle.rr_model.specs.declared.rule.Series.{Series}
use Rattle.rr_start.specs.Start.{restated}
use Rattle.rr_lenient.specs.Ends.{has_other_end, with_ends_of_kind}

-- ---- the first moment that is chosen

-- the first of n moments in a row, from this one on, that the rule chooses from the start
unfoldable pub chosen_among : Rule → Kind → ℤ → ℤ → ℕ → Option ℤ
chosen_among rule kind start t zero = None
chosen_among rule kind start t (suc n) = if is_chosen rule kind start t then Some t else chosen_among rule kind start (t +ℤ pos 1) n

-- the last date or moment of the year 9999
abbrev pub last_in_years : Kind → ℤ
last_in_years Days = pos 2_932_896
last_in_years Moments = pos 253_402_300_799

-- how many dates or moments come after this one, up to the end of the year 9999
abbrev pub count_after : Kind → ℤ → ℕ
count_after kind t = if int_lt t (last_in_years kind) then nat_abs (last_in_years kind -ℤ t) else 0

-- the first after the start, up to the end of the year 9999, that the rule chooses from it
abbrev pub chosen_after : Rule → Kind → ℤ → Option ℤ
chosen_after rule kind start = chosen_among rule kind start (start +ℤ pos 1) (count_after kind start)

-- ---- a start that is off its rule

-- the end of a rule has no COUNT, and its UNTIL, if it has one, is of the kind and not before this moment
abbrev pub reaches : Kind → ℤ → End → Bool
reaches kind t Never = true
reaches kind t (Until other at) = is_same_kind other kind && int_le t at
reaches kind t (Count count) = false
reaches kind t (Both other at count) = false

-- the moment, if it is in the years and the rule reaches it
abbrev pub if_reached : Kind → End → Option ℤ → Option ℤ
if_reached kind end None = None
if_reached kind end (Some t) = if is_in_years kind t && reaches kind t end then Some t else None

-- the moment from which on a rule goes that does not choose its start
abbrev pub goes_on : Kind → ℤ → Rule → Option ℤ
goes_on kind start rule = if is_chosen rule kind start start then None else if_reached kind rule.end (chosen_after rule kind start)

-- that of the one rule of a series
abbrev pub one_goes_on : Kind → ℤ → List Rule → Option ℤ
one_goes_on kind start [] = None
one_goes_on kind start (rule ∷ []) = goes_on kind start rule
one_goes_on kind start (rule ∷ next ∷ rules) = None

-- the start counts, nothing is excluded by a rule, and there is room for one date more
abbrev pub has_room : Series → Bool
has_room series = series.start_counts && (is_absent series.excluded && nat_lt (length series.plus + length series.minus) MAX_DATES)

-- the first moment of the rule of a series whose start is off it
abbrev pub first_on : Series → Option ℤ
first_on series = if has_room series then one_goes_on series.kind series.start series.rules else None

-- the series from that moment on
abbrev pub restated_from : Series → Option ℤ → Series
restated_from series None = series
restated_from series (Some first) = restated series first

-- ---- as it is read

-- a series as it is read, and how it is at odds with the standard: by an UNTIL of another kind, by its start
pub record ReadSeries : Type 0 where
  pub series : Series
  pub until : Bool
  pub start : Bool

-- a series as calendars show it
abbrev pub read_of : Series → ReadSeries
read_of given = record {
  series = restated_from (with_ends_of_kind given) (first_on (with_ends_of_kind given));
  until = has_other_end given;
  start = is_some (first_on (with_ends_of_kind given));
}
