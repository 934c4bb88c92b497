-- What a date beside moments is read as, and why it can be read so.
use Rattle.std.specs.Prelude.{◌≡◌, ℕ, true, false, ℤ, List, Some, drop}
use Rattle.rr_model.specs.Moment.{day_part, moment_at, second_part}
use Rattle.rr_model.specs.Series.Occurrences.{Occurs}
use Rattle.rr_model.specs.Text.Moments.{basic}
use Rattle.rr_model.specs.declared.kind.Kind.TheVariants.{Moments}
use Rattle.rr_model.specs.declared.rule.Series.{Series}
use Rattle.rr_model.specs.declared.stamp.Stamp.{Stamp}
use Rattle.rr_icalfile.specs.Days.{have_one_time, is_unclear_day, stated_day, with_time}

-- On a day with no RDATE at another time of day, a series whose rules choose the time of day of its start alone occurs at that time, or not at all.
abbrev pub DayHasOneTime : Type 0
DayHasOneTime =
    (series : Series) (day t : ℤ) → series.kind ≡ Moments → have_one_time series ≡ true → is_unclear_day series (Some day) ≡ false
    → Occurs series Moments t → day_part Moments t ≡ day → t ≡ moment_at Moments day (second_part Moments series.start)

-- A date with the time of day of a start behind it states the moment of that day at that time, in UTC if the start is.
abbrev pub DateTakesTime : Type 0
DateTakesTime =
    (start text : List ℕ) (stamp : Stamp) (day : ℤ) → basic start ≡ Some stamp → stamp.kind ≡ Moments → stated_day text ≡ Some day
    → basic (with_time (drop 8 start) text)
    ≡ Some (record { kind = Moments; at = moment_at Moments day (second_part Moments stamp.at); utc = stamp.utc })
