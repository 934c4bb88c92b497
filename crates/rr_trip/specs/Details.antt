-- What a page says of the events of a line beside it.
use Rattle.std.specs.Prelude.{◌≡◌, ◌⊎◌, ℕ, zero, suc, true, false, ℤ, pos, ◌+ℤ◌, IfSome, List, [], ◌∷◌, ◌++◌, Option, None, Some, Result, Ok, Err}
use Rattle.rr_differ.specs.Further.{IsFurther}
use Rattle.rr_model.specs.Moment.{day_part}
use Rattle.rr_model.specs.Series.Validity.{IsValidSeries}
use Rattle.rr_model.specs.Sets.Sketch.{StandsIn}
use Rattle.rr_model.specs.declared.rule.Series.{Series}
use Rattle.rr_model.specs.declared.sketch.Sketch.{Sketch}
use Rattle.rr_model.specs.declared.verdict.Verdict.{Verdict}
use Rattle.rr_model.specs.declared.verdict.Verdict.TheVariants.{Yes, No}
use Rattle.rr_seam.specs.Stated.{Stated}
use Rattle.rr_seam.specs.declared.refusal.KeyRefusal.{KeyRefusal}
use Rattle.rr_trip.specs.Grid.{HasPicture, day_sign, day_times_text, first_of_month, has_month, month_after, month_length, usual_times}
use Rattle.rr_trip.specs.Judged.{IsRefused}
use Rattle.rr_trip.specs.Printed.{IsPrintableFurther}
use Rattle.rr_trip.specs.Report.{stated_in}
use Rattle.rr_trip.specs.Shown.{IsOfBoth}
use Rattle.rr_trip.specs.declared.detail.Detail.{Detail}
use Rattle.rr_trip.specs.declared.detail.Difference.{Difference}
use Rattle.rr_trip.specs.declared.detail.Month.{Month}
use Rattle.rr_days.specs.Sequence.{sketch}
use Rattle.rr_trip.specs.Pairs.{days_b}
use Rattle.rr_trip.specs.declared.pair.Judged.{Judged}
use Rattle.rr_trip.specs.declared.pair.Judged.TheVariants.{Told, Compared}
use Rattle.rr_trip.specs.declared.report.ReportLine.{ReportLine}

-- ---- months

-- the signs of n days in a row
abbrev pub signs_from : Sketch → Sketch → ℤ → ℕ → List ℕ
signs_from a b first zero = []
signs_from a b first (suc n) = signs_from a b first n ++ day_sign a b (first +ℤ pos n) ∷ []

-- the month is that which begins on this day, with the sign of each of its days
pub record IsMonth (a b : Sketch) (first : ℤ) (month : Month) : Type 0 where
  pub begins : month.first ≡ first
  pub signs : month.signs.items ≡ signs_from a b first (month_length first)

-- months that have a difference, of those that begin on these days
pub data AreMonths (a b : Sketch) : List ℤ → List Month → Type 0 where
  end : AreMonths a b [] []
  passed : (first : ℤ) (firsts : List ℤ) (months : List Month) → has_month a b first ≡ false → AreMonths a b firsts months → AreMonths a b (first ∷ firsts) months
  marked : (first : ℤ) (firsts : List ℤ) (month : Month) (months : List Month) → has_month a b first ≡ true → IsMonth a b first month
      → AreMonths a b firsts months → AreMonths a b (first ∷ firsts) (month ∷ months)

-- the months that begin on these days are put behind others, as far as they have a difference
pub record ArePut (a b : Sketch) (firsts : List ℤ) (old new : List Month) : Type 0 where
  pub months : List Month
  pub are : AreMonths a b firsts months
  pub is : new ≡ old ++ months

-- the month that begins on a day, and the two after it
abbrev pub three_months : ℤ → List ℤ
three_months first = first ∷ month_after first ∷ month_after (month_after first) ∷ []

-- the usual times, and the days of these months with others
abbrev pub times_text : Sketch → Sketch → ℤ → List ℕ
times_text a b first = day_times_text (usual_times a b first 92) a b first

-- ---- differences

-- how many occurrences exactly one of two sets of days has beside the first, and the months from that of a day on
pub record IsDifference (a b : Sketch) (day : ℤ) (difference : Difference) : Type 0 where
  pub comes : IsFurther (StandsIn a) (StandsIn b) difference.further
  pub printable : IsPrintableFurther difference.further
  pub months : HasPicture day → AreMonths a b (three_months (first_of_month day)) difference.months.items
  pub times : HasPicture day → difference.times.items ≡ times_text a b (first_of_month day)

-- where the local times of two sets of days differ, from the first of them on; nothing is told if they don't
abbrev pub IsDifferenceBy : Verdict → Sketch → Sketch → Option Difference → Type 0
IsDifferenceBy Yes a b difference = difference ≡ None
IsDifferenceBy (No kind at side) a b None = ⊥
IsDifferenceBy (No kind at side) a b (Some difference) = IsDifference a b (day_part kind at) difference

-- where they differ by what is known of a key
abbrev pub IsDifferenceOfJudged : Judged → Option Difference → Type 0
IsDifferenceOfJudged (Told told) difference = difference ≡ None
IsDifferenceOfJudged (Compared pair) difference = IsDifferenceBy pair.local (sketch pair.a.days) (sketch (days_b pair)) difference

-- where the local times of what A and B state differ
abbrev pub IsDifferenceOfBoth : Stated → Stated → Option Difference → Type 0
IsDifferenceOfBoth a b difference = IsOfBoth a b (λ verdict days_a days_b. IsDifferenceBy verdict days_a days_b difference)

-- the events of one side are refused
abbrev pub AreUncompared : Stated → Stated → Type 0
AreUncompared a b = IsRefused a ⊎ IsRefused b

-- where they differ, if both calendars have such events and both can be compared
abbrev pub IsDifferenceFor : Option Stated → Option Stated → Option Difference → Type 0
IsDifferenceFor a None difference = difference ≡ None
IsDifferenceFor None (Some b) difference = difference ≡ None
IsDifferenceFor (Some a) (Some b) difference = (AreUncompared a b × (difference ≡ None)) ⊎ IsDifferenceOfBoth a b difference

-- ---- what each calendar states

-- the series, unless it is refused
abbrev pub series_if : Result Series KeyRefusal → Option Series
series_if (Ok series) = Some series
series_if (Err refusal) = None

-- the series that the events of a line state in one calendar, if it has some and they state one
abbrev pub series_in : Option Stated → Option Series
series_in None = None
series_in (Some stated) = series_if stated.series

-- it is the series that they state, and valid
pub record IsSeriesIn (stated : Option Stated) (series : Option Series) : Type 0 where
  pub is : series ≡ series_in stated
  pub valid : IfSome series IsValidSeries

-- What a page says of the events of a line, which state this in A and in B: their series, and where their local times differ.
pub record IsDetail (a b : List ℕ → Stated) (line : ReportLine) (detail : Detail) : Type 0 where
  pub of_a : detail.series_a ≡ series_in (stated_in a line.in_a.items)
  pub of_b : detail.series_b ≡ series_in (stated_in b line.in_b.items)
  pub valid_a : IfSome detail.series_a IsValidSeries
  pub valid_b : IfSome detail.series_b IsValidSeries
  pub differs : IsDifferenceFor (stated_in a line.in_a.items) (stated_in b line.in_b.items) detail.difference
