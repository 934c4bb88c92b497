-- Which pattern and range of Microsoft Graph are the first that have the occurrences of a set (recurrencePattern, recurrenceRange).
use Rattle.std.specs.Prelude.{◌≡◌, ℕ, ◌+◌, ◌%◌, ◌==◌, nat_lt, Bool, false, ◌&&◌, ◌||◌, List, [], ◌∷◌, ℤ, pos, negsuc}
use Rattle.rr_family.specs.DaySets.{IsNumbered, IsOneSecond, IsLastDay, window_days}
use Rattle.rr_family.specs.Lasting.{is_occupied, FitsCycle, HasCycle}
use Rattle.rr_family.specs.Profile.{IsWindow}
use Rattle.rr_family.specs.Shift.{form_cycle}
use Rattle.rr_family.specs.Taking.{AgreeWithin}
use Rattle.rr_model.specs.Graph.Laws.{StartsOnPattern}
use Rattle.rr_model.specs.Graph.Occurrences.{is_pattern_day, IsGraphOccurrence}
use Rattle.rr_model.specs.Graph.Validity.{IsValidGraphEvent, IsValidPattern}
use Rattle.rr_model.specs.Moment.{Occurrences, day_part, second_part, moment_at}
use Rattle.rr_model.specs.Moment.Years.{IsInYears}
use Rattle.rr_model.specs.Sets.Least.{IsEndless}
use Rattle.rr_model.specs.Sets.Sketch.{IsValidSketch, StandsFor, StandsIn}
use Rattle.rr_model.specs.Sets.Verdict.{HaveEqualOccurrences}
use Rattle.rr_model.specs.Whole.Count.{count_from}
use Rattle.rr_model.specs.declared.graph.Form.{Form}
use Rattle.rr_model.specs.declared.graph.Form.TheVariants as form
use Rattle.rr_model.specs.declared.graph.GraphEvent.{GraphEvent}
use Rattle.rr_model.specs.declared.graph.Pattern.{Pattern}
use Rattle.rr_model.specs.declared.graph.Range.{Range}
use Rattle.rr_model.specs.declared.graph.RangeEnd.{RangeEnd}
use Rattle.rr_model.specs.declared.graph.RangeEnd.TheVariants.{NoEnd, EndDate, Numbered}
use Rattle.rr_model.specs.declared.graph.Repeat.TheVariants as repeat
use Rattle.rr_model.specs.declared.kind.Kind.{Kind}
use Rattle.rr_model.specs.declared.sketch.Sketch.{Sketch}

-- the range that begins on this day
abbrev pub range_from : ℤ → RangeEnd → Range
range_from day end = record { start_day = day; end = end }

-- the event of this pattern and range
abbrev pub event_of : Pattern → Range → Kind → ℤ → GraphEvent
event_of pattern range kind start = record { kind = kind; start = start; repeat = repeat.Pattern pattern range }

-- The event of the pattern and range is valid, and has exactly the occurrences of the set.
pub record IsPatternOf (P : Occurrences) (pattern : Pattern) (range : Range) (kind : Kind) (start : ℤ) : Type 0 where
  pub valid : IsValidGraphEvent (event_of pattern range kind start)
  pub equal : HaveEqualOccurrences (IsGraphOccurrence (event_of pattern range kind start)) P

-- ---- the order of patterns

-- the place of a type among the six
abbrev pub form_place : Form → ℕ
form_place form.Daily = 0
form_place form.Weekly = 1
form_place form.AbsoluteMonthly = 2
form_place form.RelativeMonthly = 3
form_place form.AbsoluteYearly = 4
form_place form.RelativeYearly = 5

-- first, second, third, fourth, last
abbrev pub index_place : ℤ → ℕ
index_place (pos n) = n
index_place (negsuc n) = 5 + n

-- interval, type, firstDayOfWeek from Sunday, dayOfMonth, month, index, daysOfWeek
abbrev pub pattern_key : Pattern → List ℕ
pattern_key p = p.interval ∷ form_place p.form ∷ (p.first_day + 1) % 7 ∷ p.day_of_month ∷ p.month ∷ index_place p.index ∷ p.days ∷ []

-- the first number in which two lists differ is less
abbrev pub key_lt : List ℕ → List ℕ → Bool
key_lt (x ∷ xs) (y ∷ ys) = nat_lt x y || ((x == y) && key_lt xs ys)
key_lt xs ys = false

-- no earlier pattern has the occurrences
abbrev pub NoneBeforePattern : Occurrences → Pattern → Type 0
NoneBeforePattern P found =
    (pattern : Pattern) (range : Range) (kind : Kind) (start : ℤ) → IsPatternOf P pattern range kind start
    → key_lt (pattern_key pattern) (pattern_key found) ≡ false

-- without an end for an endless set, and for a finite one with the number of its occurrences
abbrev pub EndsAs : Sketch → ℤ → RangeEnd → Type 0
EndsAs s first NoEnd = IsEndless s
EndsAs s first (EndDate last) = ⊥
EndsAs s first (Numbered n) = IsNumbered s first n

-- The pattern is the first that has the occurrences, its range begins on the day of the first of them, and ends as the set does.
pub record IsFirstPattern (P : Occurrences) (pattern : Pattern) (range : Range) (kind : Kind) (start : ℤ) : Type 0 where
  pub is_pattern : IsPatternOf P pattern range kind start
  pub none_before : NoneBeforePattern P pattern
  pub begins : StartsOnPattern pattern range
  pub sketch : Sketch
  pub valid : IsValidSketch sketch
  pub stands : StandsFor sketch P
  pub ends : EndsAs sketch range.start_day range.end

-- ---- laws

-- A set has one first pattern, range, kind and start at most.
abbrev pub FirstPatternIsOne : Type 0
FirstPatternIsOne =
    (s : Sketch) (pattern pattern' : Pattern) (range range' : Range) (kind kind' : Kind) (start start' : ℤ)
    → IsFirstPattern (StandsIn s) pattern range kind start → IsFirstPattern (StandsIn s) pattern' range' kind' start'
    → event_of pattern range kind start ≡ event_of pattern' range' kind' start'

-- A pattern that has the set agrees with it on the window, counted from the first day.
abbrev pub NoPatternIsLost : Type 0
NoPatternIsLost =
    (s : Sketch) (pattern : Pattern) (range : Range) (kind : Kind) (start first : ℤ) (days : ℕ) → IsValidSketch s
    → IsPatternOf (StandsIn s) pattern range kind start → IsOneSecond s kind (second_part kind start) first
    → IsWindow s first (form_cycle pattern.form pattern.interval) days → AgreeWithin (is_pattern_day pattern first) (is_occupied s) first days

-- A set that a pattern has is of its kind, has its start's second alone on each of its days, and begins in the years 1 to 9999.
abbrev pub PatternHasOneSecond : Type 0
PatternHasOneSecond =
    (s : Sketch) (pattern : Pattern) (range : Range) (kind : Kind) (start : ℤ) → IsValidSketch s → IsPatternOf (StandsIn s) pattern range kind start
    → (first : ℤ) × IsOneSecond s kind (second_part kind start) first × IsInYears kind (moment_at kind first (second_part kind start))

-- If it has an endless set, the least period divides its cycle and the least start is the first day.
abbrev pub EndlessPatternHasCycle : Type 0
EndlessPatternHasCycle =
    (s : Sketch) (pattern : Pattern) (range : Range) (kind : Kind) (start first : ℤ) → IsValidSketch s → IsPatternOf (StandsIn s) pattern range kind start
    → IsOneSecond s kind (second_part kind start) first → IsEndless s → HasCycle s first (form_cycle pattern.form pattern.interval)

-- A valid pattern that agrees with an endless set on the window has its occurrences, without an end.
abbrev pub EndlessAgreementIsPattern : Type 0
EndlessAgreementIsPattern =
    (s : Sketch) (pattern : Pattern) (kind : Kind) (start : ℤ) → IsValidSketch s → IsValidPattern pattern
    → let first = day_part kind start in
    IsOneSecond s kind (second_part kind start) first → FitsCycle s first (form_cycle pattern.form pattern.interval)
    → AgreeWithin (is_pattern_day pattern first) (is_occupied s) first (form_cycle pattern.form pattern.interval)
    → HaveEqualOccurrences (IsGraphOccurrence (event_of pattern (range_from first NoEnd) kind start)) (StandsIn s)

-- One that agrees with a finite set has its occurrences, with their number.
abbrev pub FiniteAgreementIsPattern : Type 0
FiniteAgreementIsPattern =
    (s : Sketch) (pattern : Pattern) (kind : Kind) (start last : ℤ) → IsValidSketch s
    → let first = day_part kind start in
    IsOneSecond s kind (second_part kind start) first → IsLastDay s last
    → AgreeWithin (is_pattern_day pattern first) (is_occupied s) first (window_days first last)
    → let n = count_from (is_occupied s) first (window_days first last) in
    HaveEqualOccurrences (IsGraphOccurrence (event_of pattern (range_from first (Numbered n)) kind start)) (StandsIn s)
