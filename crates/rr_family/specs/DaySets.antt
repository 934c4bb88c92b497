-- Sets of occurrences that have one second on each of their days.
use Rattle.std.specs.Prelude.{◌≡◌, ℕ, ◌≤◌, Bool, true, ⊤, Some, ℤ, pos, nat_abs, ◌+ℤ◌, ◌-ℤ◌, ◌≤ℤ◌, ◌<ℤ◌, []}
use Rattle.rr_model.specs.Whole.Count.{count_from}
use Rattle.rr_model.specs.Moment.{day_part, second_part}
use Rattle.rr_model.specs.Sets.Sketch.{IsValidSketch, IsFirstDay, StandsIn, times_on}
use Rattle.rr_model.specs.Sets.Verdict.{HaveEqualOccurrences}
use Rattle.rr_model.specs.declared.kind.Kind.{Kind}
use Rattle.rr_model.specs.declared.sketch.Sketch.{Sketch}
use Rattle.rr_model.specs.declared.graph.RangeEnd.{RangeEnd}
use Rattle.rr_model.specs.declared.graph.RangeEnd.TheVariants.{NoEnd, EndDate, Numbered}
use Rattle.rr_family.specs.Lasting.{is_occupied, at_second, AgreeForEver}
use Rattle.rr_family.specs.Taking.{AgreeWithin}

-- how many days up to the last one, both included
abbrev pub window_days : ℤ → ℤ → ℕ
window_days first last = nat_abs ((last -ℤ first) +ℤ pos 1)

-- the day is not past the end, if days that pass the test count from the first one on
abbrev pub IsUpToRangeEnd : (ℤ → Bool) → ℤ → RangeEnd → ℤ → Type 0
IsUpToRangeEnd test first NoEnd d = ⊤
IsUpToRangeEnd test first (EndDate last) d = d ≤ℤ last
IsUpToRangeEnd test first (Numbered n) d = count_from test first (window_days first d) ≤ n

-- t is at the start's second on a day that passes the test, from the start's day up to the end
pub record OccursOnDays (test : ℤ → Bool) (end : RangeEnd) (kind : Kind) (start : ℤ) (k : Kind) (t : ℤ) : Type 0 where
  pub same_kind : k ≡ kind
  pub same_second : second_part kind t ≡ second_part kind start
  pub not_before : day_part kind start ≤ℤ day_part kind t
  pub on_day : test (day_part kind t) ≡ true
  pub within : IsUpToRangeEnd test (day_part kind start) end (day_part kind t)

-- the set has one second on each of its days, and begins with this day
pub record IsOneSecond (s : Sketch) (kind : Kind) (second : ℕ) (first : ℤ) : Type 0 where
  pub same_kind : s.kind ≡ kind
  pub first_day : IsFirstDay s (Some first)
  pub times : (d : ℤ) → times_on s d ≡ at_second second (is_occupied s d)

-- If a set has the days of a test, it has one second, and up to each occupied day the test is what is occupied.
abbrev pub SetOfTest : Type 0
SetOfTest = (s : Sketch) (test : ℤ → Bool) (end : RangeEnd) (kind : Kind) (start : ℤ) → IsValidSketch s → OccursOnDays test end kind start kind start
    → HaveEqualOccurrences (OccursOnDays test end kind start) (StandsIn s)
    → IsOneSecond s kind (second_part kind start) (day_part kind start)
    × ((d later : ℤ) → day_part kind start ≤ℤ d → d ≤ℤ later → is_occupied s later ≡ true → test d ≡ is_occupied s d)

-- A set of one second whose days are those of a test for ever is what the test has without an end.
abbrev pub TestOfEndless : Type 0
TestOfEndless = (s : Sketch) (test : ℤ → Bool) (kind : Kind) (start : ℤ) → IsValidSketch s → IsOneSecond s kind (second_part kind start) (day_part kind start)
    → AgreeForEver test (is_occupied s) (day_part kind start)
    → HaveEqualOccurrences (OccursOnDays test NoEnd kind start) (StandsIn s)

-- the last occupied day of a set
pub record IsLastDay (s : Sketch) (last : ℤ) : Type 0 where
  pub occupied : is_occupied s last ≡ true
  pub none_after : (d : ℤ) → last <ℤ d → times_on s d ≡ []

-- how many days a finite set has from its first one on
abbrev pub IsNumbered : Sketch → ℤ → ℕ → Type 0
IsNumbered s first n = (last : ℤ) × IsLastDay s last × (n ≡ count_from (is_occupied s) first (window_days first last))

-- A finite one whose days are those of a test up to the last is what the test has with as many days as are occupied.
abbrev pub TestOfFinite : Type 0
TestOfFinite =
    (s : Sketch) (test : ℤ → Bool) (kind : Kind) (start last : ℤ) → IsValidSketch s
    → let first = day_part kind start in
    IsOneSecond s kind (second_part kind start) first → IsLastDay s last → AgreeWithin test (is_occupied s) first (window_days first last)
    → HaveEqualOccurrences (OccursOnDays test (Numbered (count_from (is_occupied s) first (window_days first last))) kind start) (StandsIn s)
