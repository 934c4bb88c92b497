-- The members of a pattern and a range that its days depend on, and what is proved of these days one at a time.
use Rattle.std.specs.Prelude.{◌≡◌, ◌↔◌, ℕ, ◌≤◌, ◌<◌, ◌==◌, ◌&&◌, List, [], ◌∷◌, ℤ, nat_abs, ◌≤ℤ◌, IsTrue, ⊤, None, Some}
use Rattle.rr_model.specs.Moment.{day_part, second_part, moment_at}
use Rattle.rr_model.specs.Moment.Years.{IsInYears}
use Rattle.rr_model.specs.Rule.Chosen.{is_chosen, IsSynchronised}
use Rattle.rr_model.specs.Rule.Member.{IsMember}
use Rattle.rr_model.specs.declared.kind.Kind.{Kind}
use Rattle.rr_model.specs.declared.kind.Kind.TheVariants.{Days}
use Rattle.rr_model.specs.declared.rule.End.{End}
use Rattle.rr_model.specs.declared.rule.Rule.{Rule}
use Rattle.rr_model.specs.Graph.Occurrences.{is_pattern_day, IsRepeatDay, first_repeat_day, OccursAt}
use Rattle.rr_model.specs.Graph.Counterpart.{rule_of_pattern, series_of_repeat}
use Rattle.rr_model.specs.declared.graph.Form.{Form}
use Rattle.rr_model.specs.declared.graph.Form.TheVariants as form
use Rattle.rr_model.specs.declared.graph.Pattern.{Pattern}
use Rattle.rr_model.specs.declared.graph.Range.{Range}
use Rattle.rr_model.specs.declared.graph.RangeEnd.{RangeEnd}
use Rattle.rr_model.specs.declared.graph.RangeEnd.TheVariants.{Numbered}
use Rattle.rr_model.specs.declared.graph.Repeat.TheVariants as repeat

-- the numbers of the members that a type uses lie in their ranges
abbrev pub IsPatternOf : Form → Pattern → Type 0
IsPatternOf form.Daily pattern = ⊤
IsPatternOf form.Weekly pattern = (1 ≤ pattern.days) × (pattern.days < 128) × (pattern.first_day < 7)
IsPatternOf form.AbsoluteMonthly pattern = (1 ≤ pattern.day_of_month) × (pattern.day_of_month ≤ 31)
IsPatternOf form.RelativeMonthly pattern = (1 ≤ pattern.days) × (pattern.days < 128) × (1 ≤ nat_abs pattern.index) × (nat_abs pattern.index ≤ 4)
IsPatternOf form.AbsoluteYearly pattern = (1 ≤ pattern.day_of_month) × (pattern.day_of_month ≤ 31) × (1 ≤ pattern.month) × (pattern.month ≤ 12)
IsPatternOf form.RelativeYearly pattern =
    (1 ≤ pattern.days) × (pattern.days < 128) × (1 ≤ nat_abs pattern.index) × (nat_abs pattern.index ≤ 4) × (1 ≤ pattern.month) × (pattern.month ≤ 12)

-- an interval from 1 on, and those members
abbrev pub HasUsedMembers : Pattern → Type 0
HasUsedMembers pattern = (1 ≤ pattern.interval) × IsPatternOf pattern.form pattern

-- a pattern of these members
abbrev pub pattern_of : Form → ℕ → ℕ → ℕ → ℕ → ℕ → ℤ → Pattern
pattern_of form interval day_of_month month days first_day index = record {
  form = form;
  interval = interval;
  day_of_month = day_of_month;
  month = month;
  days = days;
  first_day = first_day;
  index = index;
}

-- The rule of a pattern of this type chooses, from a start, the moments at the start's second on the pattern's days.
abbrev pub SamePatternDaysOf : Form → Type 0
SamePatternDaysOf form =
    (interval day_of_month month days first_day : ℕ) (index : ℤ) (end : End) (kind : Kind) (start t : ℤ)
    → let pattern = pattern_of form interval day_of_month month days first_day index in
    IsPatternOf form pattern
    → is_chosen (rule_of_pattern pattern end) kind start t
    ≡ ((second_part kind t == second_part kind start) && is_pattern_day pattern (day_part kind start) (day_part kind t))

-- The same of every type.
abbrev pub PatternChooses : Type 0
PatternChooses =
    (pattern : Pattern) (end : End) (kind : Kind) (start t : ℤ) → HasUsedMembers pattern
    → is_chosen (rule_of_pattern pattern end) kind start t
    ≡ ((second_part kind t == second_part kind start) && is_pattern_day pattern (day_part kind start) (day_part kind t))

-- A pattern has the same days counted from one of its own days as from its start.
abbrev pub SameFromFirst : Type 0
SameFromFirst =
    (pattern : Pattern) (start first d : ℤ) → 1 ≤ pattern.interval → IsTrue (is_pattern_day pattern start first)
    → is_pattern_day pattern first d ≡ is_pattern_day pattern start d

-- a range of n days has at least one
abbrev pub RangeCounts : RangeEnd → Type 0
RangeCounts (Numbered n) = 1 ≤ n
RangeCounts end = ⊤

-- the range begins in the years 1 to 9999
abbrev pub IsCountedRange : Range → Type 0
IsCountedRange range = IsInYears Days range.start_day × RangeCounts range.end

-- No first day is found exactly if the pattern and the range have no day in the years 1 to 9999.
abbrev pub NoneIsNone : Type 0
NoneIsNone =
    (pattern : Pattern) (range : Range) → IsCountedRange range
    → (first_repeat_day pattern range ≡ None) ↔ ((d : ℤ) → IsInYears Days d → IsRepeatDay pattern range d → ⊥)

-- the pattern and the range have the day, which lies in the years 1 to 9999, and none before it
pub record IsFirstDay (pattern : Pattern) (range : Range) (first : ℤ) : Type 0 where
  pub has_it : IsRepeatDay pattern range first
  pub in_years : IsInYears Days first
  pub none_before : (d : ℤ) → IsRepeatDay pattern range d → first ≤ℤ d

-- What is found is the first day of the pattern and the range.
abbrev pub FoundIsFirst : Type 0
FoundIsFirst =
    (pattern : Pattern) (range : Range) (first : ℤ) → IsCountedRange range → first_repeat_day pattern range ≡ Some first
    → IsFirstDay pattern range first

-- t is a member of the only rule of the counterpart, or the start if there is no rule
abbrev pub OccursByRules : List Rule → Kind → ℤ → ℤ → Type 0
OccursByRules [] kind start t = t ≡ start
OccursByRules (rule ∷ rules) kind start t = IsMember rule kind start t

-- A pattern and a range with a first day have the same occurrences as their counterpart, which starts at that day.
abbrev pub SameOccurrences : Type 0
SameOccurrences =
    (pattern : Pattern) (range : Range) (kind : Kind) (start first t : ℤ) → HasUsedMembers pattern → IsCountedRange range
    → range.start_day ≡ day_part kind start → first_repeat_day pattern range ≡ Some first
    → let series = series_of_repeat (repeat.Pattern pattern range) kind start in
    OccursAt (repeat.Pattern pattern range) kind start t ↔ OccursByRules series.rules kind series.start t

-- The counterpart of a pattern is synchronised with its own start, the first day.
abbrev pub PatternIsSynchronised : Type 0
PatternIsSynchronised =
    (pattern : Pattern) (range : Range) (end : End) (kind : Kind) (start first : ℤ) → HasUsedMembers pattern → IsCountedRange range
    → first_repeat_day pattern range ≡ Some first → IsSynchronised (rule_of_pattern pattern end) kind (moment_at kind first (second_part kind start))
