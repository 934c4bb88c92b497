-- What the validity of an event says of its pattern and its range.
use Rattle.std.proofs.Common.{◌≡◌, ◌≤◌, true, ℤ, nat_abs, inl, inr, sym, subst, arith}
use Rattle.std.proofs.lemmas.Int.{ints}
use Rattle.rr_model.specs.Moment.{day_part}
use Rattle.rr_model.specs.Moment.Years.{IsInYears}
use Rattle.rr_model.specs.declared.kind.Kind.{Kind}
use Rattle.rr_model.specs.declared.kind.Kind.TheVariants.{Days}
use Rattle.rr_model.specs.Graph.Uses.{uses_days, uses_first_day, uses_index, uses_day_of_month, uses_month, most_interval}
use Rattle.rr_model.specs.Graph.Validity.{LiesIfUsed, IsIndex, IsValidPattern, IsRangeEnd}
use Rattle.rr_model.specs.declared.graph.Form.{Form}
use Rattle.rr_model.specs.declared.graph.Form.TheVariants as form
use Rattle.rr_model.specs.declared.graph.Pattern.{Pattern}
use Rattle.rr_model.specs.declared.graph.Range.{Range}
use Rattle.rr_model.specs.declared.graph.RangeEnd.{RangeEnd}
use Rattle.rr_model.specs.declared.graph.RangeEnd.TheVariants.{NoEnd, EndDate, Numbered}
use Rattle.rr_pattern.proofs.PatternParts.{IsPatternOf, HasUsedMembers, RangeCounts, IsCountedRange}

index_size : (index : ℤ) → IsIndex true index → (1 ≤ nat_abs index) × (nat_abs index ≤ 4)
index_size index (inl h) = (omega (arith, ints, h.0, h.1), omega (arith, ints, h.0, h.1))
index_size index (inr e) = (omega (arith, ints, e), omega (arith, ints, e))

used : (pattern : Pattern) (f : Form) → LiesIfUsed (uses_days f) 1 127 0 pattern.days → LiesIfUsed (uses_first_day f) 0 6 6 pattern.first_day
    → IsIndex (uses_index f) pattern.index → LiesIfUsed (uses_day_of_month f) 1 31 0 pattern.day_of_month → LiesIfUsed (uses_month f) 1 12 0 pattern.month
    → IsPatternOf f pattern
used pattern form.Daily days first index day month = tt
used pattern form.Weekly days first index day month = (days.0, omega (arith, days.1), omega (arith, first.1))
used pattern form.AbsoluteMonthly days first index day month = (day.0, day.1)
used pattern form.RelativeMonthly days first index day month =
    let size = index_size pattern.index index in
    (days.0, omega (arith, days.1), size.0, size.1)
used pattern form.AbsoluteYearly days first index day month = (day.0, day.1, month.0, month.1)
used pattern form.RelativeYearly days first index day month =
    let size = index_size pattern.index index in
    (days.0, omega (arith, days.1), size.0, size.1, month.0, month.1)

pub used_members : (pattern : Pattern) → IsValidPattern pattern → HasUsedMembers pattern
used_members pattern valid = (valid.interval_low, used pattern pattern.form valid.days valid.first_day valid.index valid.day_of_month valid.month)

most : (f : Form) → most_interval f ≤ 999
most form.Daily = omega arith
most form.Weekly = omega arith
most form.AbsoluteMonthly = omega arith
most form.RelativeMonthly = omega arith
most form.AbsoluteYearly = omega arith
most form.RelativeYearly = omega arith

pub few_intervals : (pattern : Pattern) → IsValidPattern pattern → pattern.interval ≤ 999
few_intervals pattern valid = omega (arith, valid.interval_high, most pattern.form)

pub range_counts : (end : RangeEnd) → IsRangeEnd end → RangeCounts end
range_counts NoEnd h = tt
range_counts (EndDate day) h = tt
range_counts (Numbered n) h = h.0

-- the day of a start of these years is one of them
pub start_day_in_years : (kind : Kind) (start day : ℤ) → IsInYears kind start → day ≡ day_part kind start → IsInYears Days day
start_day_in_years kind start day years same = subst (IsInYears Days) (sym same) years

pub counted_range : (range : Range) (kind : Kind) (start : ℤ) → IsInYears kind start → range.start_day ≡ day_part kind start → IsRangeEnd range.end
    → IsCountedRange range
counted_range range kind start years same end = (start_day_in_years kind start range.start_day years same, range_counts range.end end)
