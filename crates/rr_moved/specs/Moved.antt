-- The series of a key with its instances as dates, whatever the language (RFC 5545, sections 3.8.4.4, 3.8.5.1 and 3.8.5.2).
use Rattle.std.specs.Prelude.{ℕ, ◌+◌, nat_lt, Bool, false, not, ◌||◌, if◌then◌else◌, ℤ, int_lt, All, List, [], ◌∷◌, length, None, Some, Result, Ok, Err}
use Rattle.std.specs.List.{filter, list_any}
use Rattle.std.specs.Ordering.{int_eq}
use Rattle.rr_model.specs.Moment.Years.{IsInYears}
use Rattle.rr_model.specs.Rising.{with_value}
use Rattle.rr_model.specs.Rule.Validity.{is_absent}
use Rattle.rr_model.specs.Text.Lists.{series_of_list}
use Rattle.rr_model.specs.declared.kind.Kind.{Kind}
use Rattle.rr_model.specs.declared.limits.TheConstants.{MAX_DATES}
use Rattle.rr_model.specs.declared.refusal.Refusal.TheVariants.{TooManyParts}
use Rattle.rr_model.specs.declared.rule.Series.{Series}
use Rattle.rr_seam.specs.declared.refusal.KeyRefusal.{KeyRefusal}
use Rattle.rr_seam.specs.declared.refusal.KeyRefusal.TheVariants as refusal

-- ---- what the instances take out and put in

-- the moments that instances take out, and the moments at which they start
pub record Shifts : Type 0 where
  pub moments : List ℤ
  pub starts : List ℤ

-- no instance is read yet
abbrev pub no_shifts : Shifts
no_shifts = record { moments = []; starts = [] }

-- the moment of an instance is taken out; a second instance of one moment is refused at its place
abbrev pub with_moment : ℕ → Shifts → ℤ → Result Shifts KeyRefusal
with_moment place shifts at =
    if list_any (λ t. int_eq t at) shifts.moments then Err (refusal.TwoInstances place)
    else Ok (record shifts { moments = with_value int_lt shifts.moments at })

-- the start of an instance is put in
abbrev pub with_start_at : Shifts → ℤ → Shifts
with_start_at shifts at = record shifts { starts = with_value int_lt shifts.starts at }

-- ---- the edited series

-- the dates in a rising list with these
abbrev pub with_values : List ℤ → List ℤ → List ℤ
with_values dates [] = dates
with_values dates (t ∷ ts) = with_values (with_value int_lt dates t) ts

-- the dates that are not among these
abbrev pub values_outside : List ℤ → List ℤ → List ℤ
values_outside starts dates = filter (λ t. not (list_any (λ s. int_eq s t) starts)) dates

-- the starts alone, as a list of dates
abbrev pub series_of_starts : Kind → List ℤ → Series
series_of_starts kind [] = series_of_list None []
series_of_starts kind (t ∷ ts) = series_of_list (Some (record { kind = kind; at = t; utc = false })) (with_values [] ts)

-- the dates that are taken out, and the moments, without those at which an instance starts
abbrev pub minus_without_starts : List ℤ → Shifts → List ℤ
minus_without_starts minus shifts =
    with_values (with_values [] (values_outside shifts.starts minus)) (values_outside shifts.starts shifts.moments)

-- the series with the starts as dates that are added, and the moments taken out, unless something starts there
abbrev pub with_shifts : Series → Shifts → Series
with_shifts series shifts = record series {
  plus = with_values series.plus shifts.starts;
  minus = minus_without_starts series.minus shifts;
}

-- a series has at most `MAX_DATES` dates
abbrev pub within_dates : ℕ → Series → Result Series KeyRefusal
within_dates place series = if nat_lt MAX_DATES (length series.plus + length series.minus) then Err (refusal.Event TooManyParts place) else Ok series

-- the starts beside a series that an EXRULE might take out again are refused
abbrev pub edited_series : ℕ → Series → Shifts → Result Series KeyRefusal
edited_series place series shifts =
    if is_absent series.excluded || is_absent shifts.starts then within_dates place (with_shifts series shifts)
    else Err (refusal.ExcludedRule place)

-- the starts alone, of a series that is cancelled or is not there
abbrev pub edited_starts : ℕ → Kind → Shifts → Result Series KeyRefusal
edited_starts place kind shifts = within_dates place (series_of_starts kind shifts.starts)

-- a series that is cancelled has none of its occurrences, and keeps its instances
abbrev pub edited_moved : Bool → ℕ → Series → Shifts → Result Series KeyRefusal
edited_moved is_cancelled place series shifts =
    if is_cancelled then edited_starts place series.kind shifts else edited_series place series shifts

-- the moments and the starts lie in the years 1 to 9999
pub record AreInYears (kind : Kind) (shifts : Shifts) : Type 0 where
  pub moments : All (IsInYears kind) shifts.moments
  pub starts : All (IsInYears kind) shifts.starts
