-- The edited series of a key is valid.
use Rattle.std.proofs.Common.{◌≡◌, ℕ, ◌+◌, ◌≤◌, Bool, true, false, if◌then◌else◌, List, [], ◌∷◌, length, Result, Ok, Err}
use Rattle.std.proofs.Common.{refl, subst, arith, ℤ, pos}
use Rattle.std.specs.Prelude.{All, IfOk, int_lt, nat_lt, ◌||◌}
use Rattle.std.specs.List.{list_any}
use Rattle.std.specs.Ordering.{int_eq}
use Rattle.rr_seam.specs.Steps.{AnswersKey}
use Rattle.rr_seam.specs.declared.refusal.KeyFault.{KeyFault}
use Rattle.rr_seam.specs.declared.refusal.KeyRefusal.{KeyRefusal}
use Rattle.std.proofs.lemmas.Bool.Decides.{nat_tests}
use Rattle.std.proofs.lemmas.Int.{ints}
use Rattle.std.proofs.lemmas.List.Elements.{All-filter, All-head, All-nil, All-tail}
use Rattle.rr_model.specs.Moment.Years.{IsInYears}
use Rattle.rr_model.specs.Rule.Validity.{is_absent}
use Rattle.rr_model.specs.Series.Validity.{IsValidSeries}
use Rattle.rr_model.specs.declared.kind.Kind.{Kind}
use Rattle.rr_model.specs.declared.limits.TheConstants.{MAX_DATES}
use Rattle.rr_model.specs.declared.refusal.Refusal.TheVariants.{TooManyParts}
use Rattle.rr_model.specs.declared.rule.Series.{Series}
use Rattle.rr_model.proofs.YearLemmas.{four_digit_year}
use Rattle.rr_model.proofs.RisingLemmas.{All-with_value}
use Rattle.rr_model.specs.Rising.{with_value}
use Rattle.rr_moved.specs.Moved.{AreInYears, Shifts, edited_series, edited_starts, no_shifts, series_of_starts, with_moment, values_outside, with_shifts, with_start_at, with_values, within_dates}
use Rattle.rr_moved.specs.Valid.{EditedIsValid, MovedIsValid, StartsAreValid}
use Rattle.rr_seam.specs.declared.refusal.KeyRefusal.TheVariants as refusal
use Rattle.rr_moved.proofs.EditLemmas.{All-with_values, Rises-with_values}
use Rattle.rr_moved.proofs.KeyStepLemmas.{passed}

-- ---- the edited series

-- a series that passes the limit of its dates is valid if it is valid but for them
few_dates : (place : ℕ) (series result : Series) → within_dates place series ≡ Ok result → (length series.plus + length series.minus ≤ MAX_DATES → IsValidSeries series)
    → IsValidSeries result
few_dates place series result h valid =
    let few = passed (nat_lt MAX_DATES (length series.plus + length series.minus)) (refusal.Event TooManyParts place) (Ok series) result h in
    let test = few.0 in
    let whole = few.1 in
    let same : series ≡ result = cc in
    subst IsValidSeries same (valid (grind (arith, nat_tests)))

starts-valid : (kind : Kind) (starts : List ℤ) → All (IsInYears kind) starts
    → length (series_of_starts kind starts).plus + length (series_of_starts kind starts).minus ≤ MAX_DATES → IsValidSeries (series_of_starts kind starts)
starts-valid kind [] years few = record {
  start = (four_digit_year (pos 0)).1 (omega (arith, ints), omega (arith, ints));
  start_counts = λ e. (refl, refl, refl, refl, refl, refl);
  rules = All-nil _;
  excluded = All-nil _;
  few_rules = omega arith;
  ends = All-nil _;
  excluded_ends = All-nil _;
  plus = All-nil _;
  minus = All-nil _;
  plus_rises = tt;
  minus_rises = tt;
  few_dates = few;
}
starts-valid kind (t ∷ ts) years few = record {
  start = All-head (IsInYears kind) t ts years;
  start_counts = λ e. absurd (cc);
  rules = All-nil _;
  excluded = All-nil _;
  few_rules = omega arith;
  ends = All-nil _;
  excluded_ends = All-nil _;
  plus = All-with_values (IsInYears kind) [] ts (All-nil _) (All-tail (IsInYears kind) t ts years);
  minus = All-nil _;
  plus_rises = Rises-with_values [] ts tt;
  minus_rises = tt;
  few_dates = few;
}

shifted-valid : (series : Series) (shifts : Shifts) → IsValidSeries series → series.start_counts ≡ true → AreInYears series.kind shifts
    → length (with_shifts series shifts).plus + length (with_shifts series shifts).minus ≤ MAX_DATES → IsValidSeries (with_shifts series shifts)
shifted-valid series shifts v counts years few = record {
  start = v.start;
  start_counts = λ e. absurd (cc);
  rules = v.rules;
  excluded = v.excluded;
  few_rules = v.few_rules;
  ends = v.ends;
  excluded_ends = v.excluded_ends;
  plus = All-with_values (IsInYears series.kind) series.plus shifts.starts v.plus years.starts;
  minus =
      All-with_values (IsInYears series.kind) (with_values [] (values_outside shifts.starts series.minus)) (values_outside shifts.starts shifts.moments)
      (All-with_values (IsInYears series.kind) [] (values_outside shifts.starts series.minus) (All-nil _)
      (All-filter _ (IsInYears series.kind) series.minus v.minus))
      (All-filter _ (IsInYears series.kind) shifts.moments years.moments);
  plus_rises = Rises-with_values series.plus shifts.starts v.plus_rises;
  minus_rises =
      Rises-with_values (with_values [] (values_outside shifts.starts series.minus)) (values_outside shifts.starts shifts.moments)
      (Rises-with_values [] (values_outside shifts.starts series.minus) tt);
  few_dates = few;
}

starts_are_valid : StartsAreValid
starts_are_valid place kind shifts made years h =
    few_dates place (series_of_starts kind shifts.starts) made h (starts-valid kind shifts.starts years.starts)

edited_is_valid : EditedIsValid
edited_is_valid is_cancelled place series shifts made v counts years h = by is_cancelled h
  where
    kept : (b : Bool) → (if b then within_dates place (with_shifts series shifts) else Err (refusal.ExcludedRule place)) ≡ Ok made → IsValidSeries made
    kept true e = few_dates place (with_shifts series shifts) made e (shifted-valid series shifts v counts years)
    kept false e = absurd (cc)

    by : (b : Bool) → (if b then edited_starts place series.kind shifts else edited_series place series shifts) ≡ Ok made → IsValidSeries made
    by true e = starts_are_valid place series.kind shifts made years e
    by false e = kept (is_absent series.excluded || is_absent shifts.starts) e

pub moved_is_valid : MovedIsValid
moved_is_valid = record { starts = starts_are_valid; edited = edited_is_valid }

-- ---- one instance more

pub moment_keeps : (kind : Kind) (shifts : Shifts) (at : ℤ) → IsInYears kind at → AreInYears kind shifts
    → AreInYears kind (record shifts { moments = with_value int_lt shifts.moments at })
moment_keeps kind shifts at years v = record { moments = All-with_value (IsInYears kind) int_lt shifts.moments at v.moments years; starts = v.starts }

pub start_keeps : (kind : Kind) (shifts : Shifts) (at : ℤ) → IsInYears kind at → AreInYears kind shifts → AreInYears kind (with_start_at shifts at)
start_keeps kind shifts at years v = record { moments = v.moments; starts = All-with_value (IsInYears kind) int_lt shifts.starts at v.starts years }

pub moment_made : (kind : Kind) (place : ℕ) (shifts next : Shifts) (at : ℤ) → IsInYears kind at → AreInYears kind shifts
    → with_moment place shifts at ≡ Ok next → AreInYears kind next
moment_made kind place shifts next at years v h =
    let put = passed (list_any (λ t. int_eq t at) shifts.moments) (refusal.TwoInstances place)
    (Ok (record shifts { moments = with_value int_lt shifts.moments at })) next h in
    let once = put.1 in
    let same : record shifts { moments = with_value int_lt shifts.moments at } ≡ next = cc in
    subst (AreInYears kind) same (moment_keeps kind shifts at years v)

-- what is answered if the answer is a value
pub answered : {A : Type 0} (wanted : Result A KeyRefusal) (r : Result A KeyFault) → AnswersKey wanted r → IfOk r (λ x. wanted ≡ Ok x)
answered wanted (Ok x) h = h
answered wanted (Err e) h = tt

pub none_in_years : (kind : Kind) → AreInYears kind no_shifts
none_in_years kind = record { moments = All-nil _; starts = All-nil _ }
