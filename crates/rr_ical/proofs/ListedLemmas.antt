-- What is read of a list is valid.
use Rattle.std.proofs.Common.{◌≡◌, ℕ, ◌+◌, ◌<◌, ◌≤◌, Bool, true, false, if◌then◌else◌, List, [], length, Option, None, Some, Result, Ok, Err, ℤ, pos}
use Rattle.std.proofs.Common.{refl, sym, subst, arith}
use Rattle.std.specs.Prelude.{All, int_lt}
use Rattle.std.specs.Result.{IfOk}
use Rattle.std.proofs.lemmas.Int.{ints}
use Rattle.std.proofs.lemmas.List.Elements.{All-nil}
use Rattle.rr_model.specs.Answers.{Answers}
use Rattle.rr_model.specs.Moment.{is_same_kind}
use Rattle.rr_model.specs.Moment.Years.{IsInYears}
use Rattle.rr_model.specs.Rising.{Rises, with_value}
use Rattle.rr_model.specs.Series.Validity.{IsValidSeries}
use Rattle.rr_model.specs.Text.Lists.{series_of_list}
use Rattle.rr_ical.specs.Lists.{empty_list, with_next}
use Rattle.rr_model.specs.declared.kind.Kind.{Kind}
use Rattle.rr_ical.specs.declared.listed.ListedDates.{ListedDates}
use Rattle.rr_model.specs.declared.refusal.Fault.{Fault}
use Rattle.rr_model.specs.declared.refusal.Refusal.TheVariants.{MixedKinds, NotRising}
use Rattle.rr_model.specs.declared.stamp.Stamp.{Stamp}
use Rattle.rr_model.proofs.MemberLemmas.{same_kind_is}
use Rattle.rr_model.proofs.RisingLemmas.{All-with_value, Rises-with_value}
use Rattle.rr_model.proofs.YearLemmas.{four_digit_year}
use Rattle.rr_ical.specs.Listed.{AreInYears, IsValidListed}
use Rattle.rr_ical.proofs.PassLemmas.{length-with_value}

pub empty_list_valid : IsValidListed empty_list
empty_list_valid = record { in_years = refl; rises = tt; counted = omega arith; few = omega arith }

-- the values with one more
with_next-valid : (line : ℕ) (so_far : ListedDates) (first : Option Stamp) (stamp : Stamp) (next : ListedDates) → so_far.first ≡ first
    → IsValidListed so_far → so_far.count < 10_000
    → IsInYears stamp.kind stamp.at → with_next line so_far first stamp ≡ Ok next → IsValidListed next
with_next-valid line so_far None stamp next none v few in_years h =
    let e : record so_far { first = Some stamp; last = stamp.at; count = so_far.count + 1 } ≡ next = cc in
    let nothing : so_far.plus ≡ [] = subst (λ (f : Option Stamp). AreInYears f so_far.plus) none v.in_years in
    subst IsValidListed e record {
      in_years = (in_years, subst (All (IsInYears stamp.kind)) (sym nothing) (All-nil _));
      rises = v.rises;
      counted = omega (arith, v.counted);
      few = omega (arith, few);
    }
with_next-valid line so_far (Some first) stamp next some v few in_years h = by (is_same_kind first.kind stamp.kind) (int_lt so_far.last stamp.at) refl h
  where
    more : ListedDates
    more = record so_far { last = stamp.at; count = so_far.count + 1; plus = with_value int_lt so_far.plus stamp.at }

    before : IsInYears first.kind first.at × All (IsInYears first.kind) so_far.plus
    before = subst (λ (f : Option Stamp). AreInYears f so_far.plus) some v.in_years

    valid : first.kind ≡ stamp.kind → IsValidListed more
    valid same = record {
      in_years = subst (λ (f : Option Stamp). AreInYears f (with_value int_lt so_far.plus stamp.at)) (sym some) (
        before.0,
        All-with_value (IsInYears first.kind) int_lt so_far.plus stamp.at before.1
            (subst (λ (k : Kind). IsInYears k stamp.at) (sym same) in_years),
      );
      rises = Rises-with_value int_lt so_far.plus stamp.at v.rises;
      counted = omega (arith, v.counted, length-with_value int_lt so_far.plus stamp.at);
      few = omega (arith, few);
    }

    by : (b c : Bool) → is_same_kind first.kind stamp.kind ≡ b
        → (if b then (if c then Ok more else Err (NotRising line)) else Err (MixedKinds line)) ≡ Ok next → IsValidListed next
    by true true same h =
        let e : more ≡ next = cc in
        subst IsValidListed e (valid ((same_kind_is first.kind stamp.kind).0 same))
    by true false same h = absurd (cc)
    by false c same h = absurd (cc)

-- so is what a call answers that takes memory
pub next_valid : (line : ℕ) (so_far : ListedDates) (stamp : Stamp) (r : Result ListedDates Fault) → IsValidListed so_far → so_far.count < 10_000
    → IsInYears stamp.kind stamp.at
    → Answers (with_next line so_far so_far.first stamp) r → IfOk r IsValidListed
next_valid line so_far stamp (Ok next) v few in_years h = with_next-valid line so_far so_far.first stamp next refl v few in_years h
next_valid line so_far stamp (Err fault) v few in_years h = tt

-- the series of a list
pub series_valid : (first : Option Stamp) (plus : List ℤ) → AreInYears first plus → Rises int_lt plus → length plus ≤ 10_000
    → IsValidSeries (series_of_list first plus)
series_valid None plus years rises few = record {
  start = (four_digit_year (pos 0)).1 (omega (arith, ints), omega (arith, ints));
  start_counts = λ e. (refl, refl, refl, refl, refl, refl);
  rules = All-nil _;
  excluded = All-nil _;
  few_rules = omega arith;
  ends = All-nil _;
  excluded_ends = All-nil _;
  plus = All-nil _;
  minus = All-nil _;
  plus_rises = tt;
  minus_rises = tt;
  few_dates = omega arith;
}
series_valid (Some first) plus years rises few = record {
  start = years.0;
  start_counts = λ e. absurd (cc);
  rules = All-nil _;
  excluded = All-nil _;
  few_rules = omega arith;
  ends = All-nil _;
  excluded_ends = All-nil _;
  plus = years.1;
  minus = All-nil _;
  plus_rises = rises;
  minus_rises = tt;
  few_dates = omega (arith, few);
}
