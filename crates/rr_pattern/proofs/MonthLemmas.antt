-- The days of a month: where it begins and ends, and the counts of a unit that only its month adds to.
use Rattle.std.proofs.Common.{◌≡◌, ℕ, ◌+◌, ◌-◌, ◌<◌, Bool, false, ℤ, pos, nat_abs, ◌+ℤ◌, ◌-ℤ◌, ◌*ℤ◌, ◌≤ℤ◌, ◌<ℤ◌}
use Rattle.std.proofs.Common.{sym, ap, ◌∙◌, arith}
use Rattle.std.proofs.lemmas.Int.{ints}
use Rattle.rr_model.specs.Whole.{floor_div, floor_mod}
use Rattle.rr_model.specs.Calendar.{year_of, month_of, day_of_month, days_in_month}
use Rattle.rr_model.specs.Whole.Count.{count_from}
use Rattle.rr_model.specs.Moment.Units.{month_number, first_day_of_month}
use Rattle.rr_model.specs.declared.kind.Kind.TheVariants.{Days}
use Rattle.rr_model.specs.declared.rule.Freq.TheVariants.{Monthly}
use Rattle.rr_model.proofs.WholeLemmas.{floor_only}
use Rattle.rr_cal.proofs.StretchLemmas.{units_are_stretches, month_start}
use Rattle.rr_model.proofs.CalendarLemmas.{IsDate-year_of, day_number-year_of, day_number_is}
use Rattle.rr_model.proofs.CountLemmas.{count_from-split, count_from-same, count_from-empty}
use Rattle.rr_cal.proofs.DayUnitLemmas.{month_next}

-- ---- a day's month

-- the first day of the month in which a day lies
abbrev pub month_begin : ℤ → ℤ
month_begin d = (d -ℤ pos (day_of_month d)) +ℤ pos 1

abbrev pub length_of_month : ℤ → ℕ
length_of_month d = days_in_month (year_of d) (month_of d)

pub first_day_is : (d : ℤ) → first_day_of_month (month_number d) ≡ month_begin d
first_day_is d =
    let y = year_of d in
    let m = month_of d in
    let date = IsDate-year_of d in
    let f : month_number d ≡ (y *ℤ pos 12) +ℤ pos (m - 1) = omega (arith, ints, date.0) in
    month_start (month_number d) y (m - 1) (omega (arith, date.0, date.1)) f
    ∙ omega (arith, ints, day_number_is y m (day_of_month d) date.2, day_number-year_of d, date.2)

pub next_month_is : (d : ℤ) → first_day_of_month (month_number d +ℤ pos 1) ≡ month_begin d +ℤ pos (length_of_month d)
next_month_is d =
    let y = year_of d in
    let m = month_of d in
    let date = IsDate-year_of d in
    let f : month_number d ≡ (y *ℤ pos 12) +ℤ pos (m - 1) = omega (arith, ints, date.0) in
    let o = floor_only (month_number d) y 12 (m - 1) (omega (arith, date.0, date.1)) f in
    let back : m - 1 + 1 ≡ m = omega (arith, date.0) in
    let long : days_in_month (floor_div (month_number d) 12) (floor_mod (month_number d) 12 + 1) ≡ days_in_month y m =
    ap (λ z. days_in_month z (floor_mod (month_number d) 12 + 1)) o.0 ∙ ap (λ k. days_in_month y (k + 1)) o.1 ∙ ap (days_in_month y) back in
    month_next (month_number d) ∙ omega (arith, ints, first_day_is d, long)

-- a day of the month has its month number
pub in_same_month : (d e : ℤ) → month_begin d ≤ℤ e → e <ℤ (month_begin d +ℤ pos (length_of_month d)) → month_number e ≡ month_number d
in_same_month d e low high =
    (units_are_stretches Monthly 0 Days e (month_number d)).1 (omega (arith, ints, low, first_day_is d), omega (arith, ints, high, next_month_is d))

-- days of one month have one year, one month, and the days of the month that lie as far apart as they
pub record IsSameMonth (d e : ℤ) : Type 0 where
  pub year : year_of e ≡ year_of d
  pub month : month_of e ≡ month_of d
  pub begins : month_begin e ≡ month_begin d

pub same_month : (d e : ℤ) → month_number e ≡ month_number d → IsSameMonth d e
same_month d e same =
    let a = IsDate-year_of d in
    let b = IsDate-year_of e in
    record {
      year = omega (arith, ints, same, a.0, a.1, b.0, b.1);
      month = omega (arith, ints, same, a.0, a.1, b.0, b.1);
      begins = sym (first_day_is e) ∙ ap first_day_of_month same ∙ first_day_is d;
    }

-- ---- counts of a longer stretch that are those of a shorter one

pub narrow_front : (p q : ℤ → Bool) (A a d : ℤ) → A ≤ℤ a → a ≤ℤ d → ((e : ℤ) → A ≤ℤ e → e <ℤ a → p e ≡ false) → ((e : ℤ) → a ≤ℤ e → e ≤ℤ d → p e ≡ q e)
    → count_from p A (nat_abs ((d -ℤ A) +ℤ pos 1)) ≡ count_from q a (nat_abs ((d -ℤ a) +ℤ pos 1))
narrow_front p q A a d l h none same =
    let m = nat_abs (a -ℤ A) in
    let n = nat_abs ((d -ℤ a) +ℤ pos 1) in
    let split : nat_abs ((d -ℤ A) +ℤ pos 1) ≡ m + n = omega (arith, ints, l, h) in
    let at : A +ℤ pos m ≡ a = omega (arith, ints, l) in
    ap (count_from p A) split ∙ count_from-split p A m n
    ∙ omega (
      arith,
      count_from-empty p A m (λ e low high. none e low (omega (arith, ints, l, high))),
      ap (λ x. count_from p x n) at,
      count_from-same p q a n (λ e low high. same e low (omega (arith, ints, h, high))),
    )

pub narrow_back : (p q : ℤ → Bool) (B b d : ℤ) → d <ℤ b → b ≤ℤ B → ((e : ℤ) → b ≤ℤ e → e <ℤ B → p e ≡ false) → ((e : ℤ) → d ≤ℤ e → e <ℤ b → p e ≡ q e)
    → count_from p d (nat_abs (B -ℤ d)) ≡ count_from q d (nat_abs (b -ℤ d))
narrow_back p q B b d l h none same =
    let m = nat_abs (b -ℤ d) in
    let n = nat_abs (B -ℤ b) in
    let split : nat_abs (B -ℤ d) ≡ m + n = omega (arith, ints, l, h) in
    let at : d +ℤ pos m ≡ b = omega (arith, ints, l) in
    ap (count_from p d) split ∙ count_from-split p d m n
    ∙ omega (
      arith,
      ap (λ x. count_from p x n) at,
      count_from-empty p b n (λ e low high. none e low (omega (arith, ints, h, high))),
      count_from-same p q d m (λ e low high. same e low (omega (arith, ints, l, high))),
    )
