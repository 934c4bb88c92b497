-- Weeks that lie alike in alike years have one number, and alike years one last week: so years of equal keys have the same mask.
use Rattle.std.proofs.Common.{◌≡◌, ℕ, ◌+◌, ◌/◌, ◌<◌, ◌&&◌, Bool, true, false, List, [], ◌∷◌, ℤ, pos, neg_ℤ, unsigned_abs, ◌+ℤ◌, ◌-ℤ◌, ◌≤ℤ◌, ◌<ℤ◌}
use Rattle.std.proofs.Common.{refl, sym, ap, ◌∙◌, arith}
use Rattle.std.specs.Prelude.{nat_lt}
use Rattle.std.proofs.lemmas.Int.{ints, by_lt_z}
use Rattle.std.proofs.lemmas.Bool.Decides.{nat_tests}
use Rattle.rr_model.specs.Whole.{floor_div}
use Rattle.rr_model.specs.Calendar.{is_leap, days_in_year, first_day_of_year, day_number, IsInYear, weekday_of}
use Rattle.rr_model.specs.Calendar.Week.{week_index, fourth_day, week_year, week_number, last_week}
use Rattle.rr_model.specs.Rule.Filled.{filled_rule}
use Rattle.rr_model.specs.Rule.Validity.{is_absent}
use Rattle.rr_model.specs.Rule.Candidate.{is_week_listed, by_week_no_holds, date_parts_hold}
use Rattle.rr_model.specs.declared.kind.Kind.TheVariants.{Days}
use Rattle.rr_model.specs.declared.rule.Rule.{Rule}
use Rattle.rr_model.proofs.CalendarLemmas.{IsInYear-year_of, year_of_is, days_in_year_bounds, first_day_of_year-next}
use Rattle.rr_model.proofs.WeekLemmas.{fourth_day_near, week_index_is, day_number-december_28, week_year-december_28, week_number_is}
use Rattle.rr_expand.specs.Years.{allows_day, EqualKeysHaveEqualMasks}
use Rattle.rr_expand.proofs.KeyLemmas.{AreAlike, AreAlikeBeside, IsToldBy, told_by_keys, weeks_apart, weekday_of-later, days_in_year-alike, on_one_day_of_year}
use Rattle.rr_expand.proofs.KeyLemmas.{by_month-same, by_year_day-same, by_month_day-same, by_day-same}

-- the weeks of two days of one weekday have their fourth days as far apart as the days are
fourth_day-same : (d e : ℤ) (w : ℕ) → weekday_of d ≡ weekday_of e
    → fourth_day (week_index e w) w ≡ fourth_day (week_index d w) w +ℤ (e -ℤ d)
unfolding fourth_day
fourth_day-same d e w same =
    let q = floor_div (e +ℤ pos 3) 7 -ℤ floor_div (d +ℤ pos 3) 7 in
    let near = fourth_day_near d w in
    let apart = weeks_apart d e same in
    let there : week_index e w ≡ week_index d w +ℤ q =
    week_index_is e (week_index d w +ℤ q) w (omega (arith, ints, near.0, apart)) (omega (arith, ints, near.1, apart)) in
    omega (arith, ints, there, apart)

-- ---- weeks that lie alike in alike years

-- the week i belongs to the year y, and its fourth day has the number there that the fourth day of the week j has in the year z
pub record AreAlikeWeeks (y z i j : ℤ) (w : ℕ) : Type 0 where
  pub within : IsInYear (fourth_day i w) y
  pub day : fourth_day j w -ℤ first_day_of_year z ≡ fourth_day i w -ℤ first_day_of_year y

-- the fourth day lies in the week's year
in_week_year : (y i : ℤ) (w : ℕ) → week_year i w ≡ y → IsInYear (fourth_day i w) y
unfolding week_year
in_week_year y i w e = rw e at (IsInYear-year_of (fourth_day i w))

module _ (y z : ℤ) (alike : AreAlike y z) where
  fourth_days-alike : (s : ℤ) (w : ℕ)
      → fourth_day (week_index (first_day_of_year z +ℤ s) w) w -ℤ first_day_of_year z
      ≡ fourth_day (week_index (first_day_of_year y +ℤ s) w) w -ℤ first_day_of_year y
  fourth_days-alike s w =
      let d = first_day_of_year y +ℤ s in
      let e = first_day_of_year z +ℤ s in
      omega (arith, ints, fourth_day-same d e w (weekday_of-later (first_day_of_year y) (first_day_of_year z) s alike.weekday))

  module _ (i j : ℤ) (w : ℕ) (weeks : AreAlikeWeeks y z i j w) where
    week_year_first : week_year i w ≡ y
    unfolding week_year
    week_year_first = year_of_is (fourth_day i w) y weeks.within

    week_year_second : week_year j w ≡ z
    unfolding week_year
    week_year_second =
        let same = days_in_year-alike y z alike.leap in
        year_of_is (fourth_day j w) z (record {
          begun = omega (arith, ints, weeks.day, weeks.within.begun);
          not_over = omega (arith, ints, weeks.day, weeks.within.not_over, first_day_of_year-next y, first_day_of_year-next z, same);
        })

    week_number-alike : week_number i w ≡ week_number j w
    week_number-alike =
        week_number_is y i w week_year_first ∙ ap (λ n. unsigned_abs n / 7 + 1) (sym weeks.day) ∙ sym (week_number_is z j w week_year_second)

  -- 28 December has one number in both years
  december_28-alike : day_number z 12 28 -ℤ first_day_of_year z ≡ day_number y 12 28 -ℤ first_day_of_year y
  december_28-alike =
      omega (
        arith,
        ints,
        day_number-december_28 y,
        day_number-december_28 z,
        first_day_of_year-next y,
        first_day_of_year-next z,
        days_in_year-alike y z alike.leap,
      )

  last_week-alike : (w : ℕ) → last_week y w ≡ last_week z w
  unfolding last_week
  last_week-alike w =
      let s = day_number y 12 28 -ℤ first_day_of_year y in
      let d : first_day_of_year y +ℤ s ≡ day_number y 12 28 = omega (arith, ints) in
      let e : first_day_of_year z +ℤ s ≡ day_number z 12 28 = omega (arith, ints, december_28-alike) in
      week_number-alike (week_index (day_number y 12 28) w) (week_index (day_number z 12 28) w) w (record {
        within = in_week_year y (week_index (day_number y 12 28) w) w (week_year-december_28 y w);
        day = rw (d, e) at (fourth_days-alike s w);
      })

  is_week_listed-alike : (numbers : List ℤ) (i j : ℤ) (w : ℕ) → AreAlikeWeeks y z i j w → is_week_listed numbers w i ≡ is_week_listed numbers w j
  is_week_listed-alike numbers i j w weeks =
      rw (week_number-alike i j w weeks, week_year_first i j w weeks, week_year_second i j w weeks, last_week-alike w) refl

-- ---- the years beside alike years

-- the year before begins n days before
first_day_of_year-before : (y : ℤ) → first_day_of_year (y -ℤ pos 1) ≡ first_day_of_year y +ℤ neg_ℤ (pos (days_in_year (y -ℤ pos 1)))
first_day_of_year-before y =
    let back : (y -ℤ pos 1) +ℤ pos 1 ≡ y = omega (arith, ints) in
    omega (arith, ints, first_day_of_year-next (y -ℤ pos 1), ap first_day_of_year back)

alike_before : (y z : ℤ) → AreAlike y z → is_leap (y -ℤ pos 1) ≡ is_leap (z -ℤ pos 1) → AreAlike (y -ℤ pos 1) (z -ℤ pos 1)
alike_before y z alike leap =
    let n = neg_ℤ (pos (days_in_year (y -ℤ pos 1))) in
    let there : first_day_of_year z +ℤ n ≡ first_day_of_year (z -ℤ pos 1) =
    omega (arith, ints, first_day_of_year-before z, days_in_year-alike (y -ℤ pos 1) (z -ℤ pos 1) leap) in
    record {
      weekday = ap weekday_of (first_day_of_year-before y) ∙ weekday_of-later (first_day_of_year y) (first_day_of_year z) n alike.weekday ∙ ap weekday_of there;
      leap = leap;
    }

alike_after : (y z : ℤ) → AreAlike y z → is_leap (y +ℤ pos 1) ≡ is_leap (z +ℤ pos 1) → AreAlike (y +ℤ pos 1) (z +ℤ pos 1)
alike_after y z alike leap =
    let n = pos (days_in_year y) in
    let there : first_day_of_year z +ℤ n ≡ first_day_of_year (z +ℤ pos 1) =
    omega (arith, ints, first_day_of_year-next z, days_in_year-alike y z alike.leap) in
    record {
      weekday = ap weekday_of (first_day_of_year-next y) ∙ weekday_of-later (first_day_of_year y) (first_day_of_year z) n alike.weekday ∙ ap weekday_of there;
      leap = leap;
    }

-- ---- BYWEEKNO: the week of a day belongs to the day's year or to a year beside it

module _ (y z : ℤ) (alike : AreAlike y z) (beside : AreAlikeBeside y z) (k : ℕ) (low : k < days_in_year y) (w : ℕ) where
  -- the week of the day k of the year y, and that of the day k of the year z
  abbrev first : ℤ
  first = week_index (first_day_of_year y +ℤ pos k) w

  abbrev second : ℤ
  second = week_index (first_day_of_year z +ℤ pos k) w

  week_before : fourth_day first w <ℤ first_day_of_year y → AreAlikeWeeks (y -ℤ pos 1) (z -ℤ pos 1) first second w
  week_before h =
      let near = fourth_day_near (first_day_of_year y +ℤ pos k) w in
      let back : (y -ℤ pos 1) +ℤ pos 1 ≡ y = omega (arith, ints) in
      let a = first_day_of_year-before y in
      let b = first_day_of_year-before z in
      let same = days_in_year-alike (y -ℤ pos 1) (z -ℤ pos 1) beside.before in
      record {
        within = record { begun = omega (arith, ints, a, near.1, days_in_year_bounds (y -ℤ pos 1)); not_over = rw back h };
        day = omega (arith, ints, a, b, same, fourth_days-alike y z alike (pos k) w);
      }

  week_within : first_day_of_year y ≤ℤ fourth_day first w → fourth_day first w <ℤ first_day_of_year (y +ℤ pos 1)
      → AreAlikeWeeks y z first second w
  week_within h g = record { within = record { begun = h; not_over = g }; day = fourth_days-alike y z alike (pos k) w }

  week_after : first_day_of_year (y +ℤ pos 1) ≤ℤ fourth_day first w → AreAlikeWeeks (y +ℤ pos 1) (z +ℤ pos 1) first second w
  week_after h =
      let near = fourth_day_near (first_day_of_year y +ℤ pos k) w in
      let a = first_day_of_year-next y in
      let b = first_day_of_year-next z in
      let c = first_day_of_year-next (y +ℤ pos 1) in
      let same = days_in_year-alike y z alike.leap in
      record {
        within = record { begun = h; not_over = omega (arith, ints, a, c, near.0, low, days_in_year_bounds (y +ℤ pos 1)) };
        day = omega (arith, ints, a, b, same, fourth_days-alike y z alike (pos k) w);
      }

  is_week_listed-same : (numbers : List ℤ) → is_week_listed numbers w first ≡ is_week_listed numbers w second
  is_week_listed-same numbers =
      let P : Type 0 = is_week_listed numbers w first ≡ is_week_listed numbers w second in
      by_lt_z {P = P} (fourth_day first w) (first_day_of_year y)
      (λ h. is_week_listed-alike (y -ℤ pos 1) (z -ℤ pos 1) (alike_before y z alike beside.before) numbers first second w (week_before h))
      (λ h. by_lt_z {P = P} (fourth_day first w) (first_day_of_year (y +ℤ pos 1))
      (λ g. is_week_listed-alike y z alike numbers first second w (week_within h g))
      (λ g. is_week_listed-alike (y +ℤ pos 1) (z +ℤ pos 1) (alike_after y z alike beside.after) numbers first second w (week_after g)))

-- ---- masks

-- the years beside are asked only if BYWEEKNO is present
listed-same : (numbers : List ℤ) (w : ℕ) (y z : ℤ) (k : ℕ) → IsToldBy (is_absent numbers) y z → k < days_in_year y
    → is_week_listed numbers w (week_index (first_day_of_year y +ℤ pos k) w) ≡ is_week_listed numbers w (week_index (first_day_of_year z +ℤ pos k) w)
listed-same [] w y z k told low = refl
listed-same (n ∷ ns) w y z k told low = is_week_listed-same y z told.alike (told.beside refl) k low w (n ∷ ns)

-- the date parts of a rule hold of a day of a year as of the day with its number in a year of the same key
date_parts-same : (rule : Rule) (y z : ℤ) (k : ℕ) → IsToldBy (is_absent rule.by_week_no) y z → k < days_in_year y
    → date_parts_hold rule (first_day_of_year y +ℤ pos k) ≡ date_parts_hold rule (first_day_of_year z +ℤ pos k)
date_parts-same rule y z k told low =
    let d = first_day_of_year y +ℤ pos k in
    let e = first_day_of_year z +ℤ pos k in
    let same = on_one_day_of_year y z k told.alike low in
    let week : by_week_no_holds rule d ≡ by_week_no_holds rule e = listed-same rule.by_week_no rule.week_start y z k told low in
    rw (by_month-same d e same rule, week, by_year_day-same d e same rule, by_month_day-same d e same rule, by_day-same d e same rule) refl

and-same : (b p q : Bool) → (b ≡ true → p ≡ q) → (b && p) ≡ (b && q)
and-same true p q h = h refl
and-same false p q h = refl

pub equal_keys_have_equal_masks : EqualKeysHaveEqualMasks
equal_keys_have_equal_masks f y z e k =
    let told = told_by_keys f.rule y z e in
    and-same (nat_lt k (days_in_year y)) (allows_day f (first_day_of_year y +ℤ pos k)) (allows_day f (first_day_of_year z +ℤ pos k))
    (λ h. date_parts-same (filled_rule f.rule Days f.start_day) y z k told (grind (arith, nat_tests, h)))
    ∙ ap (λ n. nat_lt k n && allows_day f (first_day_of_year z +ℤ pos k)) (days_in_year-alike y z told.alike.leap)
