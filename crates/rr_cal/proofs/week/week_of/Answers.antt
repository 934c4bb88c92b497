use Rattle.std.proofs.Common.{arith, rules, ◌≡◌, ◌∙◌, sym, ap, ℕ, ◌+◌, ◌/◌, ℤ, FitsSigned, w64, to_z, of_z, to_z-of_z}
use Rattle.rr_model.specs.Calendar.{day_number, year_of, days_into_year, IsDayWithin}
use Rattle.rr_model.specs.Calendar.Week.{week_index, fourth_day, week_year, week_number, last_week}
use Rattle.rr_model.proofs.WeekLemmas.{IsDate-december_28, IsDate-january_1, week_year-december_28, week_number_bounds, last_week_bounds}
use Rattle.rr_cal.proofs.NearLemmas.{IsDayWithin-wider, IsDayWithin-fourth_day, IsDayWithin-same_year}
use Rattle.rr_cal.proofs.week.week_of.Goals as goal

-- The values on the way, as the definitions have them: the fourth day f of the week of d, its year y, 28 December e of that year,
-- and the fourth day l of its week, which lies in the same year.
module _ (w : ℕ) (d f : ℤ) (hd : FitsSigned w64 d) (hf : FitsSigned w64 f) (is_f : f ≡ fourth_day (week_index (to_z w64 (of_z w64 d)) w) w) where
  fourth : to_z w64 (of_z w64 f) ≡ fourth_day (week_index d w) w
  fourth = to_z-of_z hf ∙ is_f ∙ ap (λ z. fourth_day (week_index z w) w) (to_z-of_z hd)

  fourth_near : IsDayWithin 1000 d → IsDayWithin 1003 (to_z w64 (of_z w64 f))
  fourth_near near = rw fourth (IsDayWithin-fourth_day 1000 d w near)

  module _ (y : ℤ) (hy : FitsSigned w64 y) (is_y : y ≡ year_of (to_z w64 (of_z w64 f))) where
    year : to_z w64 (of_z w64 y) ≡ year_of (to_z w64 (of_z w64 f))
    year = to_z-of_z hy ∙ is_y

    december_near : IsDayWithin 1000 d → IsDayWithin 1368 (day_number (to_z w64 (of_z w64 y)) 12 28)
    december_near near =
        let date = IsDate-december_28 (year_of (to_z w64 (of_z w64 f))) in
        rw year (IsDayWithin-same_year 1003 (to_z w64 (of_z w64 f)) 12 28 date (fourth_near near))

    january_near : IsDayWithin 1000 d → IsDayWithin 1368 (day_number (to_z w64 (of_z w64 y)) 1 1)
    january_near near =
        let date = IsDate-january_1 (year_of (to_z w64 (of_z w64 f))) in
        rw year (IsDayWithin-same_year 1003 (to_z w64 (of_z w64 f)) 1 1 date (fourth_near near))

    module _ (e : ℤ) (he : FitsSigned w64 e) (is_e : e ≡ day_number (to_z w64 (of_z w64 y)) 12 28) where
      december : to_z w64 (of_z w64 e) ≡ day_number (to_z w64 (of_z w64 y)) 12 28
      december = to_z-of_z he ∙ is_e

      module _ (l : ℤ) (hl : FitsSigned w64 l) (is_l : l ≡ fourth_day (week_index (to_z w64 (of_z w64 e)) w) w) where
        last : to_z w64 (of_z w64 l) ≡ fourth_day (week_index (day_number (to_z w64 (of_z w64 y)) 12 28) w) w
        last = to_z-of_z hl ∙ is_l ∙ ap (λ z. fourth_day (week_index z w) w) december

        last_near : IsDayWithin 1000 d → IsDayWithin 1371 (to_z w64 (of_z w64 l))
        last_near near =
            rw last (IsDayWithin-fourth_day 1368 (day_number (to_z w64 (of_z w64 y)) 12 28) w (december_near near))

        own_year : to_z w64 (of_z w64 y) ≡ year_of (to_z w64 (of_z w64 l))
        unfolding week_year
        own_year = sym (ap year_of last ∙ week_year-december_28 (to_z w64 (of_z w64 y)) w)

pub date_of_near-year-requires : goal.date_of_near-year-requires
date_of_near-year-requires c =
    let f = c.fourth_of_week-fourth.result in
    let hf : FitsSigned w64 f = search rules in
    let near = fourth_near c.args.week_start c.args.day f c.ranges.day hf c.fourth_of_week-fourth.ensures c.requires.near in
    record { near = IsDayWithin-wider 1003 3000 _ (omega arith) near }

pub day_of_near-first-requires-clause-near : goal.day_of_near-first-requires-clause-near
day_of_near-first-requires-clause-near c =
    let f = c.fourth_of_week-fourth.result in
    let y = c.date_of_near-year.result.year in
    let hf : FitsSigned w64 f = search rules in
    let hy : FitsSigned w64 y = search rules in
    let near = january_near c.args.week_start c.args.day f c.ranges.day hf c.fourth_of_week-fourth.ensures y hy c.date_of_near-year.ensures.year
    c.requires.near in
    IsDayWithin-wider 1368 3000 _ (omega arith) near

pub number_of_week-requires : goal.number_of_week-requires
number_of_week-requires c =
    let f = c.fourth_of_week-fourth.result in
    let y = c.date_of_near-year.result.year in
    let j = c.day_of_near-first.result in
    let hf : FitsSigned w64 f = search rules in
    let hy : FitsSigned w64 y = search rules in
    let hj : FitsSigned w64 j = search rules in
    let near = fourth_near c.args.week_start c.args.day f c.ranges.day hf c.fourth_of_week-fourth.ensures c.requires.near in
    let same = year c.args.week_start c.args.day f c.ranges.day hf c.fourth_of_week-fourth.ensures y hy c.date_of_near-year.ensures.year in
    record {
      near = IsDayWithin-wider 1003 2000 _ (omega arith) near;
      first = to_z-of_z hj ∙ c.day_of_near-first.ensures ∙ ap (λ z. day_number z 1 1) same;
    }

pub day_of_near-december_28-requires-clause-near : goal.day_of_near-december_28-requires-clause-near
day_of_near-december_28-requires-clause-near c =
    let f = c.fourth_of_week-fourth.result in
    let y = c.date_of_near-year.result.year in
    let hf : FitsSigned w64 f = search rules in
    let hy : FitsSigned w64 y = search rules in
    let near = december_near c.args.week_start c.args.day f c.ranges.day hf c.fourth_of_week-fourth.ensures y hy c.date_of_near-year.ensures.year
    c.requires.near in
    IsDayWithin-wider 1368 3000 _ (omega arith) near

pub fourth_of_week-last-requires : goal.fourth_of_week-last-requires
fourth_of_week-last-requires c =
    let f = c.fourth_of_week-fourth.result in
    let y = c.date_of_near-year.result.year in
    let e = c.day_of_near-december_28.result in
    let hf : FitsSigned w64 f = search rules in
    let hy : FitsSigned w64 y = search rules in
    let he : FitsSigned w64 e = search rules in
    let near = december_near c.args.week_start c.args.day f c.ranges.day hf c.fourth_of_week-fourth.ensures y hy c.date_of_near-year.ensures.year
    c.requires.near in
    let december : to_z w64 (of_z w64 e) ≡ day_number (to_z w64 (of_z w64 y)) 12 28 = to_z-of_z he ∙ c.day_of_near-december_28.ensures in
    record { near = rw december (IsDayWithin-wider 1368 3000 _ (omega arith) near) }

pub number_of_week-requires-2 : goal.number_of_week-requires-2
number_of_week-requires-2 c =
    let f = c.fourth_of_week-fourth.result in
    let y = c.date_of_near-year.result.year in
    let j = c.day_of_near-first.result in
    let e = c.day_of_near-december_28.result in
    let l = c.fourth_of_week-last.result in
    let hf : FitsSigned w64 f = search rules in
    let hy : FitsSigned w64 y = search rules in
    let hj : FitsSigned w64 j = search rules in
    let he : FitsSigned w64 e = search rules in
    let hl : FitsSigned w64 l = search rules in
    let near = last_near c.args.week_start c.args.day f c.ranges.day hf c.fourth_of_week-fourth.ensures y hy c.date_of_near-year.ensures.year e he
    c.day_of_near-december_28.ensures l hl c.fourth_of_week-last.ensures c.requires.near in
    let same = own_year c.args.week_start c.args.day f c.ranges.day hf c.fourth_of_week-fourth.ensures y hy c.date_of_near-year.ensures.year e he
    c.day_of_near-december_28.ensures l hl c.fourth_of_week-last.ensures in
    record {
      near = IsDayWithin-wider 1371 2000 _ (omega arith) near;
      first = to_z-of_z hj ∙ c.day_of_near-first.ensures ∙ ap (λ z. day_number z 1 1) same;
    }

pub returns-clause-year : goal.returns-clause-year
unfolding week_year
returns-clause-year c =
    let f = c.fourth_of_week-fourth.result in
    let y = c.date_of_near-year.result.year in
    let hf : FitsSigned w64 f = search rules in
    let hy : FitsSigned w64 y = search rules in
    to_z-of_z hy ∙ c.date_of_near-year.ensures.year ∙ ap year_of (fourth c.args.week_start c.args.day f c.ranges.day hf c.fourth_of_week-fourth.ensures)

pub returns-clause-number : goal.returns-clause-number
unfolding week_number
returns-clause-number c =
    let f = c.fourth_of_week-fourth.result in
    let hf : FitsSigned w64 f = search rules in
    c.number_of_week.ensures ∙ ap (λ z. days_into_year z / 7 + 1) (fourth c.args.week_start c.args.day f c.ranges.day hf c.fourth_of_week-fourth.ensures)

pub returns-clause-last : goal.returns-clause-last
unfolding last_week week_number
returns-clause-last c =
    let f = c.fourth_of_week-fourth.result in
    let y = c.date_of_near-year.result.year in
    let e = c.day_of_near-december_28.result in
    let l = c.fourth_of_week-last.result in
    let he : FitsSigned w64 e = search rules in
    let hl : FitsSigned w64 l = search rules in
    let december : to_z w64 (of_z w64 e) ≡ day_number (to_z w64 (of_z w64 y)) 12 28 = to_z-of_z he ∙ c.day_of_near-december_28.ensures in
    let last : to_z w64 (of_z w64 l) ≡ fourth_day (week_index (day_number (to_z w64 (of_z w64 y)) 12 28) c.args.week_start) c.args.week_start =
    to_z-of_z hl ∙ c.fourth_of_week-last.ensures ∙ ap (λ z. fourth_day (week_index z c.args.week_start) c.args.week_start) december in
    c.number_of_week-2.ensures ∙ ap (λ z. days_into_year z / 7 + 1) last

pub returns-clause-range : goal.returns-clause-range
returns-clause-range c =
    let w = c.args.week_start in
    let i = week_index c.args.day w in
    let number = returns-clause-number c in
    let last = returns-clause-last c ∙ ap (λ y. last_week y w) (returns-clause-year c) in
    let bounds = week_number_bounds i w in
    let most = last_week_bounds (week_year i w) w in
    (omega (arith, number, bounds.0), omega (arith, number, last, bounds.1), omega (arith, last, most.1))
