use Rattle.std.proofs.Common.{◌≡◌, ◌≤◌, ℕ, ◌∙◌, sym, ap, subst, refl, rules, FitsSigned, w64, to_z, of_z, to_z-of_z, pos, ◌+ℤ◌, ◌-ℤ◌, Some, ◌*◌, ◌/◌, arith}
use Rattle.std.proofs.lemmas.Int.{ints}
use Rattle.std.proofs.lemmas.Nat.{div-add-mod'}
use Rattle.rr_model.specs.Whole.{divides}
use Rattle.rr_model.specs.Moment.{day_part, moment_at}
use Rattle.rr_model.specs.Moment.Units.{unit_number, unit_start}
use Rattle.rr_model.specs.declared.kind.Kind.TheVariants.{Days}
use Rattle.rr_model.specs.Rule.DaysAndTimes.{seconds_of}
use Rattle.rr_model.proofs.DaysAndTimesLemmas.{unit_of_day}
use Rattle.rr_setpos.specs.Ranks.{days_among, times_before}
use Rattle.rr_setpos.specs.Nth.{IsNthOfUnit}
use Rattle.rr_setpos.proofs.NthLemmas.{nth_some, nth_none, none_unfit, size_by_days, in_unit_there, candidate_there, rank_there}
use Rattle.rr_setpos.proofs.FitLemmas.{day_rank, product_fits, same_within, some_times, time_rank}
use Rattle.rr_setpos.proofs.nth.nth_of_days.Goals as goal

few_among : (days count : ℕ) → days ≤ count → count ≤ 366 → days ≤ 366
few_among days count within few = omega arith

pub returns-then-not-unit_fits : goal.returns-then-not-unit_fits
returns-then-not-unit_fits c =
    let rule = c.args.rule.now in
    let start = c.args.start.now in
    let own = ap (unit_number rule.freq rule.week_start Days) start.of_day ∙ sym (unit_of_day rule.freq rule.week_start start.kind start.at c.requires.freq) in
    none_unfit rule start.kind start.at c.args.unit c.args.position
    (ap (λ u. divides rule.interval (c.args.unit -ℤ u)) (sym own) ∙ rw (to_z-of_z c.ranges.unit) at (sym c.unit_fits.ensures ∙ c.if-not-unit_fits.true))

pub moment_at-requires : goal.moment_at-requires
moment_at-requires c =
    let rule = c.args.rule.now in
    let begins = rw (to_z-of_z c.ranges.unit) at c.first_day_of_unit-first.ensures in
    let ends = rw (to_z-of_z c.ranges.unit) at (c.days_in_unit-count.ensures.next rule.week_start) in (
      omega (arith, ints, begins, ends, c.requires.first, c.requires.next, c.from.ensures, c.nth_day.ensures.within),
      omega
          (arith, ints, begins, ends, c.requires.first, c.requires.next, c.from.ensures, c.nth_day.ensures.within),
    )

pub returns-in-None : goal.returns-in-None
returns-in-None c =
    let rule = c.args.rule.now in
    let start = c.args.start.now in
    let unit = to_z-of_z c.ranges.unit in
    let fits : FitsSigned w64 c.first_day_of_unit-first.result = search rules in
    let begins : to_z w64 (of_z w64 c.first_day_of_unit-first.result) ≡ unit_start rule.freq rule.week_start Days c.args.unit = to_z-of_z fits
    ∙ rw unit at c.first_day_of_unit-first.ensures in
    let ends = rw unit at (c.days_in_unit-count.ensures.next rule.week_start) in
    let each : times_before rule start.kind start.at (seconds_of start.kind) ≡ c.times_before-times.result =
    sym (rw c.seconds_of.ensures at c.times_before-times.ensures.value) in
    let many : days_among rule (day_part start.kind start.at) (unit_start rule.freq rule.week_start Days c.args.unit) c.days_in_unit-count.result
    ≡ c.days_among-days.result = sym (rw (begins, start.of_day) at c.days_among-days.ensures.value) in
    nth_none rule start.kind start.at c.args.unit c.args.position (c.days_among-days.result * c.times_before-times.result)
    (λ t in_it passes. size_by_days rule start.kind start.at c.args.unit c.requires.freq c.days_in_unit-count.result ends t in_it passes ∙ rw (each, many) refl)
    (rw (c.in-None.is, to_z-of_z c.ranges.position) at c.rank_of.ensures)

pub returns-in-Some : goal.returns-in-Some
returns-in-Some c =
    let rule = c.args.rule.now in
    let start = c.args.start.now in
    let unit = to_z-of_z c.ranges.unit in
    let fits : FitsSigned w64 c.first_day_of_unit-first.result = search rules in
    let there : FitsSigned w64 c.moment_at.result = search rules in
    let begins : to_z w64 (of_z w64 c.first_day_of_unit-first.result) ≡ unit_start rule.freq rule.week_start Days c.args.unit = to_z-of_z fits
    ∙ rw unit at c.first_day_of_unit-first.ensures in
    let ends = rw unit at (c.days_in_unit-count.ensures.next rule.week_start) in
    let each : times_before rule start.kind start.at (seconds_of start.kind) ≡ c.times_before-times.result =
    sym (rw c.seconds_of.ensures at c.times_before-times.ensures.value) in
    let many : days_among rule (day_part start.kind start.at) (unit_start rule.freq rule.week_start Days c.args.unit) c.days_in_unit-count.result
    ≡ c.days_among-days.result = sym (rw (begins, start.of_day) at c.days_among-days.ensures.value) in
    let k = c.nth_day.result in
    let s = c.nth_time.result in
    let holds = rw (begins, start.of_day) at c.nth_day.ensures.holds in
    let before : days_among rule (day_part start.kind start.at) (unit_start rule.freq rule.week_start Days c.args.unit) k
    ≡ c.in-Some.rank / c.times_before-times.result = rw (begins, start.of_day) at c.nth_day.ensures.rank in
    let own = ap (unit_number rule.freq rule.week_start Days) start.of_day ∙ sym (unit_of_day rule.freq rule.week_start start.kind start.at c.requires.freq) in
    let fit = ap (λ u. divides rule.interval (c.args.unit -ℤ u)) (sym own) ∙ rw unit at (sym c.unit_fits.ensures ∙ c.if-not-unit_fits.false) in
    let ranked = rw (c.in-Some.is, to_z-of_z c.ranges.position) at c.rank_of.ensures in
    let day : to_z w64 (of_z w64 (to_z w64 (of_z w64 c.first_day_of_unit-first.result) +ℤ to_z w64 (of_z w64 c.from.result)))
    ≡ unit_start rule.freq rule.week_start Days c.args.unit +ℤ pos k =
    omega (arith, ints, begins, ends, c.requires.first, c.requires.next, c.from.ensures, c.nth_day.ensures.within) in
    let at : to_z w64 (of_z w64 c.moment_at.result) ≡ moment_at start.kind (unit_start rule.freq rule.week_start Days c.args.unit +ℤ pos k) s =
    to_z-of_z there ∙ c.moment_at.ensures.value ∙ ap (λ d. moment_at start.kind d s) day in
    let count = c.days_in_unit-count.result in
    let near = c.nth_day.ensures.within in
    let low = c.nth_time.ensures.within in
    let held = c.nth_time.ensures.holds in
    let in_it = in_unit_there rule start.kind start.at c.args.unit c.requires.freq count ends k s near low fit holds held in
    let passes = candidate_there rule start.kind start.at c.args.unit c.requires.freq count ends k s near low fit holds held in
    let ranked_there = rank_there rule start.kind start.at c.args.unit c.requires.freq count ends k s near low fit holds held in
    subst (λ z. IsNthOfUnit rule start.kind start.at c.args.unit c.args.position (Some z)) (sym at)
    (nth_some rule start.kind start.at c.args.unit c.args.position
    (moment_at start.kind (unit_start rule.freq rule.week_start Days c.args.unit +ℤ pos k) s) c.in-Some.rank
    (c.days_among-days.result * c.times_before-times.result) in_it passes
    (ranked_there ∙ rw (before, each, c.nth_time.ensures.rank) (div-add-mod' c.in-Some.rank c.times_before-times.result))
    (size_by_days rule start.kind start.at c.args.unit c.requires.freq count ends _ in_it passes ∙ rw (each, many) refl)
    ranked.1)

pub first_day_of_unit-first-requires-clause-near : goal.first_day_of_unit-first-requires-clause-near
first_day_of_unit-first-requires-clause-near c = rw (to_z-of_z c.ranges.unit) c.requires.first

pub days_among-days-requires-clause-first : goal.days_among-days-requires-clause-first
days_among-days-requires-clause-first c =
    let fits : FitsSigned w64 c.first_day_of_unit-first.result = record { sfits = c.first_day_of_unit-first.type_inv } in
    rw (to_z-of_z fits, c.first_day_of_unit-first.ensures, to_z-of_z c.ranges.unit) c.requires.first

pub days_among-days-requires-clause-last : goal.days_among-days-requires-clause-last
days_among-days-requires-clause-last c =
    let fits : FitsSigned w64 c.first_day_of_unit-first.result = record { sfits = c.first_day_of_unit-first.type_inv } in
    rw (to_z-of_z fits, c.first_day_of_unit-first.ensures, to_z-of_z c.ranges.unit)
    (rw (rw (to_z-of_z c.ranges.unit) at (c.days_in_unit-count.ensures.next c.args.rule.now.week_start)) at c.requires.next)

pub times_before-times-requires : goal.times_before-times-requires
times_before-times-requires c = same_within _ _ c.seconds_of.ensures

pub overflow_mul-days : goal.overflow_mul-days
overflow_mul-days c =
    product_fits _ _ _ c.args.start.now.kind (few_among _ _ c.days_among-days.ensures.few c.days_in_unit-count.ensures.few)
    c.times_before-times.ensures.few c.seconds_of.ensures

pub rank_of-requires : goal.rank_of-requires
rank_of-requires c = rw (to_z-of_z c.ranges.position) c.requires.position

pub nonzero_div-rank : goal.nonzero_div-rank
nonzero_div-rank c = some_times c.in-Some.rank c.days_among-days.result _ (rw c.in-Some.is at c.rank_of.ensures).0

pub nth_day-requires-clause-first : goal.nth_day-requires-clause-first
nth_day-requires-clause-first c =
    let fits : FitsSigned w64 c.first_day_of_unit-first.result = record { sfits = c.first_day_of_unit-first.type_inv } in
    rw (to_z-of_z fits, c.first_day_of_unit-first.ensures, to_z-of_z c.ranges.unit) c.requires.first

pub nth_day-requires-clause-last : goal.nth_day-requires-clause-last
nth_day-requires-clause-last c =
    let fits : FitsSigned w64 c.first_day_of_unit-first.result = record { sfits = c.first_day_of_unit-first.type_inv } in
    rw (to_z-of_z fits, c.first_day_of_unit-first.ensures, to_z-of_z c.ranges.unit)
    (rw (rw (to_z-of_z c.ranges.unit) at (c.days_in_unit-count.ensures.next c.args.rule.now.week_start)) at c.requires.next)

pub nth_day-requires-clause-rank : goal.nth_day-requires-clause-rank
nth_day-requires-clause-rank c =
    rw (sym c.days_among-days.ensures.value)
    (day_rank c.in-Some.rank c.days_among-days.result c.times_before-times.result (rw c.in-Some.is at c.rank_of.ensures).0)

pub nonzero_rem-rank : goal.nonzero_rem-rank
nonzero_rem-rank c = some_times c.in-Some.rank c.days_among-days.result _ (rw c.in-Some.is at c.rank_of.ensures).0

pub nth_time-requires : goal.nth_time-requires
nth_time-requires c =
    rw (sym c.seconds_of.ensures, sym c.times_before-times.ensures.value)
    (time_rank c.in-Some.rank c.days_among-days.result c.times_before-times.result (rw c.in-Some.is at c.rank_of.ensures).0)
