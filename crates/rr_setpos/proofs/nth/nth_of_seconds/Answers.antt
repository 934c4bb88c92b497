use Rattle.std.proofs.Common.{◌≡◌, ◌∙◌, ℤ, sym, ap, subst, rules, FitsSigned, w64, to_z, of_z, to_z-of_z, Some, arith}
use Rattle.rr_model.specs.Moment.{day_part, second_part, moment_at}
use Rattle.rr_model.specs.Moment.Units.{unit_number, unit_start}
use Rattle.rr_model.specs.declared.kind.Kind.TheVariants.{Moments}
use Rattle.rr_model.specs.declared.rule.Rule.{Rule}
use Rattle.rr_setpos.specs.Nth.{IsNthOfUnit}
use Rattle.rr_setpos.proofs.NthLemmas.{nth_some, nth_none, none_unfit, none_on_day, unit_within, rank_in_day, size_in_day, in_fine_unit, candidate_in_fine}
use Rattle.rr_setpos.proofs.NthLemmas.{rank_in_fine, unit_begins}
use Rattle.rr_setpos.proofs.nth.nth_of_seconds.Goals.{After-seconds_of_unit, After-unit_number}
use Rattle.rr_setpos.proofs.nth.nth_of_seconds.Goals.{then-not-is_congruent-via-then-not-is_congruent}
use Rattle.rr_setpos.proofs.nth.nth_of_seconds.Goals.{then-not-is_congruent-via-else-not-is_congruent+then-not-date_parts_hold}
use Rattle.rr_setpos.proofs.nth.nth_of_seconds.Goals as goal

-- The moment at which a unit begins.
abbrev begin_at : Rule → ℤ → ℤ
begin_at rule unit = unit_start rule.freq rule.week_start Moments unit

-- ---- where the unit begins, and the start's own unit and day

record Begun (c : After-unit_number) : Type 0 where
  at : c.new-begin.result.at ≡ begin_at c.args.rule.now c.args.unit
  day : c.new-begin.result.day.number ≡ day_part Moments (begin_at c.args.rule.now c.args.unit)
  start_unit : to_z w64 (of_z w64 c.unit_number.result) ≡ unit_number c.args.rule.now.freq c.args.rule.now.week_start Moments c.args.start.now.at
  start_day : c.args.start.now.day.number ≡ day_part Moments c.args.start.now.at

begun : (c : After-unit_number) → Begun c
begun c =
    let rule = c.args.rule.now in
    let start = c.args.start.now in
    let made = c.new-begin in
    let fits : FitsSigned w64 c.begin_of_unit.result = search rules in
    let begin = unit_begins rule made.result.kind c.args.unit c.begin_of_unit.result made.result.at made.result.day.number c.requires.freq
    (rw (to_z-of_z c.ranges.unit) at c.begin_of_unit.ensures) (made.ensures.at ∙ to_z-of_z fits) made.ensures.kind made.result.of_day in
    let fits_unit : FitsSigned w64 c.unit_number.result = search rules in
    record {
      at = begin.0;
      day = begin.1;
      start_unit = to_z-of_z fits_unit ∙ c.unit_number.ensures ∙ ap (λ k. unit_number rule.freq rule.week_start k start.at) c.requires.kind;
      start_day = start.of_day ∙ ap (λ k. day_part k start.at) c.requires.kind;
    }

-- the second of its day at which it begins
second_is : (c : After-seconds_of_unit) → c.second_part-second.result ≡ second_part Moments (begin_at c.args.rule.now c.args.unit)
second_is c =
    let fits : FitsSigned w64 c.new-begin.result.at = search rules in
    c.second_part-second.ensures.value ∙ ap (second_part Moments) (to_z-of_z fits ∙ (begun (goal.at.times_before-end-requires c).After-unit_number).at)

pub overflow_add-second : goal.overflow_add-second
overflow_add-second c = omega (arith, c.second_part-second.ensures.below, c.seconds_of_unit.ensures.few)

pub returns-then-not-is_congruent : goal.returns-then-not-is_congruent
returns-then-not-is_congruent c =
    let rule = c.args.rule.now in
    let start = c.args.start.now in
    let b = begun (goal.at.returns-then-not-is_congruent c).After-unit_number in
    elim c.then-not-is_congruent.branch [
      | then-not-is_congruent-via-then-not-is_congruent w ↦
          none_unfit rule Moments start.at c.args.unit c.args.position
          (rw (to_z-of_z c.ranges.unit, b.start_unit) at (sym c.is_congruent.ensures ∙ w.if-not-is_congruent.true))
      | then-not-is_congruent-via-else-not-is_congruent+then-not-date_parts_hold w ↦
          none_on_day rule start.at c.args.unit c.requires.freq c.args.position
          (rw (b.start_day, b.day) at (sym w.date_parts_hold.ensures ∙ w.if-not-date_parts_hold.true))
    ]

pub times_before-end-requires : goal.times_before-end-requires
times_before-end-requires c =
    let second = second_is c in
    rw (c.requires.kind, second, c.seconds_of_unit.ensures.value) (unit_within c.args.rule.now c.args.start.now.at c.args.unit c.requires.freq)

pub nth_time-requires : goal.nth_time-requires
nth_time-requires c =
    let second = second_is (goal.at.nth_time-requires c).After-seconds_of_unit in
    let before = rw (c.requires.kind, second) at c.times_before-before.ensures.value in
    let end = rw (c.requires.kind, second, c.seconds_of_unit.ensures.value) at c.times_before-end.ensures.value in
    let ranked = rw (c.in-Some.is, c.saturating_sub.ensures, end, before) at c.rank_of.ensures in
    rw (c.requires.kind, before) (rank_in_day c.args.rule.now c.args.start.now.at c.args.unit c.requires.freq c.in-Some.rank ranked.0)

pub returns-in-None : goal.returns-in-None
returns-in-None c =
    let rule = c.args.rule.now in
    let start = c.args.start.now in
    let second = second_is (goal.at.returns-in-None c).After-seconds_of_unit in
    let before = rw (c.requires.kind, second) at c.times_before-before.ensures.value in
    let end = rw (c.requires.kind, second, c.seconds_of_unit.ensures.value) at c.times_before-end.ensures.value in
    nth_none rule Moments start.at c.args.unit c.args.position _ (λ t in_it passes. size_in_day rule start.at c.args.unit c.requires.freq t in_it passes)
    (rw (c.in-None.is, c.saturating_sub.ensures, end, before, to_z-of_z c.ranges.position) at c.rank_of.ensures)

pub returns-in-Some : goal.returns-in-Some
returns-in-Some c =
    let rule = c.args.rule.now in
    let start = c.args.start.now in
    let b = begun (goal.at.returns-in-Some c).After-unit_number in
    let second = second_is (goal.at.returns-in-Some c).After-seconds_of_unit in
    let before = rw (c.requires.kind, second) at c.times_before-before.ensures.value in
    let end = rw (c.requires.kind, second, c.seconds_of_unit.ensures.value) at c.times_before-end.ensures.value in
    let ranked = rw (c.in-Some.is, c.saturating_sub.ensures, end, before, to_z-of_z c.ranges.position) at c.rank_of.ensures in
    let s = c.nth_time.result in
    let low = rw c.requires.kind at c.nth_time.ensures.within in
    let holds = rw c.requires.kind at c.nth_time.ensures.holds in
    let rank = rw (c.requires.kind, before) at c.nth_time.ensures.rank in
    let fit = rw (to_z-of_z c.ranges.unit, b.start_unit) at (sym c.is_congruent.ensures ∙ c.if-not-is_congruent.false) in
    let dates = rw (b.start_day, b.day) at (sym c.date_parts_hold.ensures ∙ c.if-not-date_parts_hold.false) in
    let there : FitsSigned w64 c.moment_at.result = search rules in
    let fits_day : FitsSigned w64 c.new-begin.result.day.number = search rules in
    let at : to_z w64 (of_z w64 c.moment_at.result) ≡ moment_at Moments (day_part Moments (begin_at rule c.args.unit)) s =
    to_z-of_z there ∙ c.moment_at.ensures.value ∙ ap (λ d. moment_at Moments d s) (to_z-of_z fits_day ∙ b.day) in
    let in_it = in_fine_unit rule start.at c.args.unit c.requires.freq s c.in-Some.rank low fit dates holds ranked.0 rank in
    let passes = candidate_in_fine rule start.at c.args.unit c.requires.freq s c.in-Some.rank low fit dates holds ranked.0 rank in
    subst (λ z. IsNthOfUnit rule Moments start.at c.args.unit c.args.position (Some z)) (sym at)
    (nth_some rule Moments start.at c.args.unit c.args.position _ c.in-Some.rank _ in_it passes
    (rank_in_fine rule start.at c.args.unit c.requires.freq s c.in-Some.rank low fit dates holds ranked.0 rank)
    (size_in_day rule start.at c.args.unit c.requires.freq _ in_it passes)
    ranked.1)
