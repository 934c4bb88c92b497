use Rattle.std.proofs.Common.{ℤ, pos, ◌≤ℤ◌, ◌∷◌, [], refl, sym, subst, arith, rules, get_or, length, w64, to_z, of_z, to_z-of_z, FitsSigned}
use Rattle.std.specs.Prelude.{nat_lt}
use Rattle.std.proofs.lemmas.Int.{ints}
use Rattle.rr_model.specs.Rising.Sets.{IsSetOf}
use Rattle.rr_model.specs.Rule.DaysAndTimes.{IsCandidateTime}
use Rattle.rr_model.specs.Sets.Tree.{chosen_of}
use Rattle.rr_model.proofs.RisingSetLemmas.{length-le_bound}
use Rattle.rr_walk.specs.Ruling.{Ruling}
use Rattle.rr_walk.proofs.DayListLemmas.{passed_empty}
use Rattle.rr_walk.proofs.SetPositionLemmas.{candidate_at}
use Rattle.rr_walk.proofs.PositionDayLemmas.{few_days, first_on_day, none_on_day, passed_next, passed_parted, passed_rest}
use Rattle.rr_walk.proofs.day_rule.DayRule.first_of.Goals as goal

pub loop-found-init : goal.loop-found-init
loop-found-init c =
    let r = c.args.self.now in
    let from = to_z-of_z c.ranges.from in
    rw from (
      (λ n t e. e),
      passed_parted (chosen_of r.rule r.kind r.start) c.args.days.now c.args.from c.count_before-rank.result (rw from at c.count_before-rank.ensures.before),
      rw from at c.count_before-rank.ensures.not_before,
    )

pub next_rank-requires-clause-each : goal.next_rank-requires-clause-each
next_rank-requires-clause-each c =
    let day = rw (sym c.as_slice-each.ensures.same) at c.as_slice-each.ensures.of_day in
    length-le_bound c.as_slice-each.result.now 86_400 day.rises day.below_a_day

pub next_rank-requires-clause-count : goal.next_rank-requires-clause-count
next_rank-requires-clause-count c =
    let u = rw c.self.view_is at c.self.invariant in
    few_days c.args.self.now c.args.days.now u.freq c.requires.days

pub on_day-requires-clause-candidate : goal.on_day-requires-clause-candidate
on_day-requires-clause-candidate c =
    let days = c.args.days.now in
    let x : ℤ = get_or days c.in-Some.found (pos 0) in
    let fits : FitsSigned w64 x = search rules in
    let next = rw c.in-Some.is at c.next_rank.ensures in
    candidate_at c.args.self.now days (to_z w64 (of_z w64 x)) c.in-Some.found c.in-Some.found (length days) c.requires.days next.1 (to_z-of_z fits) refl refl

pub returns-in_err-occupied-clause-kept : goal.returns-in_err-occupied-clause-kept
returns-in_err-occupied-clause-kept c n t e = c.on_day.ensures.kept n t (c.loop-found.invariant.0 n t e)

pub returns-then-is_some-clause-kept : goal.returns-then-is_some-clause-kept
returns-then-is_some-clause-kept c n t e = c.on_day.ensures.kept n t (c.loop-found.invariant.0 n t e)

pub returns-then-is_some-clause-found : goal.returns-then-is_some-clause-found
returns-then-is_some-clause-found c =
    let i = c.self.inside in
    let r : Ruling = record { rule = i.rule; kind = i.kind; start = i.start; kept = i.number ∷ [] } in
    let tree = chosen_of i.rule i.kind i.start in
    let days = c.args.days.now in
    let found = c.in-Some.found in
    let x : ℤ = get_or days found (pos 0) in
    let fits : FitsSigned w64 x = search rules in
    let unit_days = rw (sym c.self.view_is) at c.requires.days in
    let stands = rw (sym c.self.view_is) at c.requires.positions in
    let inv = rw (sym c.self.view_is, to_z-of_z c.ranges.from) at c.loop-found.invariant in
    let set = subst (λ t. IsSetOf nat_lt t (IsCandidateTime i.rule i.kind i.start)) (sym c.as_slice-each.ensures.same) c.self.invariant.of_times in
    let next = rw c.in-Some.is at c.next_rank.ensures in
    let passed = passed_next r c.self.invariant.freq stands c.as_slice-each.result.now set days unit_days c.args.from c.loop-found.rank inv.1 found next in
    let on = rw (sym c.self.view_is) at c.in_ok-occupied.ensures.found in
    let late : c.args.from ≤ℤ to_z w64 (of_z w64 x) = omega (arith, ints, inv.2 found next.0 next.1, to_z-of_z fits) in
    rw (← c.self.view_is) (first_on_day c.on_day.new.sets tree days c.args.from found (to_z w64 (of_z w64 x)) c.in_ok-occupied.occupied
    (sym c.if-is_some.ensures) unit_days.1.rises next.1 (to_z-of_z fits) late on passed)

pub loop-found-preserved : goal.loop-found-preserved
loop-found-preserved c =
    let i = c.self.inside in
    let r : Ruling = record { rule = i.rule; kind = i.kind; start = i.start; kept = i.number ∷ [] } in
    let tree = chosen_of i.rule i.kind i.start in
    let days = c.args.days.now in
    let found = c.in-Some.found in
    let x : ℤ = get_or days found (pos 0) in
    let fits : FitsSigned w64 x = search rules in
    let unit_days = rw (sym c.self.view_is) at c.requires.days in
    let stands = rw (sym c.self.view_is) at c.requires.positions in
    let inv = rw (sym c.self.view_is, to_z-of_z c.ranges.from) at c.loop-found.invariant in
    let set = subst (λ t. IsSetOf nat_lt t (IsCandidateTime i.rule i.kind i.start)) (sym c.as_slice-each.ensures.same) c.self.invariant.of_times in
    let next = rw c.in-Some.is at c.next_rank.ensures in
    let passed = passed_next r c.self.invariant.freq stands c.as_slice-each.result.now set days unit_days c.args.from c.loop-found.rank inv.1 found next in
    let on = rw (sym c.self.view_is) at c.in_ok-occupied.ensures.found in
    let none = none_on_day c.on_day.new.sets tree (to_z w64 (of_z w64 x)) c.in_ok-occupied.occupied (sym c.if-is_some.ensures) on in
    rw (← c.self.view_is, to_z-of_z c.ranges.from) (
      (λ n t e. c.on_day.ensures.kept n t (inv.0 n t e)),
      passed_empty tree days c.args.from found (to_z w64 (of_z w64 x)) (to_z-of_z fits) none passed,
      (λ k g l. inv.2 k (omega (arith, g, next.0)) l),
    )

pub returns-clause-found : goal.returns-clause-found
returns-clause-found c =
    let i = c.self.inside in
    let r : Ruling = record { rule = i.rule; kind = i.kind; start = i.start; kept = i.number ∷ [] } in
    let unit_days = rw (sym c.self.view_is) at c.requires.days in
    let stands = rw (sym c.self.view_is) at c.requires.positions in
    let inv = rw (sym c.self.view_is, to_z-of_z c.ranges.from) at c.loop-found.invariant in
    let set = subst (λ t. IsSetOf nat_lt t (IsCandidateTime i.rule i.kind i.start)) (sym c.as_slice-each.ensures.same) c.self.invariant.of_times in
    rw (← c.self.view_is) (passed_rest r c.self.invariant.freq stands c.as_slice-each.result.now set c.args.days.now unit_days c.args.from c.loop-found.rank inv.1
    (rw c.in_default.is at c.next_rank.ensures))
