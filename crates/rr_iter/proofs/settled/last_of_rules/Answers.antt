use Rattle.std.proofs.Common.{◌≡◌, get_or, w64, to_z, of_z, FitsSigned, to_z-of_z, sym, subst, arith}
use Rattle.std.specs.Prelude.{Err}
use Rattle.std.proofs.lemmas.Int.{ints}
use Rattle.rr_model.specs.Answers.{RefusedExactlyWhere}
use Rattle.rr_model.specs.Series.Limits.{CountsTooFar}
use Rattle.rr_model.specs.declared.refusal.Refusal.TheVariants.{CountedTooFar}
use Rattle.rr_iter.specs.Counts.{IsCountOf}
use Rattle.rr_iter.specs.Ends.{IsSoundRule}
use Rattle.rr_iter.proofs.CountedLemmas.{start_bounds}
use Rattle.rr_iter.specs.declared.counts.LastDay.{LastDay}
use Rattle.rr_iter.specs.declared.settled.LastOfRules.{LastOfRules}
use Rattle.rr_iter.proofs.CountsLemmas.{counted_all, counted_more, counted_none}
use Rattle.rr_iter.proofs.SettledLemmas.{gathered_all, gathered_more, gathered_none, none_too_far, one_too_far}
use Rattle.rr_iter.proofs.settled.last_of_rules.Goals as goal

pub loop-rule-preserved : goal.loop-rule-preserved
loop-rule-preserved c =
    let start = to_z-of_z c.ranges.start in
    let day_is = to_z-of_z c.ranges.day in
    let max_fits : FitsSigned w64 c.max-last.result = record { sfits = c.max-last.type_inv } in
    let list = c.args.rules.now in
    let rule = c.rule-item.result in
    let index = c.loop-rule.rule-index in
    let item : get_or list index rule ≡ rule = sym c.rule-item.is in
    let day = rw start at c.in-Ok.ensures.day in
    let counted = subst (λ t. IsCountOf c.args.kind t rule c.in-Ok.own.counted) start c.in-Ok.ensures.counted in
    let refused = subst (λ t. CountsTooFar c.args.kind t rule → ⊥) start c.in-Ok.ensures.refused in
    let near = c.in-Ok.ensures.near in
    let gathered = rw (start, day_is) at c.loop-rule.invariant.0 in
    let counts = rw start at c.loop-rule.invariant.1 in
    let first_low = (start_bounds c.args.kind c.args.start rule (subst (IsSoundRule c.args.kind c.args.start) item
    (c.requires.sound index rule c.loop-rule-test.true))).0 in
    let same : to_z w64 (of_z w64 c.in-Ok.own.day) ≡ c.in-Ok.own.day = omega (arith, ints, near, day.late, first_low) in
    let both = rw same at c.max-last.ensures.value in
    rw (start, day_is, to_z-of_z max_fits, c.in_ok-put-in-Ok.ensures) (
      gathered_more c.args.kind c.args.start list c.args.day index _ c.requires.late gathered rule c.in-Ok.own.day
          c.max-last.result c.loop-rule-test.true item day near refused both,
      counted_more c.args.kind c.args.start list index _ counts rule c.in-Ok.own.counted c.loop-rule-test.true item counted,
    )

pub loop-rule-init : goal.loop-rule-init
loop-rule-init c =
    rw (to_z-of_z c.ranges.start, to_z-of_z c.ranges.day, c.new-counts.ensures.items) (
      gathered_none c.args.kind c.args.start c.args.rules.now c.args.day c.requires.near,
      counted_none c.args.kind c.args.start c.args.rules.now,
    )

pub returns-in-Err-clause-refused : goal.returns-in-Err-clause-refused
returns-in-Err-clause-refused c =
    let list = c.args.rules.now in
    let rule = c.rule-item.result in
    let fault = c.in-Err.fault in
    let given = subst (λ t. RefusedExactlyWhere {X = LastDay} (CountsTooFar c.args.kind t rule) CountedTooFar (Err fault)) (to_z-of_z c.ranges.start)
    c.in-Err.ensures.refused in
    one_too_far LastDay LastOfRules c.args.kind c.args.start list c.loop-rule.rule-index rule fault c.loop-rule-test.true (sym c.rule-item.is) given

pub returns-clause-last : goal.returns-clause-last
returns-clause-last c =
    let gathered = rw (to_z-of_z c.ranges.start, to_z-of_z c.ranges.day) at c.loop-rule.invariant.0 in
    gathered_all c.args.kind c.args.start c.args.rules.now c.args.day c.loop-rule.rule-index _ c.requires.late gathered c.loop-rule-test.false

pub returns-clause-refused : goal.returns-clause-refused
returns-clause-refused c =
    let gathered = rw (to_z-of_z c.ranges.start, to_z-of_z c.ranges.day) at c.loop-rule.invariant.0 in
    none_too_far c.args.kind c.args.start c.args.rules.now c.args.day c.loop-rule.rule-index _ c.requires.late gathered c.loop-rule-test.false

pub returns-clause-counts : goal.returns-clause-counts
returns-clause-counts c =
    let counts = rw (to_z-of_z c.ranges.start) at c.loop-rule.invariant.1 in
    counted_all c.args.kind c.args.start c.args.rules.now c.loop-rule.rule-index _ counts c.loop-rule-test.false
