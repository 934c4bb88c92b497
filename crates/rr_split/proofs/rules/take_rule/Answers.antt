use Rattle.std.proofs.Common.{length, ◌≤◌, sym, subst}
use Rattle.rr_days.specs.Sequence.{sketch}
use Rattle.rr_model.specs.Sets.Sketch.{StandsIn}
use Rattle.rr_model.specs.Vcal.Members.{OccursInVseries}
use Rattle.rr_model.specs.declared.vcal.VSeries.{VSeries}
use Rattle.rr_plan.specs.Plan.{IsTakenBy}
use Rattle.rr_split.specs.Vcal.{IsRuleEvent}
use Rattle.rr_split.proofs.VcalLemmas.{event_taken}
use Rattle.rr_split.proofs.rules.take_rule.Goals as goal

pub returns-clause-taken : goal.returns-clause-taken
returns-clause-taken c =
    let found = c.in-Some.found in
    subst (λ e. IsTakenBy IsRuleEvent OccursInVseries (StandsIn (sketch c.args.rest.now)) e (StandsIn (sketch c.in-Some-3.left)))
    (sym c.in_ok-event_of.ensures)
    (event_taken (sketch c.args.rest.now) (sketch c.args.days.now) (sketch c.in-Some-3.left) found.rule found.kind found.start c.args.most c.in-Some-2.minus
    (rw c.in-Some.is at c.in_ok-found.ensures) (rw c.in-Some-2.is at c.in_ok-minus.ensures)
    (rw c.as_slice.ensures.value at (c.are_in_years.ensures.all c.if-not-are_in_years.false)) c.requires (rw c.in-Some-3.is at c.in_ok-left.ensures))

pub returns-clause-few : goal.returns-clause-few
returns-clause-few c =
    subst (λ (e : VSeries). length e.minus ≤ c.args.most) (sym c.in_ok-event_of.ensures) (rw c.in-Some-2.is at c.in_ok-minus.ensures).few
