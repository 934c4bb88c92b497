use Rattle.std.proofs.Common.{◌<◌, ◌∙◌, sym, arith, rules, w64, to_z-of_z, FitsSigned}
use Rattle.std.specs.Prelude.{IsTrue, nat_lt}
use Rattle.std.proofs.lemmas.Int.{ints}
use Rattle.std.proofs.lemmas.Result.{IfOk-weaker}
use Rattle.rr_model.specs.Moment.{moment_at}
use Rattle.rr_model.specs.Rising.Sets.{IsSetOf}
use Rattle.rr_model.specs.Rule.Chosen.{is_chosen}
use Rattle.rr_model.specs.declared.kind.Kind.TheVariants.{Moments}
use Rattle.rr_expand.proofs.FinerLemmas.{candidate_seconds}
use Rattle.rr_walk.proofs.OffsetLemmas.{chosen_at_offsets, chosen_plain}
use Rattle.rr_walk.proofs.SetPositionLemmas.{absent_is}
use Rattle.rr_walk.proofs.WalkLemmas.{start_near}
use Rattle.rr_walk.proofs.fine_rule.FineRule.chosen_on.Goals as goal

pub fitting_seconds_by-requires-clause-start : goal.fitting_seconds_by-requires-clause-start
fitting_seconds_by-requires-clause-start c =
    let fits : FitsSigned w64 c.self.inside.start = search rules in
    let n = start_near Moments c.self.inside.start c.self.inside.start_day c.self.invariant.of_day c.self.invariant.valid.in_years in
    rw (to_z-of_z fits) (omega (arith, ints, n.0, c.self.invariant.of_day), omega (arith, ints, n.1, c.self.invariant.of_day))

pub fitting_seconds_by-requires-clause-times : goal.fitting_seconds_by-requires-clause-times
fitting_seconds_by-requires-clause-times c =
    let fits : FitsSigned w64 c.self.inside.start = search rules in
    rw (to_z-of_z fits) c.self.invariant.of_times

pub returns-then-is_empty : goal.returns-then-is_empty
returns-then-is_empty c =
    let i = c.self.inside in
    let fits : FitsSigned w64 i.start = search rules in
    let found = rw (to_z-of_z fits, to_z-of_z c.ranges.day) at c.in_ok-fitting.ensures in
    let allowed = rw (sym c.self.view_is) at c.requires.allowed in
    let set = candidate_seconds i.rule i.start c.args.day c.in_ok-fitting.fitting allowed found in
    let plain = absent_is i.rule.by_set_pos (sym c.is_empty.ensures ∙ c.if-is_empty.true) in
    rw (← c.self.view_is) (chosen_plain i.rule i.start c.args.day c.self.invariant.freq c.in_ok-fitting.fitting plain set)

pub returns : goal.returns
returns c =
    let i = c.self.inside in
    let fits : FitsSigned w64 i.start = search rules in
    let found = rw (to_z-of_z fits, to_z-of_z c.ranges.day) at c.in_ok-fitting.ensures in
    let allowed = rw (sym c.self.view_is) at c.requires.allowed in
    let set = candidate_seconds i.rule i.start c.args.day c.in_ok-fitting.fitting allowed found in
    let offsets = c.self.invariant.of_offsets (sym c.is_empty.ensures ∙ c.if-is_empty.false) in
    rw (← c.self.view_is) (IfOk-weaker c.at_offsets.result _
    (λ t. IsSetOf nat_lt t (λ s. (s < 86_400) × IsTrue (is_chosen i.rule Moments i.start (moment_at Moments c.args.day s))))
    (λ t h. chosen_at_offsets i.rule i.start c.args.day c.self.invariant.freq c.in_ok-fitting.fitting i.offsets t set offsets h)
    (rw c.seconds_of_unit-unit.ensures.value at c.at_offsets.ensures))
