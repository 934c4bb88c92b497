use Rattle.std.proofs.Common.{refl}
use Rattle.std.proofs.lemmas.Result.{IfOk-weaker}
use Rattle.rr_days.specs.Sequence.{sketch}
use Rattle.rr_model.specs.Sets.Sketch.{StandsIn}
use Rattle.rr_next.specs.Window.{between}
use Rattle.rr_answer.specs.Outcome.{answer_of}
use Rattle.rr_answer.proofs.WindowSaidLemmas.{printable_times, times_said}
use Rattle.rr_answer.proofs.windows.outcome_between.Goals as goal

pub outcome_of_times-requires : goal.outcome_of_times-requires
outcome_of_times-requires c =
    let s = sketch c.args.days.now in
    rw c.as_slice.ensures.value
    (printable_times s c.kind.result (between (StandsIn s) c.args.from.kind c.args.from.at c.args.to.kind c.args.to.at s.kind) 100_001 c.in_ok-times.times.items
    c.kind.ensures c.requires.occur (λ t p. p.0) (rw (c.get.ensures.value, c.get-2.ensures.value) at c.in_ok-times.ensures.first) c.in_ok-times.ensures.near)

pub returns : goal.returns
returns c =
    let s = sketch c.args.days.now in
    IfOk-weaker c.outcome_of_times.result _ _
    (λ x e. times_said (between (StandsIn s) c.args.from.kind c.args.from.at c.args.to.kind c.args.to.at s.kind) c.kind.result s.kind 100_001
    c.as_slice.result.now c.in_ok-times.times.items (answer_of x) c.kind.ensures c.as_slice.ensures.value refl (rw (c.get.ensures.value, c.get-2.ensures.value) at c.in_ok-times.ensures.first) e)
    c.outcome_of_times.ensures
