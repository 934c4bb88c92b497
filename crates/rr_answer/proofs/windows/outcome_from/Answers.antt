use Rattle.std.proofs.Common.{refl}
use Rattle.rr_days.specs.Sequence.{sketch}
use Rattle.rr_model.specs.Sets.Sketch.{StandsIn}
use Rattle.rr_next.specs.Window.{from_on}
use Rattle.rr_answer.proofs.WindowSaidLemmas.{printable_times}
use Rattle.rr_answer.proofs.windows.outcome_from.Goals as goal

pub lines_of-requires : goal.lines_of-requires
lines_of-requires c =
    let s = sketch c.args.days.now in
    rw c.as_slice.ensures.value
    (printable_times s c.kind.result (from_on (StandsIn s) c.args.moment.kind c.args.moment.at s.kind) c.args.count c.in_ok-times.times.items c.kind.ensures
    c.requires.occur (λ t p. p.0) (rw (c.get.ensures.value, c.get-2.ensures.value) at c.in_ok-times.ensures.first) c.in_ok-times.ensures.near)

pub returns : goal.returns
returns c =
    (refl, record { times = c.in_ok-times.times.items; are_first = (rw (c.get.ensures.value, c.get-2.ensures.value) at c.in_ok-times.ensures.first); lines = rw (c.as_slice.ensures.value, c.kind.ensures) at c.in_ok-lines_of.ensures })
