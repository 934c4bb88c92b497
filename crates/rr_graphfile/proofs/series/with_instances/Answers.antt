use Rattle.rr_graphfile.proofs.InstanceLemmas.{edited_valid}
use Rattle.rr_graphfile.proofs.series.with_instances.Goals as goal

pub returns-clause-valid : goal.returns-clause-valid
returns-clause-valid c =
    edited_valid c.is_cancelled-is_cancelled.result c.args.placed.place c.args.read.now c.in_ok-series.series c.in_ok-shifts.shifts c.moved.result
    c.in_ok-series.ensures.value c.in_ok-series.ensures.sound.valid c.in_ok-shifts.ensures.years c.moved.ensures
