use Rattle.std.proofs.Common.{Some, sym, ap, ◌∙◌}
use Rattle.rr_zone.specs.Events.{series_named}
use Rattle.rr_zone.proofs.SeriesLemmas.{instance_start, texts, turned}
use Rattle.rr_zone.proofs.series.turning_start.Goals as goal

pub returns-in-Some : goal.returns-in-Some
returns-in-Some c = λ events is.
    sym (turned (series_named c.args.event.now.uid events) (Some c.in-Some.start.now.now) c.args.event.now
    (ap texts (rw c.as_slice.ensures at c.in-Some.ensures.value) ∙ is c.args.event.now.uid))
    ∙ sym (instance_start events c.args.event.now c.if-not-event.false)
