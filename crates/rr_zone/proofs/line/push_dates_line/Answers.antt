use Rattle.std.proofs.Common.{refl}
use Rattle.rr_model.specs.Text.RuleValues.{pieces}
use Rattle.rr_zone.specs.Clocks.{local_time}
use Rattle.rr_zone.specs.Values.{local_dates}
use Rattle.rr_zone.proofs.LineLemmas.{dates_put}
use Rattle.rr_zone.proofs.line.push_dates_line.Goals as goal

pub returns-clause-value : goal.returns-clause-value
returns-clause-value c =
    dates_put c.args.front.now c.args.value.now c.push_behind_front.result c.args.out.now.items c.push_behind_front.new.out.items c.as_slice.result.now
    (local_dates (local_time c.args.clock.now) c.args.role (pieces 44 c.args.value.now))
    (rw (c.as_slice.ensures.value, c.in_ok-push_dates.ensures.value, c.new-dates.ensures.items) refl) c.push_behind_front.ensures
