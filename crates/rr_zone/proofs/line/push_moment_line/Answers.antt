use Rattle.std.proofs.Common.{refl}
use Rattle.rr_zone.specs.Clocks.{local_time}
use Rattle.rr_zone.specs.Lines.{one_front}
use Rattle.rr_zone.specs.Values.{local_moment}
use Rattle.rr_zone.proofs.LineLemmas.{one_put}
use Rattle.rr_zone.proofs.line.push_moment_line.Goals as goal

pub returns-clause-value : goal.returns-clause-value
returns-clause-value c =
    one_put c.args.front.now c.args.value.now c.push_new_date.result (one_front c.args.zone.now c.args.role c.args.front.now) c.args.out.now.items
    c.push_new_date.new.out.items c.as_slice.result.now (local_moment (local_time c.args.clock.now) c.args.role c.args.value.now)
    (rw (c.as_slice.ensures.value, c.in_ok-push_moment.ensures.value, c.new-new.ensures.items) refl) c.push_new_date.ensures
