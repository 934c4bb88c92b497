use Rattle.std.proofs.Common.{IfOk, to_z-of_z, subst}
use Rattle.rr_iter.specs.Ends.{IsNthDayOf}
use Rattle.rr_iter.proofs.nth.day_of_nth.Goals as goal

pub returns : goal.returns
returns c =
    let tree = rw (to_z-of_z c.ranges.start) at c.in_ok-chosen.ensures.tree in
    let place = rw (to_z-of_z c.ranges.to) at c.nth_of.ensures in
    subst (λ t. IfOk c.nth_of.result (IsNthDayOf t c.args.number c.args.to)) tree place
