use Rattle.std.proofs.Common.{◌++◌, [], codes, refl}
use Rattle.rr_trip.specs.Printed.{asked_text}
use Rattle.rr_trip.proofs.GridLemmas.{put_next}
use Rattle.rr_trip.proofs.shown.unknown_name.Goals as goal

pub returns : goal.returns
returns c =
    let asked = put_next [] c.push.new.out.items c.push_asked.new.out.items (codes "unknown ") (asked_text c.args.name.now)
    (rw c.new-text.ensures.items at c.in_ok-push.ensures) c.in_ok-push_asked.ensures in
    record {
      status = refl;
      text = put_next [] c.push_asked.new.out.items c.push-2.new.out.items (codes "unknown " ++ asked_text c.args.name.now) (codes "\n") asked c.in_ok-push-2.ensures;
      tells = refl;
    }
