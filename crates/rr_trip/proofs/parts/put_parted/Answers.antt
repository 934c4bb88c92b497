use Rattle.std.proofs.Common.{refl}
use Rattle.rr_trip.proofs.PartLemmas.{put_apart}
use Rattle.rr_trip.proofs.parts.put_parted.Goals as goal

pub returns : goal.returns
returns c =
    put_apart c.args.group (record { key = c.in_ok-key.key; a = c.args.group.a; b = c.new.result })
    (record { key = c.args.group.key; a = c.new-2.result; b = c.args.group.b }) c.args.parts.now.items c.push.new.self.items c.push-2.new.self.items
    (record { key = c.in_ok-key.ensures; a = refl; b = c.new.ensures.items }) (record { key = refl; a = c.new-2.ensures.items; b = refl })
    c.in_ok-push.ensures.items c.in_ok-push-2.ensures.items
