use Rattle.std.proofs.Common.{refl}
use Rattle.rr_vcalfile.proofs.PartLemmas.{event-put}
use Rattle.rr_vcalfile.proofs.find.put_part.Goals as goal

pub returns : goal.returns
returns c =
    event-put c.args.parts.now.items c.push.new.self.items _ c.args.segment c.in_ok-push.ensures.items refl c.if-not-segment.false
