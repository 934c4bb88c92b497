use Rattle.std.proofs.Common.{map}
use Rattle.rr_icalfile.specs.Parts.{lines_of}
use Rattle.rr_icalfile.proofs.StatedLemmas.{none_at, part_put}
use Rattle.rr_icalfile.proofs.taken.put_part.Goals as goal

pub returns-in_default : goal.returns-in_default
returns-in_default c = none_at (map lines_of c.args.parts.now.items) c.args.pieces.now c.args.index c.in_default.ensures.lookup.3

pub returns-in_ok-push : goal.returns-in_ok-push
returns-in_ok-push c =
    part_put c.args.parts.now.items c.push.new.self.items _ c.args.pieces.now c.args.index c.in_ok-push.ensures.items c.in-Some.ensures.lookup.3.0
    (c.in-Some.ensures.lookup.3.1 c.in-Some.piece.now)
