use Rattle.std.proofs.Common.{arith}
use Rattle.rr_runs.proofs.PagesLemmas.{no_room, none_after}
use Rattle.rr_runs.proofs.room.make_room.Goals as goal

pub close-requires-clause-whole : goal.close-requires-clause-whole
close-requires-clause-whole c =
    no_room c.args.pages.now.items c.args.rest.now.items c.room_left.result c.requires.room c.room_left.ensures.all (omega arith)

pub returns-clause-room : goal.returns-clause-room
returns-clause-room c = none_after c.close.new.pages.items c.close.new.rest.items c.in_ok-close.ensures.none
