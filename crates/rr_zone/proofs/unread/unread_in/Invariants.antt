use Rattle.std.proofs.Common.{◌≡◌, ◌++◌, map}
use Rattle.rr_zone.specs.Parts.{events_in, part_in}
use Rattle.rr_zone.specs.Unread.{unread_in}
use Rattle.rr_zone.proofs.UnreadLemmas.{unread_from}
use Rattle.rr_zone.proofs.unread.unread_in.Given as goal

abbrev pub invariant-loop-part : goal.invariant-loop-part
invariant-loop-part l = record {
  so_far : l.found.items ++ unread_from l.fn.clocks (events_in (map part_in l.parts)) l.parts l.part-index
      ≡ unread_in l.fn.clocks (events_in (map part_in l.parts)) (map part_in l.parts);
  clocks : l.clocks ≡ l.fn.clocks;
}
