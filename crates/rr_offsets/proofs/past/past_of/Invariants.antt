use Rattle.std.proofs.Common.{take}
use Rattle.rr_offsets.specs.Past.{AreOver, IsPastMoment}
use Rattle.rr_offsets.proofs.past.past_of.Given as goal

abbrev pub invariant-loop-observance : goal.invariant-loop-observance
invariant-loop-observance l = record {
  moment : IsPastMoment l.last;
  over : AreOver l.last (take l.observance-index l.zone);
}
