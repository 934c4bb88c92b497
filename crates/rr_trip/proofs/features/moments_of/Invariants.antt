use Rattle.std.proofs.Common.{take}
use Rattle.rr_true.specs.Changes.{offset_of}
use Rattle.rr_trip.specs.Features.{AreTrueMoments}
use Rattle.rr_trip.proofs.features.moments_of.Given as goal

-- the moments of the local times before this place
abbrev pub invariant-loop-time : goal.invariant-loop-time
invariant-loop-time l = AreTrueMoments (offset_of l.zone) (take l.time-index l.times) l.moments.items
