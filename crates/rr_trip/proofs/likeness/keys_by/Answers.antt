use Rattle.std.proofs.Common.{arith}
use Rattle.rr_trip.proofs.LikenessLemmas.{all_keys}
use Rattle.rr_trip.proofs.likeness.keys_by.Goals as goal

pub returns : goal.returns
returns c =
    all_keys c.args.likeness c.args.side c.args.features.now c.args.found.now c.loop-index.keys.items _ c.loop-index.index
    (omega (arith, c.loop-index-test.false, c.min-index-end.ensures)) c.loop-index.invariant
