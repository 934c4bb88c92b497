use Rattle.rr_booking.specs.Parsed.{three_in}
use Rattle.rr_booking.proofs.OtherLemmas.{next_left}
use Rattle.rr_booking.proofs.words.others_of.Goals as goal

pub loop-three-preserved : goal.loop-three-preserved
loop-three-preserved c =
    next_left _ c.loop-three.others.items c.push.new.self.items c.in-Some-other_of.other c.loop-three.left.now (three_in c.in-Some.three)
    c.loop-three.rest.now c.in-Some.ensures.three c.in-Some-other_of.ensures.value c.in_ok-push.ensures.items c.loop-three.invariant
