use Rattle.std.proofs.Common.{◌≡◌, length}
use Rattle.rr_answer.specs.Parsed.{words_of}
use Rattle.rr_booking.specs.Booking.{others_of}
use Rattle.rr_booking.specs.Parsed.{others_in}
use Rattle.rr_booking.proofs.OtherLemmas.{with_front}
use Rattle.rr_booking.proofs.words.others_of.Given as goal

-- those that were read stand before those that the words still say
abbrev pub invariant-loop-three : goal.invariant-loop-three
invariant-loop-three l = others_of (words_of l.words) l.bytes ≡ with_front (others_in l.others) (others_of (words_of l.left) l.rest)

abbrev pub decreases-loop-three : goal.decreases-loop-three
decreases-loop-three l = length l.left
