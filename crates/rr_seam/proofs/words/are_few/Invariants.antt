use Rattle.std.proofs.Common.{◌≡◌, drop, nat_le}
use Rattle.rr_seam.specs.Words.{words_in}
use Rattle.rr_seam.specs.declared.words.TheConstants.{MAX_WORDS}
use Rattle.rr_seam.proofs.words.are_few.Given as goal

abbrev pub invariant-loop-event : goal.invariant-loop-event
invariant-loop-event l = nat_le (words_in (drop l.event-index l.events)) l.left ≡ nat_le (words_in l.events) MAX_WORDS
