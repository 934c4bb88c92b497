use Rattle.std.proofs.Common.{drop}
use Rattle.rr_days.specs.Sequence.{sketch}
use Rattle.rr_booking.specs.Parsed.{all_in}
use Rattle.rr_booking.proofs.LineLemmas.{IsToldTo}
use Rattle.rr_booking.proofs.answers.said_of_all.Given as goal

-- the others before this one are told
abbrev pub invariant-loop-other : goal.invariant-loop-other
invariant-loop-other l =
    IsToldTo l.duration (sketch l.days) (all_in l.others) (all_in (drop l.other-index l.others)) l.text.items l.tally.clashes l.tally.refused
