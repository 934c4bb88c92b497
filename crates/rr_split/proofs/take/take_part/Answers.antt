use Rattle.rr_days.specs.Sequence.{sketch}
use Rattle.rr_split.proofs.TakeLemmas.{taken}
use Rattle.rr_split.proofs.take.take_part.Goals as goal

pub returns-clause-taken : goal.returns-clause-taken
returns-clause-taken c =
    taken (sketch c.args.rest.now) (sketch c.args.days.now) (sketch c.in-Some-2.left)
    (record { event = c.args.event; cancelled = c.in-Some.cancelled }) c.args.most c.requires.valid c.requires.begins c.requires.days
    (rw c.in-Some.is at c.in_ok-cancelled.ensures) (rw c.in-Some-2.is at c.in_ok-left.ensures)
