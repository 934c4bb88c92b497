use Rattle.rr_days.specs.Sequence.{sketch}
use Rattle.rr_split.proofs.TakeLemmas.{is_beyond}
use Rattle.rr_split.proofs.left.beyond.Goals as goal

pub returns-in-None : goal.returns-in-None
returns-in-None c =
    is_beyond (sketch c.args.days.now) (sketch c.args.rest.now) (sketch c.in-Some.over) c.in-Some-2.moments
    (rw c.in-Some.is at c.in_ok-over.ensures) (rw c.in-Some-2.is at c.in_ok-moments.ensures.equal) c.args.most
    (rw c.in-Some-2.is at c.in_ok-moments.ensures.within) (rw c.in-Some-2.is at c.in_ok-moments.ensures.rises)
    (rw c.in-Some-2.is at c.in_ok-moments.ensures.few)
    (rw c.len.ensures at (rw c.in-None.is at c.in_ok-few_moments.ensures.more))
