use Rattle.std.proofs.Common.{to_z-of_z}
use Rattle.rr_iter.proofs.ended_lazy.EndedLazyLazy.next.Goals as goal

pub returns-in-Until-clause-next : goal.returns-in-Until-clause-next
returns-in-Until-clause-next c = rw c.in-Until.is (rw (to_z-of_z c.ranges.to) at c.next-in-Until.ensures.next)

pub returns-in-Count-clause-next : goal.returns-in-Count-clause-next
returns-in-Count-clause-next c = rw c.in-Count.is (rw (to_z-of_z c.ranges.to) at c.next-in-Count.ensures.next)

pub returns-in-Both-clause-next : goal.returns-in-Both-clause-next
returns-in-Both-clause-next c = rw c.in-Both.is (rw (to_z-of_z c.ranges.to) at c.next-in-Both.ensures.next)
