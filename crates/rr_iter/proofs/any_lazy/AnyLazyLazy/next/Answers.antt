use Rattle.std.proofs.Common.{to_z-of_z}
use Rattle.rr_iter.proofs.any_lazy.AnyLazyLazy.next.Goals as goal

pub returns-in-Alone-clause-next : goal.returns-in-Alone-clause-next
returns-in-Alone-clause-next c = rw c.in-Alone.is (rw (to_z-of_z c.ranges.to) at c.next.ensures.next)

pub returns-in-Whole-clause-next : goal.returns-in-Whole-clause-next
returns-in-Whole-clause-next c = rw c.in-Whole.is (rw (to_z-of_z c.ranges.to) at c.next-in-Whole.ensures.next)
