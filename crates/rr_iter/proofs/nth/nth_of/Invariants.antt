use Rattle.std.proofs.Common.{◌≡◌, ◌+◌, ◌≤◌, pos, nat_abs, ◌+ℤ◌, ◌-ℤ◌, ◌≤ℤ◌}
use Rattle.rr_iter.specs.Ends.{before_day}
use Rattle.rr_iter.proofs.nth.nth_of.Given as goal

abbrev pub invariant-days : goal.invariant-days
invariant-days g l = (g.A.Lazy.tree l.lazy ≡ g.A.Lazy.tree l.fn.lazy) × (g.A.Lazy.position l.lazy ≤ℤ (l.to +ℤ pos 1)) × (1 ≤ l.left)
    × g.A.Lazy.knows l.lazy l.sets × (before_day (g.A.Lazy.tree l.fn.lazy) (g.A.Lazy.position l.lazy) + l.left ≡ l.number)

abbrev pub decreases-days : goal.decreases-days
decreases-days g l = nat_abs ((l.to +ℤ pos 1) -ℤ g.A.Lazy.position l.lazy)
