use Rattle.std.proofs.Common.{◌≡◌, ℤ, pos, nat_abs, ◌+ℤ◌, ◌-ℤ◌}
use Rattle.rr_shapes.specs.Tables.{Extends}
use Rattle.rr_lazy.specs.Stretch.{KnowsPart}
use Rattle.rr_lazy.proofs.WithoutLemmas.{next_day}
use Rattle.rr_lazy.proofs.without.next_left.Given as goal

abbrev pub invariant-days : goal.invariant-days
invariant-days g l = (g.A.Lazy.tree l.part.lazy ≡ g.A.Lazy.tree l.fn.part.lazy) × g.A.Lazy.knows l.part.lazy l.sets × Extends l.fn.sets l.sets
    × ((position : ℤ) → KnowsPart l.fn.sets (g.A.Lazy.tree l.fn.part.lazy) (g.A.Lazy.position l.fn.part.lazy) l.kind l.dates position l.fn.part.ahead
    → KnowsPart l.sets (g.A.Lazy.tree l.fn.part.lazy) (g.A.Lazy.position l.part.lazy) l.kind l.dates position l.part.ahead)

abbrev pub decreases-days : goal.decreases-days
decreases-days g l = nat_abs ((l.to +ℤ pos 1) -ℤ next_day l.part.ahead (g.A.Lazy.position l.part.lazy))
