use Rattle.std.proofs.Common.{◌≡◌, ℤ, pos, nat_abs, ◌+ℤ◌, ◌-ℤ◌}
use Rattle.rr_shapes.specs.Tables.{Extends}
use Rattle.rr_lazy.specs.Except.{KnowsBoth}
use Rattle.rr_lazy.specs.Parts.{part_of}
use Rattle.rr_lazy.proofs.WithoutLemmas.{next_day}
use Rattle.rr_lazy.proofs.except.next_of_both.Given as goal

abbrev pub invariant-days : goal.invariant-days
invariant-days g l = (g.A.Lazy.tree l.a.lazy ≡ g.A.Lazy.tree l.fn.a.lazy) × (g.B.Lazy.tree l.b.lazy ≡ g.B.Lazy.tree l.fn.b.lazy) × g.A.Lazy.knows l.a.lazy l.sets
    × g.B.Lazy.knows l.b.lazy l.sets × Extends l.fn.sets l.sets
    × ((position : ℤ)
    → KnowsBoth l.fn.sets (part_of (g.A.Lazy.tree l.fn.a.lazy) (g.A.Lazy.position l.fn.a.lazy) l.fn.a.ahead)
    (part_of (g.B.Lazy.tree l.fn.b.lazy) (g.B.Lazy.position l.fn.b.lazy) l.fn.b.ahead) position
    → KnowsBoth l.sets (part_of (g.A.Lazy.tree l.fn.a.lazy) (g.A.Lazy.position l.a.lazy) l.a.ahead)
    (part_of (g.B.Lazy.tree l.fn.b.lazy) (g.B.Lazy.position l.b.lazy) l.b.ahead) position)

abbrev pub decreases-days : goal.decreases-days
decreases-days g l = nat_abs ((l.to +ℤ pos 1) -ℤ next_day l.a.ahead (g.A.Lazy.position l.a.lazy))
