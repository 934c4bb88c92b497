use Rattle.std.proofs.Common.{◌≡◌, ℤ, pos, nat_abs, ◌+ℤ◌, ◌-ℤ◌}
use Rattle.rr_shapes.specs.Tables.{Extends}
use Rattle.rr_lazy.specs.Except.{IsAheadUpTo}
use Rattle.rr_lazy.specs.Parts.{part_of}
use Rattle.rr_lazy.proofs.WithoutLemmas.{next_day}
use Rattle.rr_lazy.proofs.except.pass_to.Given as goal

abbrev pub invariant-days : goal.invariant-days
invariant-days g l = (g.B.Lazy.tree l.lazy ≡ g.B.Lazy.tree l.fn.lazy) × g.B.Lazy.knows l.lazy l.sets × Extends l.fn.sets l.sets
    × IsAheadUpTo l.sets (part_of (g.B.Lazy.tree l.fn.lazy) (g.B.Lazy.position l.lazy) l.ahead) l.day

abbrev pub decreases-days : goal.decreases-days
decreases-days g l = nat_abs ((l.day +ℤ pos 1) -ℤ next_day l.ahead (g.B.Lazy.position l.lazy))
