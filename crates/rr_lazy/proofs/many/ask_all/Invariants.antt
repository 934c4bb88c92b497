use Rattle.std.proofs.Common.{◌≡◌, ◌<◌, ◌-◌, ℕ, length, get_or, All, ◌<ℤ◌}
use Rattle.std.specs.Option.{ForNone}
use Rattle.rr_shapes.specs.Tables.{Extends}
use Rattle.rr_lazy.specs.Ahead.{IsAheadIn}
use Rattle.rr_lazy.specs.Many.{forest_of}
use Rattle.rr_lazy.proofs.many.ask_all.Given as goal

abbrev pub invariant-loop-index : goal.invariant-loop-index
invariant-loop-index g l = (forest_of (λ p. g.A.Lazy.tree p.lazy) l.parts.items ≡ forest_of (λ p. g.A.Lazy.tree p.lazy) l.fn.parts.items)
    × Extends l.fn.sets l.sets
    × All (λ p. g.A.Lazy.knows p.lazy l.sets × IsAheadIn l.sets (g.A.Lazy.tree p.lazy) (g.A.Lazy.position p.lazy) l.from p.ahead) l.parts.items
    × ((k : ℕ) (d : _) → k < l.index → k < length l.parts.items
    → ForNone (get_or l.parts.items k d).ahead (l.to <ℤ g.A.Lazy.position (get_or l.parts.items k d).lazy))

abbrev pub decreases-loop-index : goal.decreases-loop-index
decreases-loop-index g l = length l.parts.items - l.index
