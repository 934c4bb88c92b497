use Rattle.std.proofs.Common.{◌≡◌, ◌⊎◌, ℕ, true, pos, nat_abs, ◌+ℤ◌, ◌-ℤ◌}
use Rattle.rr_model.specs.Sets.Tree.{stands_at}
use Rattle.rr_lazy.specs.Next.{HasNone}
use Rattle.rr_iter.proofs.last_day.last_occupied.Given as goal

abbrev pub invariant-days : goal.invariant-days
invariant-days g l = (g.A.Lazy.tree l.lazy ≡ g.A.Lazy.tree l.fn.lazy)
    × HasNone (g.A.Lazy.tree l.fn.lazy) (l.last +ℤ pos 1) (g.A.Lazy.position l.lazy)
    × g.A.Lazy.knows l.lazy l.sets × ((l.last ≡ l.given) ⊎ ((s : ℕ) × (stands_at (g.A.Lazy.tree l.fn.lazy) l.last s ≡ true)))

abbrev pub decreases-days : goal.decreases-days
decreases-days g l = nat_abs ((l.to +ℤ pos 1) -ℤ g.A.Lazy.position l.lazy)
