use Rattle.std.proofs.Common.{◌≡◌, pos, nat_abs, ◌+ℤ◌, ◌-ℤ◌, ◌≤ℤ◌}
use Rattle.rr_zone.proofs.TableLemmas.{IsListTo}
use Rattle.rr_zone.proofs.onsets.listed.Given as goal

-- what stands before the position is listed
abbrev pub invariant-days : goal.invariant-days
invariant-days g l = record {
  tree : g.A.Lazy.tree l.lazy ≡ g.A.Lazy.tree l.fn.lazy;
  knows : g.A.Lazy.knows l.lazy l.sets;
  list : IsListTo (g.A.Lazy.tree l.fn.lazy) l.from (g.A.Lazy.position l.lazy) l.onsets;
  within : g.A.Lazy.position l.lazy ≤ℤ (l.last +ℤ pos 1);
}

abbrev pub decreases-days : goal.decreases-days
decreases-days g l = nat_abs ((l.last +ℤ pos 1) -ℤ g.A.Lazy.position l.lazy)
