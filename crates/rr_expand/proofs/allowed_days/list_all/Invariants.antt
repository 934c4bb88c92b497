use Rattle.std.proofs.Common.{◌≡◌, ℤ, pos, true, ◌+ℤ◌}
use Rattle.rr_expand.specs.Years.{Filling, allows_day}
use Rattle.rr_expand.specs.KeptMasks.{ListAllowed}
use Rattle.rr_expand.proofs.allowed_days.list_all.Given as goal

abbrev pub invariant-loop-k : goal.invariant-loop-k
invariant-loop-k l = (f : Filling) → ((d : ℤ) → allows_day f d ≡ true) → ListAllowed f l.fn.first (l.fn.first +ℤ pos l.k) l.days.items
