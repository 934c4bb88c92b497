use Rattle.std.proofs.Common.{◌⊎◌, ◌↔◌, Contains, drop, ℤ}
use Rattle.rr_true.specs.Changes.{offset_of}
use Rattle.rr_utc.specs.Days.{NamedOn}
use Rattle.rr_utc.proofs.day.put_moments.Given as goal

-- what is found, and what is still to be put, is what was found and what was to be put
abbrev pub invariant-loop-second : goal.invariant-loop-second
invariant-loop-second l =
    (u : ℤ) → (Contains l.found u ⊎ NamedOn (offset_of l.zone) l.day l.local (drop l.second-index l.fn.times) u)
    ↔ (Contains l.fn.found u ⊎ NamedOn (offset_of l.zone) l.day l.local l.fn.times u)
