use Rattle.std.specs.Prelude.{ℕ, ◌<◌, ℤ, get_or}
use Rattle.rr_model.specs.Moment.Years.{IsInYears}
use Rattle.rr_split.proofs.years.are_in_years.Given as goal

-- those so far lie in the years
abbrev pub invariant-loop-time : goal.invariant-loop-time
invariant-loop-time l = (k : ℕ) (d : ℤ) → k < l.time-index → IsInYears l.kind (get_or l.times k d)
