use Rattle.std.proofs.Math.Nat.{dvd-mul_right}
use Rattle.rr_utc.proofs.end.days_of_zones.Goals as goal

pub returns-then-b-eq1-clause-divides : goal.returns-then-b-eq1-clause-divides
returns-then-b-eq1-clause-divides c = dvd-mul_right 1 146_097
