use Rattle.std.proofs.Common.{◌≡◌, ◌+ℤ◌, FitsSigned, w64, to_z-of_z, rules, subst, sym}
use Rattle.rr_true.specs.Near.{IsNear}
use Rattle.rr_graphfile.proofs.TurningLemmas.{local_near, years_near}
use Rattle.rr_graphfile.proofs.turning.local_in.Goals as goal

pub local_by-requires-clause-near : goal.local_by-requires-clause-near
local_by-requires-clause-near c = rw (to_z-of_z c.ranges.at) (years_near c.args.at c.requires)

pub returns-clause-near : goal.returns-clause-near
returns-clause-near c =
    let is : c.local_by.result ≡ c.args.at +ℤ c.ahead_at.result = search rules in
    let fits : FitsSigned w64 c.local_by.result = search rules in
    rw (to_z-of_z fits) (subst IsNear (sym is) (local_near c.args.at c.ahead_at.result c.requires c.ahead_at.ensures.below))
