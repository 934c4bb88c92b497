use Rattle.std.proofs.Common.{FitsSigned, to_z-of_z, w64}
use Rattle.rr_model.proofs.StartLemmas.{IsDayWithin-start}
use Rattle.rr_wording.proofs.dates.day_of.Goals as goal

pub returns-clause-near : goal.returns-clause-near
returns-clause-near c =
    let fits : FitsSigned w64 c.day_part.result = record { sfits = c.day_part.type_inv } in
    rw (to_z-of_z fits, c.day_part.ensures, to_z-of_z c.ranges.at) (IsDayWithin-start 0 c.args.kind c.args.at c.requires)
