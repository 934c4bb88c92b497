use Rattle.std.proofs.Common.{FitsSigned, to_z-of_z, w64}
use Rattle.rr_wording.proofs.dates.push_moment.Goals as goal

pub push_date-requires : goal.push_date-requires
push_date-requires c =
    let fits : FitsSigned w64 c.day_part.result = record { sfits = c.day_part.type_inv } in
    rw (to_z-of_z fits, c.day_part.ensures, to_z-of_z c.ranges.at) c.requires
