use Rattle.std.proofs.Common.{w64, FitsSigned, to_z-of_z}
use Rattle.rr_start.proofs.SearchLemmas.{last_of_never}
use Rattle.rr_start.proofs.off.last_of_end.Goals as goal

pub returns-in-Never : goal.returns-in-Never
returns-in-Never c =
    let fits : FitsSigned w64 c.moment_at.result = record { sfits = c.moment_at.type_inv } in
    rw (c.in-Never.is, to_z-of_z fits) (last_of_never c.args.kind c.moment_at.result c.moment_at.ensures.value)
