use Rattle.std.proofs.Common.{FitsSigned, w64, rules, to_z-of_z, get_or, length, ◌-◌, pos, arith}
use Rattle.std.proofs.lemmas.Int.{ints}
use Rattle.rr_true.proofs.SpanLemmas.{end_all}
use Rattle.rr_true.proofs.span.end_by.Goals as goal

pub returns-in-len1-up : goal.returns-in-len1-up
returns-in-len1-up c test =
    let last : FitsSigned w64 (get_or c.args.changes.now (length c.args.changes.now - 1) (record { at = pos 0; offset = pos 0 })).at = search rules in
    end_all c.args.changes.now c.args.settled (record { at = pos 0; offset = pos 0 }) c.requires
    (let t = rw (to_z-of_z last, to_z-of_z c.ranges.settled) at test in omega (arith, ints, t))
