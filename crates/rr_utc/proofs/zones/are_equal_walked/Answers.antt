use Rattle.std.proofs.Common.{FitsSigned, w64, to_z, of_z, rules}
use Rattle.std.proofs.lemmas.Int.{to_z-of_z}
use Rattle.rr_true.specs.Changes.{offset_of}
use Rattle.rr_utc.proofs.WalkLemmas.{walk_equal}
use Rattle.rr_utc.proofs.zones.are_equal_walked.Goals as goal

pub returns : goal.returns
returns g c test =
    let from = c.first_of_both-from.result in
    let end = c.in-Some.end in
    let fits : FitsSigned w64 from = record { sfits = c.first_of_both-from.type_inv } in
    let fits_end : FitsSigned w64 end = search rules in
    walk_equal (g.A.DaySeq.sketch c.args.a.now) (g.B.DaySeq.sketch c.args.b.now) (offset_of c.args.zone_a.now) (offset_of c.args.zone_b.now) from end
    (to_z w64 (of_z w64 from)) (to_z w64 (of_z w64 end)) (to_z-of_z w64 from fits) (to_z-of_z w64 end fits_end) c.first_of_both-from.ensures.before
    c.in-Some.ensures.end c.in_ok-found.found c.is_none.result c.is_none.ensures test c.in_ok-found.ensures
