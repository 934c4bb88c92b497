use Rattle.std.proofs.Common.{w64, to_z, of_z, arith}
use Rattle.std.proofs.lemmas.Int.{ints, clamps}
use Rattle.rr_differ.proofs.FurtherLemmas.{end_if_none, ever_if_found}
use Rattle.rr_differ.proofs.further.never_end.Goals as goal

pub returns-clause-yes : goal.returns-clause-yes
returns-clause-yes g c =
    ever_if_found (g.A.DaySeq.sketch c.args.a.now) (g.B.DaySeq.sketch c.args.b.now) (g.met.A.DaySeq.bounded c.args.a.now).valid
    (g.met.B.DaySeq.bounded c.args.b.now).valid c.difference_from.result c.is_some.result (to_z w64 (of_z w64 c.max.result)) c.is_some.ensures
    (omega (arith, ints, clamps)) (omega (arith, ints, clamps)) c.difference_from.ensures.some c.difference_from.ensures.late

pub returns-clause-no : goal.returns-clause-no
returns-clause-no g c =
    end_if_none (g.A.DaySeq.sketch c.args.a.now) (g.B.DaySeq.sketch c.args.b.now) c.difference_from.result c.is_some.result
    (to_z w64 (of_z w64 c.max.result)) c.is_some.ensures c.difference_from.ensures.none
