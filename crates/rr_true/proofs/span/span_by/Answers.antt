use Rattle.std.proofs.Common.{rules, FitsSigned, w32, w64, to_z-of_z, arith}
use Rattle.rr_true.proofs.SpanLemmas.{span_is}
use Rattle.rr_true.proofs.span.span_by.Goals as goal

pub returns-clause-span : goal.returns-clause-span
returns-clause-span c =
    let end : FitsSigned w64 c.end_after.result = search rules in
    let offset : FitsSigned w32 c.offset_after.result = search rules in
    let count = rw (to_z-of_z c.ranges.at) at c.count_up_to-count.ensures in
    let later = rw (to_z-of_z c.ranges.last) at c.end_after.ensures.later in
    let none = rw (to_z-of_z c.ranges.initial) at c.offset_after.ensures.none in
    rw (to_z-of_z end, to_z-of_z offset)
    (span_is c.args.initial c.args.changes.now c.args.at c.end_after.result c.offset_after.result c.count_up_to-count.result count
    (later c.args.at c.requires.last (λ d h. count.from c.count_up_to-count.result d (omega arith) h)) c.end_after.ensures.change none
    c.offset_after.ensures.some)
