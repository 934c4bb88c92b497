use Rattle.std.proofs.Common.{◌≡◌, to_z, of_z, w64, arith}
use Rattle.std.proofs.lemmas.Int.{ints}
use Rattle.rr_plan.proofs.FewLemmas.{holds_all_read, if_found}
use Rattle.rr_plan.proofs.MoreLemmas.{endless_more}
use Rattle.rr_plan.proofs.few.few_moments.Goals as goal

pub returns-then-not-are_empty-clause-more : goal.returns-then-not-are_empty-clause-more
returns-then-not-are_empty-clause-more g c =
    let s = g.A.DaySeq.sketch c.args.seq.now in
    let settled = to_z w64 (of_z w64 c.settled-settled.result) in
    let value = c.settled-settled.ensures.value in
    let near = c.settled-settled.ensures.near in
    endless_more s settled c.args.most (g.met.A.DaySeq.bounded c.args.seq.now).valid (omega (arith, ints, value, near.0, near.1))
    (c.are_empty.ensures.occupied c.if-not-are_empty.true)

pub returns-clause-equal : goal.returns-clause-equal
returns-clause-equal g c =
    let s = g.A.DaySeq.sketch c.args.seq.now in
    let settled = to_z w64 (of_z w64 c.settled-settled.result) in
    let value = c.settled-settled.ensures.value in
    let near = c.settled-settled.ensures.near in
    let at : settled ≡ s.settled = omega (arith, ints, value, near.0, near.1) in
    let none = c.are_empty.ensures.empty c.if-not-are_empty.false in
    if_found _ _ c.moments_within.result
    (λ moments holds. holds_all_read s settled (to_z w64 (of_z w64 c.in-Some.first)) c.period.result c.days_up_to.result moments
    (g.met.A.DaySeq.bounded c.args.seq.now).valid at c.period.ensures.value none c.days_up_to.ensures.far holds)
    c.moments_within.ensures.holds
