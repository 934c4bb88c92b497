use Rattle.std.proofs.Common.{ℤ, w64, to_z, of_z, to_z-of_z, subst}
use Rattle.std.specs.Prelude.{IfNone, Some}
use Rattle.rr_length.specs.Lengths.{occurs_in}
use Rattle.rr_length.specs.Walk.{AreEqualFrom, IsNoOther}
use Rattle.rr_length.proofs.AnswerLemmas.{none_then}
use Rattle.rr_length.proofs.WalkLemmas.{up_none}
use Rattle.rr_length.proofs.walk.other_up_to.Goals as goal

pub returns-in-None-clause-none : goal.returns-in-None-clause-none
returns-in-None-clause-none g c =
    let s = g.S.DaySeq.sketch c.args.sequence.now in
    let at = to_z-of_z c.ranges.at in
    let date = to_z-of_z c.ranges.date in
    let before : AreEqualFrom (occurs_in s) (λ t. c.args.usual.a) (λ t. c.args.usual.b) c.args.at (Some c.args.date) =
    subst (λ (t : ℤ). AreEqualFrom (occurs_in s) (λ u. c.args.usual.a) (λ u. c.args.usual.b) t (Some c.args.date)) at
    (subst (λ (t : ℤ). AreEqualFrom (occurs_in s) (λ u. c.args.usual.a) (λ u. c.args.usual.b) (to_z w64 (of_z w64 c.args.at)) (Some t)) date c.in-None.ensures.none) in
    let here = subst (λ (t : ℤ). IfNone c.other_at.result (IsNoOther s t c.args.here)) date c.other_at.ensures.none in
    none_then c.other_at.result (up_none s c.args.at c.args.date c.args.usual c.args.here before) here
