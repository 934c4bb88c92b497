use Rattle.std.proofs.Common.{◌∷◌, [], ◌++◌, ◌∙◌, FitsSigned, w64, to_z-of_z, get_or, pos, ap, rules, subst}
use Rattle.rr_true.specs.Changes.{offset_of}
use Rattle.rr_true.specs.Moments.{IsTrueMoment}
use Rattle.rr_trip.proofs.FeatureLemmas.{more_moments}
use Rattle.rr_trip.proofs.features.moments_of.Goals as goal

pub loop-time-preserved : goal.loop-time-preserved
loop-time-preserved c =
    let f = offset_of c.args.zone.now in
    let times = c.args.times.now in
    let i = c.loop-time.time-index in
    let fits : FitsSigned w64 (get_or times i (pos 0)) = search rules in
    let named : FitsSigned w64 c.true_moment.result = record { sfits = c.true_moment.type_inv } in
    more_moments f times c.loop-time.moments.items c.push.new.self.items i c.true_moment.result c.loop-time-test.true c.loop-time.invariant
    (subst (λ z. IsTrueMoment f z c.true_moment.result) (to_z-of_z fits) c.true_moment.ensures)
    (c.in_ok-push.ensures.items ∙ ap (λ z. c.loop-time.moments.items ++ z ∷ []) (to_z-of_z named))
