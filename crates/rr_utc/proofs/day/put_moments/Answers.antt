use Rattle.std.proofs.Common.{FitsSigned, drop, w64, to_z, of_z, refl, subst, ◌∙◌, arith}
use Rattle.std.proofs.lemmas.Int.{to_z-of_z}
use Rattle.std.proofs.lemmas.List.{drop_all}
use Rattle.rr_true.specs.Moments.{IsTrueMoment}
use Rattle.rr_true.specs.Changes.{offset_of}
use Rattle.rr_utc.specs.Days.{AreWithMoment}
use Rattle.rr_utc.proofs.DayLemmas.{all_named, named_moved, next_at}
use Rattle.rr_utc.proofs.day.put_moments.Goals as goal

pub loop-second-preserved : goal.loop-second-preserved
loop-second-preserved c u =
    let old = c.loop-second.invariant u in
    let fits : FitsSigned w64 c.moment_at.result = record { sfits = c.moment_at.type_inv } in
    let named : FitsSigned w64 c.true_moment-at.result = record { sfits = c.true_moment-at.type_inv } in
    let moment = subst (λ z. IsTrueMoment (offset_of c.args.zone.now) z c.true_moment-at.result) (to_z-of_z w64 c.moment_at.result fits ∙ c.moment_at.ensures.value)
    c.true_moment-at.ensures in
    let put = subst (λ z. AreWithMoment (to_z w64 (of_z w64 c.args.day)) z c.loop-second.found c.put_moment.new.found) (to_z-of_z w64 c.true_moment-at.result named)
    c.in_ok-put_moment.ensures in
    let step = next_at (offset_of c.args.zone.now) (to_z w64 (of_z w64 c.args.day)) (to_z w64 (of_z w64 c.args.local)) c.true_moment-at.result c.args.times.now
    c.loop-second.second-index 0 c.loop-second.found c.put_moment.new.found (omega arith) moment put u in
    (λ h. old.0 (step.0 h), λ h. step.1 (old.1 h))

pub returns : goal.returns
returns c =
    let f = offset_of c.args.zone.now in
    let day = to_z-of_z w64 c.args.day c.ranges.day in
    let local = to_z-of_z w64 c.args.local c.ranges.local in
    let none = drop_all c.loop-second.second-index c.args.times.now c.loop-second-test.false in
    named_moved f (to_z w64 (of_z w64 c.args.day)) c.args.day (to_z w64 (of_z w64 c.args.local)) c.args.local c.args.times.now c.args.times.now c.args.found.now
    c.args.found.now c.loop-second.found day local refl refl
    (all_named f (to_z w64 (of_z w64 c.args.day)) (to_z w64 (of_z w64 c.args.local)) c.args.times.now (drop c.loop-second.second-index c.args.times.now) c.args.found.now
    c.loop-second.found none c.loop-second.invariant)
