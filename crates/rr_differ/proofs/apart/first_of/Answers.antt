use Rattle.std.proofs.Common.{rules, ◌≡◌, ◌∙◌, FitsSigned, w64, to_z, of_z, to_z-of_z, refl, ap, arith}
use Rattle.std.proofs.lemmas.Int.{ints}
use Rattle.rr_model.specs.Moment.{day_part, moment_at}
use Rattle.rr_model.proofs.MomentLemmas.{parts_of_moment}
use Rattle.rr_differ.proofs.ApartLemmas.{first_of_day, first_step}
use Rattle.rr_differ.proofs.apart.first_of.Given.{Over}
use Rattle.rr_differ.proofs.apart.first_of.Goals.{After-moment_at}
use Rattle.rr_differ.proofs.apart.first_of.Goals as goal

-- the number is that of the first second of the first occupied day
begins : (g : Over) (c : After-moment_at g) → to_z w64 (of_z w64 c.moment_at.result) ≡ moment_at (g.S.DaySeq.sketch c.args.seq.now).kind c.in-Some.day 0
begins g c =
    let s = g.S.DaySeq.sketch c.args.seq.now in
    let fits : FitsSigned w64 c.moment_at.result = record { sfits = c.moment_at.type_inv } in
    let of_day : FitsSigned w64 c.in-Some.day = search rules in
    to_z-of_z fits ∙ c.moment_at.ensures.value ∙ ap (λ k. moment_at k (to_z w64 (of_z w64 c.in-Some.day)) 0) c.kind.ensures
    ∙ ap (λ d. moment_at s.kind d 0) (to_z-of_z of_day)

pub returns-in-Some-clause-pending : goal.returns-in-Some-clause-pending
returns-in-Some-clause-pending g c =
    first_of_day (g.S.DaySeq.sketch c.args.seq.now) c.args.side c.in-Some.day (to_z w64 (of_z w64 c.moment_at.result)) c.one_from.result
    c.in-Some.ensures.first (begins g (goal.at.returns-in-Some-clause-pending g c).After-moment_at) c.one_from.ensures.none c.one_from.ensures.some

pub returns-in-Some-clause-near : goal.returns-in-Some-clause-near
returns-in-Some-clause-near g c =
    let s = g.S.DaySeq.sketch c.args.seq.now in
    let b = g.met.S.DaySeq.bounded c.args.seq.now in
    let day : day_part s.kind (to_z w64 (of_z w64 c.moment_at.result)) ≡ c.in-Some.day =
    ap (day_part s.kind) (begins g (goal.at.returns-in-Some-clause-near g c).After-moment_at)
    ∙ (parts_of_moment s.kind c.in-Some.day 0 (omega arith) (λ k. refl)).0 in
    first_step s c.args.side c.one_from.result (to_z w64 (of_z w64 c.moment_at.result)) b.settled.1 c.requires
    (omega (arith, ints, day, c.in-Some.ensures.near.0)) (omega (arith, ints, day, c.in-Some.ensures.near.1)) c.one_from.ensures.some c.one_from.ensures.soon
