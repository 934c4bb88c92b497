use Rattle.std.proofs.Common.{rules, ◌≡◌, ◌∙◌, FitsSigned, w64, to_z, of_z, to_z-of_z, ap}
use Rattle.rr_model.specs.Moment.{moment_at}
use Rattle.rr_length.specs.Walk.{lengths_of}
use Rattle.rr_length.specs.declared.other.OtherLength.{OtherLength}
use Rattle.rr_length.proofs.AnswerLemmas.{some_then}
use Rattle.rr_length.proofs.WalkLemmas.{first_other}
use Rattle.rr_length.proofs.other.other_of_rising.Goals as goal

pub returns-in-Some-clause-some : goal.returns-in-Some-clause-some
returns-in-Some-clause-some g c =
    let s = g.S.DaySeq.sketch c.args.sequence.now in
    let from = to_z w64 (of_z w64 c.moment_at.result) in
    let fits : FitsSigned w64 c.moment_at.result = record { sfits = c.moment_at.type_inv } in
    let day_fits : FitsSigned w64 c.in-Some.day = search rules in
    let begins : from ≡ moment_at s.kind c.in-Some.day 0 =
    to_z-of_z fits ∙ c.moment_at.ensures.value ∙ ap (λ k. moment_at k (to_z w64 (of_z w64 c.in-Some.day)) 0) c.kind.ensures
    ∙ ap (λ d. moment_at s.kind d 0) (to_z-of_z day_fits) in
    some_then c.other_from.result (λ (o : OtherLength). first_other s (lengths_of c.args.usual.a c.args.dated_a.now)
    (lengths_of c.args.usual.b c.args.dated_b.now) c.in-Some.day from o c.in-Some.ensures.first begins) c.other_from.ensures.some
