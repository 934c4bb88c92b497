use Rattle.std.proofs.Common.{ℕ, sym, subst}
use Rattle.std.specs.Prelude.{Option, Some}
use Rattle.rr_decide.specs.Question.{shown_by}
use Rattle.rr_decide.specs.Quiet.{ShowNothingBelow}
use Rattle.rr_model.specs.declared.question.Question.{Question}
use Rattle.rr_decide.proofs.days.alike_after.Goals as goal

pub alike_up_to-requires-clause-below : goal.alike_up_to-requires-clause-below
alike_up_to-requires-clause-below g c =
    let sets_a = g.A.DaySeq.sets c.args.a.now in
    let sets_b = g.B.DaySeq.sets c.args.b.now in
    let known = subst (λ (o : Option ℕ). ShowNothingBelow (shown_by c.args.question) sets_a sets_b o) c.in-Equal-Some.is-1 c.requires.alike in
    subst (λ (q : Question). ShowNothingBelow (shown_by q) sets_a sets_b (Some c.in-Equal-Some.below)) c.in-Equal-Some.is-0 known

pub returns-in-Equal-Some : goal.returns-in-Equal-Some
returns-in-Equal-Some g c =
    subst (λ (q : Question). ShowNothingBelow (shown_by q) (g.A.DaySeq.sets c.args.a.now) (g.B.DaySeq.sets c.args.b.now) c.alike_up_to.result)
    (sym c.in-Equal-Some.is-0) c.alike_up_to.ensures
