use Rattle.std.proofs.Common.{List, ℕ, ◌++◌, ap, ◌∙◌, subst, arith}
use Rattle.std.proofs.lemmas.List.{at_drop_all}
use Rattle.rr_days.specs.Sequence.{sketch}
use Rattle.rr_answer.specs.Outcome.{answer_of}
use Rattle.rr_answer.specs.declared.status.Status.{Status}
use Rattle.rr_booking.specs.Booking.{Other}
use Rattle.rr_booking.specs.Parsed.{all_in}
use Rattle.rr_booking.proofs.LineLemmas.{IsToldTo, all_told, one_told_at}
use Rattle.rr_booking.proofs.answers.said_of_all.Goals as goal

pub loop-other-preserved : goal.loop-other-preserved
loop-other-preserved c =
    one_told_at c.args.duration (sketch c.args.days.now) (all_in c.args.others.now) c.args.others.now c.loop-other.other-index c.other-item.result
    c.loop-other.text.items c.extend_from_slice.new.self.items c.loop-other.tally.clashes c.loop-other.tally.refused c.with-tally.result.clashes
    c.with-tally.result.refused (answer_of c.in_ok-said.said) c.loop-other-test.true c.other-item.is c.loop-other.invariant c.in_ok-said.ensures
    (c.in_ok-extend_from_slice.ensures.items ∙ ap (λ (t : List ℕ). c.loop-other.text.items ++ t) (c.as_slice.ensures.value ∙ c.in_ok-line.ensures))
    c.with-tally.ensures.clashes c.with-tally.ensures.refused

pub returns : goal.returns
returns c =
    let a = sketch c.args.days.now in
    let others = all_in c.args.others.now in
    all_told c.args.duration a others c.loop-other.text.items c.loop-other.tally.clashes c.loop-other.tally.refused _
    (subst (λ (rest : List Other). IsToldTo c.args.duration a others rest c.loop-other.text.items c.loop-other.tally.clashes c.loop-other.tally.refused)
    (at_drop_all all_in c.args.others.now c.loop-other.other-index (omega (arith, c.loop-other-test.false))) c.loop-other.invariant)
    (ap (λ (s : Status). record { status = s; bytes = c.loop-other.text.items }) c.status.ensures)
