use Rattle.std.proofs.Common.{◌≡◌, ◌+◌, ◌≤◌, w64, to_z, of_z, arith, subst, ◌∙◌, ℤ}
use Rattle.std.specs.Int.{int_min}
use Rattle.std.proofs.lemmas.Int.{ints}
use Rattle.rr_decide.specs.Reading.{steps_from}
use Rattle.rr_decide.proofs.QuestionLemmas.{equal_verdict}
use Rattle.rr_decide.proofs.long.equal_long.Goals as goal

pub verdict_apart_long-requires : goal.verdict_apart_long-requires
verdict_apart_long-requires g c =
    c.in-None.ensures.both (g.A.DaySeq.sketch c.args.a.now) (g.B.DaySeq.sketch c.args.b.now) (c.kind.ensures, c.first.ensures.first)
    (c.kind-2.ensures, c.first-2.ensures.first)

pub walk_from-requires-clause-kind : goal.walk_from-requires-clause-kind
walk_from-requires-clause-kind g c =
    (c.in-Some.ensures.both (g.A.DaySeq.sketch c.args.a.now) (g.B.DaySeq.sketch c.args.b.now) (c.kind.ensures, c.first.ensures.first)
    (c.kind-2.ensures, c.first-2.ensures.first)).kind

pub walk_from-requires-clause-first_of_a : goal.walk_from-requires-clause-first_of_a
walk_from-requires-clause-first_of_a g c = λ d l.
    (c.in-Some.ensures.both (g.A.DaySeq.sketch c.args.a.now) (g.B.DaySeq.sketch c.args.b.now) (c.kind.ensures, c.first.ensures.first)
    (c.kind-2.ensures, c.first-2.ensures.first)).first_of_a
    d (omega (arith, ints))

pub walk_from-requires-clause-first_of_b : goal.walk_from-requires-clause-first_of_b
walk_from-requires-clause-first_of_b g c = λ d l.
    (c.in-Some.ensures.both (g.A.DaySeq.sketch c.args.a.now) (g.B.DaySeq.sketch c.args.b.now) (c.kind.ensures, c.first.ensures.first)
    (c.kind-2.ensures, c.first-2.ensures.first)).first_of_b
    d (omega (arith, ints))

pub returns-in-None-clause-verdict : goal.returns-in-None-clause-verdict
returns-in-None-clause-verdict g c =
    equal_verdict (g.A.DaySeq.sketch c.args.a.now) (g.B.DaySeq.sketch c.args.b.now) c.verdict_apart_long.result c.verdict_apart_long.ensures.verdict

pub returns-in-Some-clause-verdict : goal.returns-in-Some-clause-verdict
returns-in-Some-clause-verdict g c =
    equal_verdict (g.A.DaySeq.sketch c.args.a.now) (g.B.DaySeq.sketch c.args.b.now) c.walk_from.result c.walk_from.ensures.verdict

pub returns-in-Some-clause-steps : goal.returns-in-Some-clause-steps
returns-in-Some-clause-steps g c =
    let s = g.A.DaySeq.sketch c.args.a.now in
    let u = g.B.DaySeq.sketch c.args.b.now in
    let both = c.in-Some.ensures.both s u (c.kind.ensures, c.first.ensures.first) (c.kind-2.ensures, c.first-2.ensures.first) in
    record {
      empty = λ e. absurd (both.some e);
      some = λ first other fa fb.
          let first_is : c.in-Some.from ≡ int_min first other = both.first first other fa fb in
          let from_is : to_z w64 (of_z w64 c.in-Some.from) ≡ c.in-Some.from = omega (arith, ints) in
          let few : c.walk_from.new.steps ≤ c.args.steps.now + steps_from s u (int_min first other) =
          subst (λ (x : ℤ). c.walk_from.new.steps ≤ c.args.steps.now + steps_from s u x) (from_is ∙ first_is) c.walk_from.ensures.few in
          omega (arith, few);
    }
