use Rattle.std.proofs.Common.{arith}
use Rattle.std.proofs.lemmas.Int.{ints}
use Rattle.rr_decide.proofs.verdicts.verdict_by_walk.Goals as goal

pub verdict_apart-requires : goal.verdict_apart-requires
verdict_apart-requires g c =
    c.in-None.ensures.both (g.A.DaySeq.sketch c.args.a.now) (g.B.DaySeq.sketch c.args.b.now) (c.kind.ensures, c.first.ensures.first)
    (c.kind-2.ensures, c.first-2.ensures.first)

pub of_one_kind-requires-clause-kind : goal.of_one_kind-requires-clause-kind
of_one_kind-requires-clause-kind g c =
    (c.in-Some.ensures.both (g.A.DaySeq.sketch c.args.a.now) (g.B.DaySeq.sketch c.args.b.now) (c.kind.ensures, c.first.ensures.first)
    (c.kind-2.ensures, c.first-2.ensures.first)).kind

pub of_one_kind-requires-clause-first_of_a : goal.of_one_kind-requires-clause-first_of_a
of_one_kind-requires-clause-first_of_a g c = λ d l.
    (c.in-Some.ensures.both (g.A.DaySeq.sketch c.args.a.now) (g.B.DaySeq.sketch c.args.b.now) (c.kind.ensures, c.first.ensures.first)
    (c.kind-2.ensures, c.first-2.ensures.first)).first_of_a
    d (omega (arith, ints))

pub of_one_kind-requires-clause-first_of_b : goal.of_one_kind-requires-clause-first_of_b
of_one_kind-requires-clause-first_of_b g c = λ d l.
    (c.in-Some.ensures.both (g.A.DaySeq.sketch c.args.a.now) (g.B.DaySeq.sketch c.args.b.now) (c.kind.ensures, c.first.ensures.first)
    (c.kind-2.ensures, c.first-2.ensures.first)).first_of_b
    d (omega (arith, ints))
