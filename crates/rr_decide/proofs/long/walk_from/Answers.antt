use Rattle.std.proofs.Common.{◌+◌, pos, ◌+ℤ◌, w64, to_z, of_z, arith}
use Rattle.std.proofs.lemmas.Int.{ints, clamps, to_z-of_z}
use Rattle.rr_decide.specs.Question.{shown_by}
use Rattle.rr_model.specs.declared.question.Question.TheVariants.{Equal}
use Rattle.rr_decide.proofs.StandsLemmas.{no_at, no_at_day, yes_by_days}
use Rattle.rr_decide.proofs.WindowLemmas.{every_day, least_equal_window, none_to_end}
use Rattle.rr_decide.proofs.long.walk_from.Goals as goal

pub days_between-requires-clause-to_near : goal.days_between-requires-clause-to_near
days_between-requires-clause-to_near g c = (
  omega (arith, ints, clamps, c.requires.near.0, c.settled.ensures.near.0, c.settled-2.ensures.near.0),
  omega (arith, ints, clamps, c.requires.near.1, c.settled.ensures.near.1, c.settled-2.ensures.near.1),
)

pub returns-in-None-clause-verdict : goal.returns-in-None-clause-verdict
returns-in-None-clause-verdict g c =
    let s = g.A.DaySeq.sketch c.args.a.now in
    let u = g.B.DaySeq.sketch c.args.b.now in
    let days = c.days_between.result + c.equal_days.result in
    yes_by_days (shown_by Equal) s u c.requires.kind
    (every_day (shown_by Equal) s u c.args.from c.max-last.result
    (c.args.from +ℤ pos days) c.equal_days.result c.requires.kind
    (least_equal_window s u _ _ _ (g.met.A.DaySeq.bounded c.args.a.now).valid (g.met.B.DaySeq.bounded c.args.b.now).valid c.period.ensures.value
    c.period-2.ensures.value c.equal_days.ensures)
    c.requires.first_of_a c.requires.first_of_b
    (omega (arith, ints, clamps)) (omega (arith, ints, clamps)) (omega (arith, ints, clamps)) (omega (arith, ints))
    (none_to_end (shown_by Equal) s u c.args.from (to_z w64 (of_z w64 c.args.from)) days days (to_z-of_z w64 c.args.from c.ranges.from)
    (omega arith) c.in-None.ensures.none))

pub returns-in-Some-clause-verdict : goal.returns-in-Some-clause-verdict
returns-in-Some-clause-verdict g c =
    let s = g.A.DaySeq.sketch c.args.a.now in
    let u = g.B.DaySeq.sketch c.args.b.now in
    no_at (shown_by Equal) s u
    (to_z w64 (of_z w64 c.args.from)) c.in-Some.shown.day _ c.in-Some.shown.second c.in-Some.shown.side c.kind.result c.on_day.result.kind _
    c.against.result
    c.requires.kind (g.met.A.DaySeq.bounded c.args.a.now).valid (g.met.B.DaySeq.bounded c.args.b.now).valid
    (λ d l. c.requires.first_of_a d (omega (arith, ints))) (λ d l. c.requires.first_of_b d (omega (arith, ints))) c.in-Some.ensures.some
    c.kind.ensures c.on_day.ensures.kind (omega (arith, ints)) c.on_day.ensures.at c.against.ensures

pub returns-in-Some-clause-day : goal.returns-in-Some-clause-day
returns-in-Some-clause-day g c =
    let s = g.A.DaySeq.sketch c.args.a.now in
    let u = g.B.DaySeq.sketch c.args.b.now in
    no_at_day (shown_by Equal) s u
    (to_z w64 (of_z w64 c.args.from)) c.in-Some.shown.day _ c.in-Some.shown.second c.in-Some.shown.side c.kind.result c.on_day.result.kind _
    c.against.result
    c.requires.kind (g.met.A.DaySeq.bounded c.args.a.now).valid (g.met.B.DaySeq.bounded c.args.b.now).valid c.in-Some.ensures.some
    c.kind.ensures c.on_day.ensures.kind (omega (arith, ints)) c.on_day.ensures.at c.against.ensures c.in-Some.ensures.high
