use Rattle.std.proofs.Common.{w64}
use Rattle.std.proofs.lemmas.Int.{to_z-of_z}
use Rattle.rr_decide.specs.Question.{shown_by}
use Rattle.rr_decide.proofs.QuietLemmas.{numbers_show_nothing, remembered_day}
use Rattle.rr_decide.proofs.days.look_at_day.Goals as goal

pub returns-then-are_remembered-clause-shown : goal.returns-then-are_remembered-clause-shown
returns-then-are_remembered-clause-shown g c =
    remembered_day (shown_by c.args.question) (g.A.DaySeq.sets c.args.a.now) (g.B.DaySeq.sets c.args.b.now) (g.A.DaySeq.sketch c.args.a.now)
    (g.B.DaySeq.sketch c.args.b.now) c.args.day c.args.quiet.now c.args.of_a c.args.of_b c.requires.first c.requires.second c.requires.quiet
    (c.are_remembered.ensures.remembered c.if-are_remembered.true)

pub returns-then-are_remembered-clause-quiet : goal.returns-then-are_remembered-clause-quiet
returns-then-are_remembered-clause-quiet g c = λ x y h. c.requires.quiet x y (c.are_remembered.ensures.kept x y h)

pub returns-in-Some-clause-quiet : goal.returns-in-Some-clause-quiet
returns-in-Some-clause-quiet g c = λ x y h. c.requires.quiet x y (c.are_remembered.ensures.kept x y h)

pub returns-in-None-clause-shown : goal.returns-in-None-clause-shown
returns-in-None-clause-shown g c = rw (to_z-of_z w64 c.args.day c.ranges.day) at c.in-None.ensures

pub remember-requires-clause-pair : goal.remember-requires-clause-pair
remember-requires-clause-pair g c =
    let none = rw (to_z-of_z w64 c.args.day c.ranges.day) at c.in-None.ensures in
    numbers_show_nothing (shown_by c.args.question) (g.A.DaySeq.sets c.args.a.now) (g.B.DaySeq.sets c.args.b.now) (g.A.DaySeq.sketch c.args.a.now)
    (g.B.DaySeq.sketch c.args.b.now) c.args.day c.args.of_a c.args.of_b c.requires.first c.requires.second none

pub remember-requires-clause-quiet : goal.remember-requires-clause-quiet
remember-requires-clause-quiet g c = λ x y h. c.requires.quiet x y (c.are_remembered.ensures.kept x y h)
