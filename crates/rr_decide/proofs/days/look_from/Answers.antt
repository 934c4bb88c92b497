use Rattle.std.proofs.Common.{w64, to_z, of_z, refl, arith}
use Rattle.std.proofs.lemmas.Int.{ints}
use Rattle.rr_decide.specs.Question.{shown_by}
use Rattle.rr_decide.proofs.QuietLemmas.{none_in_stretch}
use Rattle.rr_decide.proofs.WindowLemmas.{none_while_free}
use Rattle.rr_decide.proofs.days.look_from.Goals as goal

pub returns-then-free-ge-FREE_DAYS-clause-look : goal.returns-then-free-ge-FREE_DAYS-clause-look
returns-then-free-ge-FREE_DAYS-clause-look g c =
    let s = g.A.DaySeq.sketch c.args.a.now in
    let u = g.B.DaySeq.sketch c.args.b.now in
    let of_a = c.free_days-free_a in
    let of_b = c.free_days_if-free_b in (
      omega (arith, c.min.ensures, c.requires.some, c.if-free-ge-FREE_DAYS.true),
      omega (arith, c.min.ensures),
      none_while_free (shown_by c.args.question) s u c.args.day (to_z w64 (of_z w64 c.args.day)) of_a.result of_b.result c.days_without-free.result
          c.min.result (omega (arith, ints)) c.days_without-free.ensures of_a.ensures of_b.ensures (omega (arith, c.min.ensures)),
    )

pub returns-in-None-clause-look : goal.returns-in-None-clause-look
returns-in-None-clause-look g c =
    let s = g.A.DaySeq.sketch c.args.a.now in
    let u = g.B.DaySeq.sketch c.args.b.now in
    let of_a = c.stretch-of_a in
    let of_b = c.stretch-of_b in (
      omega arith,
      omega (arith, c.count.ensures.most, c.requires.some),
      none_in_stretch (shown_by c.args.question) (g.A.DaySeq.sets c.args.a.now) (g.B.DaySeq.sets c.args.b.now) s u (to_z w64 (of_z w64 c.args.day))
          c.count.result c.look_at_day.new.quiet of_a.result.first of_b.result.first of_a.result.rest.now of_b.result.rest.now of_a.ensures of_b.ensures
          c.in-None.ensures.quiet c.count.ensures.first c.count.ensures.second c.count.ensures.has c.args.day _ (omega (arith, ints)) refl
          c.in-None.ensures.shown,
    )

pub returns-in-None-clause-quiet : goal.returns-in-None-clause-quiet
returns-in-None-clause-quiet g c = λ x y h. c.in-None.ensures.quiet x y (c.count.ensures.kept x y h)
