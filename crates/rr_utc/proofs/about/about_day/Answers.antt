use Rattle.std.proofs.Common.{FitsSigned, w32, w64, refl, sym, subst, ◌∙◌, arith, rules}
use Rattle.std.proofs.lemmas.Int.{ints, to_z-of_z}
use Rattle.rr_utc.specs.Seen.{AreNumbersAbout}
use Rattle.rr_utc.proofs.about.about_day.Goals as goal

pub returns : goal.returns
returns g c =
    let day = to_z-of_z w64 c.args.day c.ranges.day in
    let calm = c.if-not-is_about.ensures refl in
    let from = calm.0 in
    let end = calm.1 in
    let of_a : FitsSigned w32 c.args.calm.ahead_a = search rules in
    let of_b : FitsSigned w32 c.args.calm.ahead_b = search rules in
    record {
      numbers_a = subst (λ z. AreNumbersAbout (g.A.DaySeq.sets c.args.a.now) (g.A.DaySeq.sketch c.args.a.now) z c.numbers_about.result) day c.numbers_about.ensures;
      numbers_b = subst (λ z. AreNumbersAbout (g.B.DaySeq.sets c.args.b.now) (g.B.DaySeq.sketch c.args.b.now) z c.numbers_about-2.result) day
          c.numbers_about-2.ensures;
      ahead_a = λ v l m. (c.requires.calm v (omega (arith, ints, from, day, l)) (omega (arith, ints, end, day, m))).0 ∙ sym (to_z-of_z w32 c.args.calm.ahead_a of_a);
      ahead_b = λ v l m. (c.requires.calm v (omega (arith, ints, from, day, l)) (omega (arith, ints, end, day, m))).1 ∙ sym (to_z-of_z w32 c.args.calm.ahead_b of_b);
    }
