use Rattle.std.proofs.Common.{w64, of_z, to_z, FitsSigned, ap, sym, subst, ◌∙◌}
use Rattle.std.specs.Prelude.{int_lt}
use Rattle.std.proofs.lemmas.Int.{to_z-of_z}
use Rattle.std.proofs.lemmas.Result.{on_ok_weaker}
use Rattle.rr_model.specs.Rising.{with_value}
use Rattle.rr_model.specs.Moment.{day_part}
use Rattle.rr_model.specs.declared.kind.Kind.TheVariants.{Moments}
use Rattle.rr_utc.specs.Days.{AreWithMoment}
use Rattle.rr_utc.proofs.DayLemmas.{left_is, put_is}
use Rattle.rr_utc.proofs.day.put_moment.Goals as goal

pub returns-then-day_part-day : goal.returns-then-day_part-day
returns-then-day_part-day c =
    let fits : FitsSigned w64 c.day_part.result = record { sfits = c.day_part.type_inv } in
    let part = c.day_part.ensures ∙ ap (day_part Moments) (to_z-of_z w64 c.args.at c.ranges.at) in
    let same = sym (to_z-of_z w64 c.day_part.result fits) ∙ ap (to_z w64) c.if-day_part-day.true ∙ to_z-of_z w64 c.args.day c.ranges.day in
    on_ok_weaker c.put.result
    (λ e. subst (AreWithMoment c.args.day c.args.at c.args.found.now) (sym (e ∙ ap (with_value int_lt c.args.found.now) (to_z-of_z w64 c.args.at c.ranges.at))) (put_is c.args.day c.args.at c.args.found.now (sym part ∙ same))) c.put.ensures.ok

pub returns : goal.returns
returns c =
    let part = c.day_part.ensures ∙ ap (day_part Moments) (to_z-of_z w64 c.args.at c.ranges.at) in
    left_is c.args.day c.args.at c.args.found.now (λ on. c.if-day_part-day.false (ap (of_z w64) (part ∙ on)))
