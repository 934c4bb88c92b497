use Rattle.std.proofs.Common.{◌≡◌, ap, get_or, inl, inr, arith}
use Rattle.std.proofs.lemmas.Bool.{cases_lt}
use Rattle.rr_model.proofs.CalendarLemmas.{weekday_of_below}
use Rattle.rr_expand.proofs.LeftOutLemmas.{other_weekday}
use Rattle.rr_expand.proofs.left_out.days_on.Goals as goal

pub bounds-gaps-from : goal.bounds-gaps-from
bounds-gaps-from c = let day = c.args.day.now in omega (arith, c.from.ensures, day.of_weekday, weekday_of_below day.number)

pub returns-clause-none : goal.returns-clause-none
returns-clause-none c j some below =
    let day = c.args.day.now in
    let gap = c.requires day.weekday (omega (arith, day.of_weekday, weekday_of_below day.number)) in
    let is : get_or c.args.gaps.now c.from.result 0 ≡ get_or c.args.gaps.now day.weekday 0 = ap (λ i. get_or c.args.gaps.now i 0) c.from.ensures in
    let longer = c.max.ensures in
    elim (cases_lt j c.days_on_in_month.result) [
      | inl l ↦ c.days_on_in_month.ensures.none j some l
      | inr g ↦ (let none = gap.none j some (omega (arith, below, longer, g, is)) in
          other_weekday c.args.rule.now c.args.start.now.number day.number day.weekday j day.of_weekday none.0 none.1)
    ]
