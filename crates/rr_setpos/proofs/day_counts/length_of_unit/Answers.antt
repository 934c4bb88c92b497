use Rattle.std.proofs.Common.{◌≡◌, sym, rules, FitsSigned, w64, to_z-of_z, ◌+ℤ◌, pos}
use Rattle.rr_setpos.specs.Ranks.{first_of_unit, next_of_unit}
use Rattle.rr_setpos.proofs.UnitDayLemmas.{near_day}
use Rattle.rr_setpos.proofs.day_counts.length_of_unit.Goals as goal

pub returns-clause-near : goal.returns-clause-near
returns-clause-near c =
    let fits : FitsSigned w64 c.unit_of_day.result = search rules in
    let rule = c.args.rule.now in
    let day = c.args.day.now.number in
    let next : next_of_unit rule day ≡ first_of_unit rule day +ℤ pos c.days_in_unit.result =
    rw (to_z-of_z fits, c.unit_of_day.ensures) at (c.days_in_unit.ensures.next rule.week_start) in
    rw (sym next) (near_day rule day c.requires.freq c.requires.near).1
