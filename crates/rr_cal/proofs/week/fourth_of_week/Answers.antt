use Rattle.std.proofs.Common.{arith, pos, ◌+ℤ◌, ◌-ℤ◌}
use Rattle.jiff_core.proofs.SignedLemmas.{signed_arith}
use Rattle.rr_model.specs.Calendar.Week.{week_index, fourth_day}
use Rattle.rr_model.proofs.FloorLemmas.{floor_div-int}
use Rattle.rr_cal.proofs.week.fourth_of_week.Goals as goal

pub returns : goal.returns
unfolding week_index fourth_day
returns c =
    omega (
      arith,
      signed_arith,
      c.rem_euclid.ensures.value,
      c.from-start.ensures,
      floor_div-int ((c.args.day +ℤ pos 3) -ℤ pos c.args.week_start) 7,
      c.requires.near,
    )
