use Rattle.std.proofs.Common.{arith, pos, ◌+ℤ◌, ◌-ℤ◌}
use Rattle.jiff_core.proofs.SignedLemmas.{signed_arith}
use Rattle.rr_model.specs.Calendar.Week.{week_index}
use Rattle.rr_model.proofs.FloorLemmas.{floor_div-int}
use Rattle.rr_cal.proofs.week.week_index.Goals as goal

pub returns : goal.returns
unfolding week_index
returns c =
    omega (arith, signed_arith, c.div_euclid.ensures, c.from.ensures, floor_div-int ((c.args.day +ℤ pos 3) -ℤ pos c.args.week_start) 7, c.requires.near)
