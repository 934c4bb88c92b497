use Rattle.std.proofs.Common.{arith, pos, ◌+ℤ◌}
use Rattle.jiff_core.proofs.SignedLemmas.{signed_arith}
use Rattle.rr_model.specs.Calendar.{weekday_of}
use Rattle.rr_model.proofs.FloorLemmas.{floor_mod-int}
use Rattle.rr_cal.proofs.week.weekday.Goals as goal

pub returns-clause-value : goal.returns-clause-value
unfolding weekday_of
returns-clause-value c =
    omega (arith, signed_arith, c.rem_euclid.ensures.value, floor_mod-int (c.args.day +ℤ pos 3) 7, c.requires.near)
