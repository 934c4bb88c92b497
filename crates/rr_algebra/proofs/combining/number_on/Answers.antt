use Rattle.std.proofs.Common.{[], sym, add-one, to_z-of_z}
use Rattle.std.proofs.lemmas.Option.{get_or_from_slice_get}
use Rattle.rr_algebra.proofs.combining.number_on.Goals as goal

pub returns-in-None : goal.returns-in-None
returns-in-None g c = sym (rw (c.in-None.is, to_z-of_z c.ranges.day) at c.stretch.ensures.of_day)

pub returns-in-Some : goal.returns-in-Some
returns-in-Some g c =
    rw add-one (get_or_from_slice_get _ c.in-Some.number _ [] (rw (c.in-Some.is, to_z-of_z c.ranges.day) at c.stretch.ensures.of_day))
