use Rattle.std.proofs.Common.{FitsSigned, inl, w64, to_z-of_z, arith}
use Rattle.std.proofs.lemmas.Int.{ints}
use Rattle.rr_model.specs.Moment.{day_part}
use Rattle.rr_model.specs.declared.kind.Kind.TheVariants.{Moments}
use Rattle.rr_trip.proofs.ZoneLemmas.{printed_no, printed_yes}
use Rattle.rr_trip.proofs.zones.is_printable.Goals as goal

pub returns-then-day-ge-FIRST_DAY-clause-yes : goal.returns-then-day-ge-FIRST_DAY-clause-yes
returns-then-day-ge-FIRST_DAY-clause-yes c = λ e.
    let fits : FitsSigned w64 c.day_part-day.result = record { sfits = c.day_part-day.type_inv } in
    let low = rw (to_z-of_z fits) at c.if-day-ge-FIRST_DAY.true in
    let high = rw (to_z-of_z fits) at e in
    printed_yes c.day_part-day.result (day_part Moments c.args.local) (rw (to_z-of_z c.ranges.local) at c.day_part-day.ensures) (omega (arith, ints, low))
    (omega (arith, ints, high))

pub returns-else-day-ge-FIRST_DAY-clause-no : goal.returns-else-day-ge-FIRST_DAY-clause-no
returns-else-day-ge-FIRST_DAY-clause-no c = λ e h.
    let fits : FitsSigned w64 c.day_part-day.result = record { sfits = c.day_part-day.type_inv } in
    let low = rw (to_z-of_z fits) at e in
    printed_no c.day_part-day.result (day_part Moments c.args.local) (rw (to_z-of_z c.ranges.local) at c.day_part-day.ensures)
    (inl (omega (arith, ints, low))) h
