use Rattle.std.proofs.Common.{◌≡◌, FitsSigned, w64, ap, ◌∙◌}
use Rattle.std.proofs.lemmas.Int.{to_z-of_z}
use Rattle.rr_model.specs.Moment.{day_part}
use Rattle.rr_model.specs.declared.kind.Kind.TheVariants.{Moments}
use Rattle.rr_utc.proofs.ZoneLemmas.{begins_late, day_after_stored}
use Rattle.rr_utc.proofs.zones.begins_after.Goals as goal

pub returns : goal.returns
returns g c test =
    let fits : FitsSigned w64 c.first_day.result = record { sfits = c.first_day.type_inv } in
    let fits_day : FitsSigned w64 c.day_part.result = record { sfits = c.day_part.type_inv } in
    let day : c.day_part.result ≡ day_part Moments c.args.moment = c.day_part.ensures ∙ ap (day_part Moments) (to_z-of_z w64 c.args.moment c.ranges.moment) in
    begins_late (g.A.DaySeq.sketch c.args.seq.now) c.args.moment c.first_day.result c.requires c.first_day.ensures.none
    (day_after_stored c.args.moment c.day_part.result c.first_day.result fits_day fits c.first_day.ensures.near day test)
