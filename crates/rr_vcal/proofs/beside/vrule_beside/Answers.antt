use Rattle.std.proofs.Common.{sym, subst, ap, ◌∙◌, w64, arith}
use Rattle.std.proofs.lemmas.Int.{ints, to_z-of_z}
use Rattle.rr_model.specs.Calendar.{IsDayWithin}
use Rattle.rr_model.specs.Moment.{day_part}
use Rattle.rr_model.proofs.StartLemmas.{IsDayWithin-start}
use Rattle.rr_model.proofs.BackLemmas.{in_years_back}
use Rattle.rr_vcal.proofs.beside.vrule_beside.Goals as goal

pub filled_items-requires : goal.filled_items-requires
filled_items-requires c =
    let start = c.args.setting.start in
    let same = c.day_part.ensures ∙ ap (day_part start.kind) (in_years_back start.kind start.at c.requires) in
    let near = subst (IsDayWithin 1000) (sym same) (IsDayWithin-start 1000 start.kind start.at c.requires) in
    rw (to_z-of_z w64 c.day_part.result (omega (arith, ints, near))) near
