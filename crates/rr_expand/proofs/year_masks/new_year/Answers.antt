use Rattle.std.proofs.Common.{◌∙◌, ap, to_z-of_z, FitsSigned, w64}
use Rattle.rr_model.specs.Calendar.{day_number}
use Rattle.rr_model.proofs.WeekLemmas.{day_number-january_1}
use Rattle.rr_expand.proofs.year_masks.new_year.Goals as goal

pub day_of-requires-clause-near : goal.day_of-requires-clause-near
day_of-requires-clause-near c = rw (to_z-of_z c.ranges.year, day_number-january_1 c.args.year) c.requires

pub returns : goal.returns
returns c =
    let fits : FitsSigned w64 c.day_of.result = record { sfits = c.day_of.type_inv } in
    to_z-of_z fits ∙ c.day_of.ensures ∙ ap (λ y. day_number y 1 1) (to_z-of_z c.ranges.year) ∙ day_number-january_1 c.args.year
