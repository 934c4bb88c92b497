use Rattle.std.proofs.Common.{◌-ℤ◌, sym, ap, ◌∙◌}
use Rattle.rr_model.specs.Vcal.Members.{family_unit}
use Rattle.rr_model.specs.Whole.{divides}
use Rattle.rr_model.proofs.DividesLemmas.{one_divides}
use Rattle.rr_family.proofs.sorts.unit_counts.Goals as goal

pub returns-then-interval-eq1 : goal.returns-then-interval-eq1
returns-then-interval-eq1 c =
    let apart = family_unit c.args.kind c.args.day.now.number -ℤ family_unit c.args.kind c.args.start.now.number in
    sym (ap (λ n. divides n apart) c.if-interval-eq1.true ∙ one_divides apart)
