use Rattle.std.proofs.Common.{◌≡◌, false, to_z-of_z}
use Rattle.std.specs.Prelude.{nat_lt}
use Rattle.std.proofs.lemmas.Result.{IfOk-weaker}
use Rattle.rr_model.specs.Rising.Sets.{IsSetOf}
use Rattle.rr_model.specs.Rule.Validity.{is_absent}
use Rattle.rr_walk.specs.SetPositions.{IsChosenOffset}
use Rattle.rr_walk.proofs.OffsetLemmas.{chosen_offsets as chosen_of}
use Rattle.rr_walk.proofs.offsets.chosen_offsets.Goals as goal

pub returns : goal.returns
returns c =
    let rule = c.args.rule.now in
    let all = c.in_ok-offsets in
    IfOk-weaker c.times_at_positions.result _ (λ t. is_absent rule.by_set_pos ≡ false → IsSetOf nat_lt t (IsChosenOffset rule c.args.start))
    (λ t h stands. chosen_of rule c.args.start all.offsets t stands (rw (to_z-of_z c.ranges.start) at all.ensures) h) c.times_at_positions.ensures
