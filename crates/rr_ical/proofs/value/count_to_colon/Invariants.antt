use Rattle.std.proofs.Common.{◌≡◌, ◌-◌, ◌≤◌, length, drop, false}
use Rattle.rr_model.specs.Text.UsedLines.{after_colon}
use Rattle.rr_ical.proofs.value.count_to_colon.Given as goal

abbrev pub invariant-loop-index : goal.invariant-loop-index
invariant-loop-index l = record {
  within : l.count ≤ length l.text;
  same : after_colon l.is_quoted (drop l.count l.text) ≡ after_colon false l.text;
}

abbrev pub decreases-loop-index : goal.decreases-loop-index
decreases-loop-index l = length l.text - l.count
