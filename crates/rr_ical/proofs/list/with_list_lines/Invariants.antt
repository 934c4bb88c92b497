use Rattle.std.proofs.Common.{◌≡◌, ◌+◌, ◌≤◌, length}
use Rattle.rr_model.specs.Text.Lines.{physical_lines}
use Rattle.rr_ical.specs.Lists.{empty_list, with_list_lines}
use Rattle.rr_ical.specs.Listed.{IsValidListed}
use Rattle.rr_ical.proofs.list.with_list_lines.Given as goal

abbrev pub invariant-loop-text : goal.invariant-loop-text
invariant-loop-text l = record {
  so_far : with_list_lines (l.number + 1) l.so_far (physical_lines l.rest) ≡ with_list_lines 1 empty_list (physical_lines l.bytes);
  valid : IsValidListed l.so_far;
  few : l.number + length l.rest ≤ length l.bytes;
}

abbrev pub decreases-loop-text : goal.decreases-loop-text
decreases-loop-text l = length l.rest
