use Rattle.std.proofs.Common.{◌≡◌, ◌++◌}
use Rattle.rr_zone.specs.Rewritten.{blank_lines}
use Rattle.rr_zone.proofs.rewritten.push_blank_lines.Given as goal

abbrev pub invariant-loop-left : goal.invariant-loop-left
invariant-loop-left l = l.out.items ++ blank_lines l.left ≡ l.fn.out.items ++ blank_lines l.count

abbrev pub decreases-loop-left : goal.decreases-loop-left
decreases-loop-left l = l.left
