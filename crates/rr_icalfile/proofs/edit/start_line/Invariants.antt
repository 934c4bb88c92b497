use Rattle.std.proofs.Common.{◌≡◌, drop}
use Rattle.rr_icalfile.specs.Edited.{start_line}
use Rattle.rr_icalfile.proofs.edit.start_line.Given as goal

abbrev pub invariant-loop-line : goal.invariant-loop-line
invariant-loop-line l = start_line (drop l.line-index l.lines) ≡ start_line l.lines
