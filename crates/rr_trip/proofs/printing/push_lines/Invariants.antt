use Rattle.std.specs.Prelude.{◌≡◌, ◌++◌, drop}
use Rattle.rr_trip.specs.Printed.{lines_text}
use Rattle.rr_trip.proofs.printing.push_lines.Given as goal

-- the others are left
abbrev pub invariant-loop-line : goal.invariant-loop-line
invariant-loop-line l =
    l.out.items ++ lines_text l.only_differences (drop l.line-index l.lines) ≡ l.fn.out.items ++ lines_text l.only_differences l.lines
