use Rattle.std.proofs.Common.{◌≡◌, ◌++◌, length, drop}
use Rattle.std.specs.List.{filter}
use Rattle.rr_icalfile.specs.Event.{is_component_line}
use Rattle.rr_icalfile.proofs.event.component_lines.Given as goal

-- those of the lines to come are left
abbrev pub invariant-loop-line : goal.invariant-loop-line
invariant-loop-line l =
    l.kept ++ filter is_component_line (drop (length l.yielded) l.fn.lines) ≡ filter is_component_line l.fn.lines
