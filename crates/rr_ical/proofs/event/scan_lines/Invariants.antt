use Rattle.std.proofs.Common.{◌≡◌, length, drop}
use Rattle.rr_model.specs.Text.Event.{no_components, scan_of}
use Rattle.rr_ical.proofs.ScanLemmas.{after_lines}
use Rattle.rr_ical.proofs.event.scan_lines.Given as goal

abbrev pub invariant-loop-line : goal.invariant-loop-line
invariant-loop-line l =
    after_lines l.used (scan_of l.is_bare l.last l.nesting (drop (length l.yielded) l.fn.lines)) ≡ scan_of l.is_bare l.last no_components l.fn.lines
