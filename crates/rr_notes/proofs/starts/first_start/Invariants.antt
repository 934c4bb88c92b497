use Rattle.std.proofs.Common.{◌≡◌, drop}
use Rattle.std.specs.Prelude.{codes}
use Rattle.rr_events.specs.Own.{first_named}
use Rattle.rr_notes.proofs.starts.first_start.Given as goal

abbrev pub invariant-loop-line : goal.invariant-loop-line
invariant-loop-line l = first_named (codes "DTSTART") (drop l.line-index l.lines) ≡ first_named (codes "DTSTART") l.lines
