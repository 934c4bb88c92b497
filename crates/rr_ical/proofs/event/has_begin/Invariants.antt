use Rattle.std.proofs.Common.{◌≡◌, drop}
use Rattle.std.specs.Prelude.{codes}
use Rattle.std.specs.List.{list_any}
use Rattle.rr_model.specs.Text.UsedLines.{is_named}
use Rattle.rr_model.specs.declared.line.Line.{Line}
use Rattle.rr_ical.proofs.event.has_begin.Given as goal

abbrev pub invariant-loop-line : goal.invariant-loop-line
invariant-loop-line l =
    list_any (λ (line : Line). is_named line.text (codes "BEGIN")) (drop l.line-index l.lines)
    ≡ list_any (λ (line : Line). is_named line.text (codes "BEGIN")) l.lines
