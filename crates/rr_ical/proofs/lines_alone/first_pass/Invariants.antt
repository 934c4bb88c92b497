use Rattle.std.proofs.Common.{◌≡◌, drop}
use Rattle.rr_ical.specs.Kept.{kept_lines, nothing_kept}
use Rattle.rr_ical.proofs.lines_alone.first_pass.Given as goal

abbrev pub invariant-loop-line : goal.invariant-loop-line
invariant-loop-line g l =
    kept_lines g.L.RuleLanguage.language l.read (drop l.line-index l.lines) ≡ kept_lines g.L.RuleLanguage.language nothing_kept l.lines
