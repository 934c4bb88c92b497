use Rattle.std.proofs.Common.{◌≡◌, drop, false}
use Rattle.rr_skip.specs.Reading.{first_unread}
use Rattle.rr_skip.proofs.lines.first_unread.Given as goal

abbrev pub invariant-loop-line : goal.invariant-loop-line
invariant-loop-line l =
    (l.index ≡ l.line-index) × (first_unread l.has_rule l.index (drop l.line-index l.lines) ≡ first_unread false 0 l.lines)
