use Rattle.std.proofs.Common.{◌≡◌, ◌++◌, [], drop, map}
use Rattle.rr_events.specs.Own.{own_lines}
use Rattle.rr_events.proofs.own.own_lines.Given as goal

abbrev pub invariant-loop-line : goal.invariant-loop-line
invariant-loop-line l = map (λ line. line.now) l.own.items ++ own_lines l.names (drop l.line-index l.lines) ≡ own_lines [] l.lines
