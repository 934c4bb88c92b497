use Rattle.std.proofs.Common.{◌≡◌, drop, map}
use Rattle.rr_events.specs.Own.{first_named}
use Rattle.rr_events.proofs.own.first_named.Given as goal

abbrev pub invariant-loop-line : goal.invariant-loop-line
invariant-loop-line l = first_named l.word (map (λ line. line.now) (drop l.line-index l.lines)) ≡ first_named l.word (map (λ line. line.now) l.lines)
