use Rattle.std.proofs.Common.{◌≡◌, ◌++◌, drop, map}
use Rattle.std.specs.Prelude.{flat_map}
use Rattle.rr_events.specs.Words.{line_words}
use Rattle.rr_events.proofs.words.deciding_lines.Given as goal

abbrev pub invariant-loop-line : goal.invariant-loop-line
invariant-loop-line l =
    l.words.items ++ flat_map line_words (map (λ line. line.now) (drop l.line-index l.own)) ≡ flat_map line_words (map (λ line. line.now) l.own)
