use Rattle.std.proofs.Common.{◌≡◌, ◌++◌, drop}
use Rattle.std.specs.Prelude.{flat_map}
use Rattle.rr_icalfile.specs.Days.{lines_with_time}
use Rattle.rr_icalfile.proofs.day.used_with_time.Given as goal

abbrev pub invariant-loop-line : goal.invariant-loop-line
invariant-loop-line l =
    l.used ++ flat_map (lines_with_time l.time) (drop l.line-index l.lines) ≡ flat_map (lines_with_time l.time) l.lines
