use Rattle.std.specs.Prelude.{◌≡◌, pos, ◌+ℤ◌}
use Rattle.rr_family.specs.Lasting.{is_occupied}
use Rattle.rr_family.specs.Taking.{AgreeWithin}
use Rattle.rr_model.specs.Graph.Occurrences.{is_pattern_day}
use Rattle.rr_graphfind.proofs.agreement.agrees_throughout.Given as goal

-- the day is the next one, and the two are the same on those before it
abbrev pub invariant-loop-k : goal.invariant-loop-k
invariant-loop-k g l =
    (l.day.number ≡ l.start.number +ℤ pos l.k)
    × AgreeWithin (is_pattern_day l.pattern l.start.number) (is_occupied (g.A.DaySeq.sketch l.seq)) l.start.number l.k
