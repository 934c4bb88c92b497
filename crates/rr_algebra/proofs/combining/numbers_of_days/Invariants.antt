use Rattle.std.specs.Prelude.{◌≡◌, ◌≤◌, length}
use Rattle.rr_model.specs.Sets.Sizes.{total_size}
use Rattle.rr_model.specs.declared.limits.TheConstants.{MAX_SECONDS}
use Rattle.rr_days.specs.MadeSets.{AreKnown}
use Rattle.rr_algebra.specs.Combining.{AreDayNumbers, AreDaySets, AreMadeOnDays, table}
use Rattle.rr_algebra.proofs.combining.numbers_of_days.Given as goal

-- the numbers so far are those of their days, and each set is made on a day
abbrev pub invariant-loop-k : goal.invariant-loop-k
invariant-loop-k g l =
    (length l.numbers.items ≡ l.k)
    × AreDaySets l.kind l.sets.shapes
    × AreKnown l.op (table (g.A.DaySeq.sets l.one)) (table (g.B.DaySeq.sets l.other)) l.sets.shapes l.sets.known
    × AreDayNumbers l.op (g.A.DaySeq.sketch l.one) (g.B.DaySeq.sketch l.other) l.begin l.sets.shapes l.numbers.items
    × AreMadeOnDays l.op (g.A.DaySeq.sketch l.one) (g.B.DaySeq.sketch l.other) l.sets.shapes
    × (total_size l.sets.shapes ≤ MAX_SECONDS)
