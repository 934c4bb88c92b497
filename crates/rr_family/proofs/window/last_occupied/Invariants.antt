use Rattle.std.proofs.Common.{◌≡◌, ℤ, ◌≤ℤ◌, ◌<ℤ◌, []}
use Rattle.rr_model.specs.Bounds.{latest_near}
use borrow.Author.Gap.{gap}
use Rattle.rr_model.specs.Sets.Sketch.{times_on}
use Rattle.rr_family.proofs.window.last_occupied.Given as goal

-- nothing is later than this day
abbrev pub invariant-loop-day : goal.invariant-loop-day
invariant-loop-day g l =
    (l.first ≤ℤ l.day) × (l.day ≤ℤ latest_near) × ((d : ℤ) → l.day <ℤ d → times_on (g.A.DaySeq.sketch l.seq) d ≡ [])

abbrev pub decreases-loop-day : goal.decreases-loop-day
decreases-loop-day g l = gap l.first l.day
