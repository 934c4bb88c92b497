use Rattle.std.proofs.Common.{FitsSigned, w32, w64, rules, to_z-of_z}
use Rattle.rr_true.specs.Changes.{ZoneOffsets, offset_by}
use Rattle.rr_true.specs.Spans.{IsSpan}
use Rattle.rr_true.proofs.OffsetLemmas.{ended_span, offset_below}
use Rattle.rr_true.proofs.offsets.Offsets.span_at.Goals.{After-span_by}
use Rattle.rr_true.proofs.offsets.Offsets.span_at.Goals as goal

-- the zone
abbrev zone_in : After-span_by → ZoneOffsets
zone_in c = record { initial = c.self.inside.initial; changes = c.self.inside.changes.items; settled = c.self.inside.settled; days = c.self.inside.days }

-- what the changes alone tell
span_in : (c : After-span_by) → IsSpan (offset_by c.self.inside.initial c.self.inside.changes.items) c.args.moment c.span_by.result
span_in c =
    let initial : FitsSigned w32 c.self.inside.initial = search rules in
    rw (to_z-of_z initial, c.as_slice-then-end_by.ensures.value, to_z-of_z c.ranges.moment) at c.span_by.ensures.span

pub returns-then-end_by-clause-span : goal.returns-then-end_by-clause-span
returns-then-end_by-clause-span c =
    let settled : FitsSigned w64 c.self.inside.settled = search rules in
    let ended = rw (c.as_slice.ensures.value, to_z-of_z settled) at c.end_by.ensures c.if-end_by.true in
    rw (← c.self.view_is) (ended_span (zone_in c) c.self.invariant ended c.args.moment c.span_by.result (span_in c))

pub returns-then-end_by-clause-below : goal.returns-then-end_by-clause-below
returns-then-end_by-clause-below c = offset_below (zone_in c) c.self.invariant c.args.moment c.span_by.result (span_in c)
