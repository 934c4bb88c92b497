use Rattle.std.proofs.Common.{◌≡◌, FitsSigned, w32, w64, to_z, of_z, to_z-of_z, ◌*◌, pos, ◌+ℤ◌, ◌-ℤ◌, ◌≤ℤ◌, arith, rules, refl}
use Rattle.std.proofs.lemmas.Int.{ints}
use Rattle.rr_true.specs.Changes.{ZoneOffsets, offset_by, moment_in_cycle}
use Rattle.rr_true.specs.Spans.{IsSpan}
use Rattle.rr_true.proofs.OffsetLemmas.{IsTurned, cycle_few, offset_below, span_of, turned}
use Rattle.rr_true.proofs.NearLemmas.{whole_fits, within_fits}
use Rattle.rr_true.proofs.offsets.Offsets.span_in_cycle.Goals.{After-span_by-span}
use Rattle.rr_true.proofs.offsets.Offsets.span_in_cycle.Goals as goal

-- the zone
abbrev zone_in : After-span_by-span → ZoneOffsets
zone_in c = record { initial = c.self.inside.initial; changes = c.self.inside.changes.items; settled = c.self.inside.settled; days = c.self.inside.days }

-- what is known behind the search
record Found (c : After-span_by-span) : Type 0 where
  first : c.moment_in_cycle-first.result ≡ moment_in_cycle c.self.inside.settled (c.self.inside.days * 86_400) c.args.moment
  span : IsSpan (offset_by c.self.inside.initial c.self.inside.changes.items) c.moment_in_cycle-first.result c.span_by-span.result
  within : c.span_by-span.result.end ≤ℤ (c.self.inside.settled +ℤ pos (c.self.inside.days * 86_400))
  turned : IsTurned (zone_in c) c.self.invariant c.args.moment c.moment_in_cycle-first.result c.span_by-span.result.end
  turn : FitsSigned w64 (c.args.moment -ℤ c.moment_in_cycle-first.result)
  end : FitsSigned w64 (c.span_by-span.result.end +ℤ (c.args.moment -ℤ c.moment_in_cycle-first.result))

found : (c : After-span_by-span) → Found c
found c =
    let initial : FitsSigned w32 c.self.inside.initial = search rules in
    let settled : FitsSigned w64 c.self.inside.settled = search rules in
    let moved : FitsSigned w64 c.moment_in_cycle-first.result = search rules in
    let cycle : FitsSigned w64 c.cycle_of.result = search rules in
    let first : c.moment_in_cycle-first.result ≡ moment_in_cycle c.self.inside.settled (c.self.inside.days * 86_400) c.args.moment =
    rw (to_z-of_z settled, to_z-of_z c.ranges.moment) at c.moment_in_cycle-first.ensures in
    let span : IsSpan (offset_by c.self.inside.initial c.self.inside.changes.items) c.moment_in_cycle-first.result c.span_by-span.result =
    rw (to_z-of_z initial, c.as_slice.ensures.value, to_z-of_z moved) at c.span_by-span.ensures.span in
    let few = cycle_few _ c.self.invariant in
    let near = c.self.invariant.settled_near in
    let whole : FitsSigned w64 (c.self.inside.settled +ℤ c.cycle_of.result) =
    whole_fits c.self.inside.settled c.cycle_of.result (c.self.inside.days * 86_400) near c.cycle_of.ensures few in
    let within : c.span_by-span.result.end ≤ℤ (c.self.inside.settled +ℤ pos (c.self.inside.days * 86_400)) =
    rw (to_z-of_z settled, to_z-of_z cycle, to_z-of_z whole, c.cycle_of.ensures) at c.span_by-span.ensures.within in
    let t : IsTurned (zone_in c) c.self.invariant c.args.moment c.moment_in_cycle-first.result c.span_by-span.result.end =
    turned (zone_in c) c.self.invariant c.args.moment c.moment_in_cycle-first.result c.span_by-span.result.end c.requires first span.later within in
    let early = t.early in
    let few = t.few in
    let low = t.low in
    let high = t.high in
    record {
      first = first;
      span = span;
      within = within;
      turned = t;
      turn = within_fits (c.args.moment -ℤ c.moment_in_cycle-first.result) (omega (arith, ints, early)) (omega (arith, ints, few));
      end = within_fits (c.span_by-span.result.end +ℤ (c.args.moment -ℤ c.moment_in_cycle-first.result)) (omega (arith, ints, low)) high;
    }

-- the end as the code has it
end_is : (c : After-span_by-span)
    → to_z w64 (of_z w64 (to_z w64 (of_z w64 c.span_by-span.result.end)
    +ℤ to_z w64 (of_z w64 (to_z w64 (of_z w64 c.args.moment) -ℤ to_z w64 (of_z w64 c.moment_in_cycle-first.result)))))
    ≡ c.span_by-span.result.end +ℤ (c.args.moment -ℤ c.moment_in_cycle-first.result)
end_is c =
    let f = found c in
    let end : FitsSigned w64 c.span_by-span.result.end = search rules in
    let moved : FitsSigned w64 c.moment_in_cycle-first.result = search rules in
    rw (to_z-of_z end, to_z-of_z c.ranges.moment, to_z-of_z moved, to_z-of_z f.turn, to_z-of_z f.end) refl

pub overflow_sub-result : goal.overflow_sub-result
overflow_sub-result c =
    let moved : FitsSigned w64 c.moment_in_cycle-first.result = search rules in
    rw (to_z-of_z c.ranges.moment, to_z-of_z moved) (found (goal.at.overflow_sub-result c).After-span_by-span).turn

pub overflow_add-result : goal.overflow_add-result
overflow_add-result c =
    let f = found (goal.at.overflow_add-result c).After-span_by-span in
    let end : FitsSigned w64 c.span_by-span.result.end = search rules in
    let moved : FitsSigned w64 c.moment_in_cycle-first.result = search rules in
    rw (to_z-of_z end, to_z-of_z c.ranges.moment, to_z-of_z moved, to_z-of_z f.turn) f.end

pub returns-clause-span : goal.returns-clause-span
returns-clause-span c =
    let s = (goal.at.returns-clause-span c).After-span_by-span in
    let f = found s in
    let offset : FitsSigned w32 c.span_by-span.result.offset = search rules in
    rw (end_is s, to_z-of_z offset, ← c.self.view_is)
    (span_of (zone_in s) c.self.invariant c.args.moment c.moment_in_cycle-first.result c.span_by-span.result.end
    c.span_by-span.result.offset f.first f.span f.within)

pub returns-clause-end : goal.returns-clause-end
returns-clause-end c =
    let s = (goal.at.returns-clause-end c).After-span_by-span in rw (end_is s) (found s).turned.high

pub returns-clause-below : goal.returns-clause-below
returns-clause-below c =
    let s = (goal.at.returns-clause-below c).After-span_by-span in
    let offset : FitsSigned w32 c.span_by-span.result.offset = search rules in
    rw (to_z-of_z offset) (offset_below (zone_in s) c.self.invariant c.moment_in_cycle-first.result c.span_by-span.result (found s).span)
