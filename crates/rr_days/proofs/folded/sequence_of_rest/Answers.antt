use Rattle.std.proofs.Common.{to_z-of_z, drop, sym}
use Rattle.rr_model.specs.Bounds.{earliest_near}
use Rattle.rr_runs.specs.Runs.{days_of}
use Rattle.rr_days.proofs.RowLemmas.{before_within, cycle_within, parts_bounded, parts_empty, parts_first, parts_sketch, rises_from, row_rises}
use Rattle.rr_days.proofs.folded.sequence_of_rest.Goals as goal

pub invariant_of-result : goal.invariant_of-result
invariant_of-result c =
    let a = c.args in
    let w = c.requires.whole in
    let n = c.requires.parts in
    let none = c.requires.empty in
    let f = to_z-of_z c.ranges.first in
    let s = to_z-of_z c.ranges.settled in
    let early = rw f at c.of_row-early.ensures in
    let later = rw s at c.of_rest-repeated.ensures in
    record {
      bounded = rw (s, early, later) (parts_bounded a.kind a.shapes a.before (drop a.skipped a.row) a.first a.settled a.period w n none);
      first_is = rw (s, early, later) (parts_first a.kind a.shapes a.before (drop a.skipped a.row) a.first a.settled a.period w n none c.first_occupied-occupied.result
          (rw f at c.first_occupied-occupied.ensures));
      empty = parts_empty a.kind a.shapes a.before (drop a.skipped a.row) a.first a.settled a.period w n none;
      before_within = rw early (before_within a.kind a.shapes a.before (drop a.skipped a.row) a.first a.settled a.period w n none);
      cycle_within = rw later (cycle_within a.kind a.shapes a.before (drop a.skipped a.row) a.first a.settled a.period w n none);
      before_rises = rw early (rises_from earliest_near a.first (days_of a.first a.before) w.low (row_rises a.first a.before));
      cycle_rises = rw (s, later) (row_rises a.settled (drop a.skipped a.row));
    }

pub returns : goal.returns
returns c =
    let a = c.args in
    let f = to_z-of_z c.ranges.first in
    let s = to_z-of_z c.ranges.settled in
    let early = rw f at c.of_row-early.ensures in
    let later = rw s at c.of_rest-repeated.ensures in
    let same = parts_sketch a.kind a.shapes a.before (drop a.skipped a.row) a.first a.settled a.period c.requires.whole c.requires.parts c.requires.empty in
    rw (s, early, later) (sym same)
