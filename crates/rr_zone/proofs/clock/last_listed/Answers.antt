use Rattle.std.proofs.Common.{rules, FitsSigned, get_or, pos, ◌-◌, w64, to_z-of_z, sym, arith}
use Rattle.rr_zone.proofs.CountLemmas.{none_last, some_last}
use Rattle.rr_zone.proofs.clock.last_listed.Goals as goal

pub returns-then-count-eq0 : goal.returns-then-count-eq0
returns-then-count-eq0 c =
    let s = c.as_slice-onsets.ensures in
    sym (none_last c.args.onsets.now c.args.at (rw s.value at s.rises) c.count_up_to-count.result
    (rw (s.value, to_z-of_z c.ranges.at) at c.count_up_to-count.ensures) c.if-count-eq0.true)

pub returns-else-count-eq0 : goal.returns-else-count-eq0
returns-else-count-eq0 c =
    let s = c.as_slice-onsets.ensures in
    let fits : FitsSigned w64 (get_or c.as_slice-onsets.result.now (c.count_up_to-count.result - 1) (pos 0)) = search rules in
    rw (to_z-of_z fits, s.value)
    (sym (some_last c.args.onsets.now c.args.at (rw s.value at s.rises) c.count_up_to-count.result
    (rw (s.value, to_z-of_z c.ranges.at) at c.count_up_to-count.ensures) (omega (arith, c.if-count-eq0.false))))
