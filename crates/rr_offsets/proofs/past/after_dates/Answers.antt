use Rattle.std.proofs.Common.{rules, pos, get_or, w64, to_z-of_z, FitsSigned}
use Rattle.std.proofs.lemmas.List.{take_all}
use Rattle.rr_offsets.proofs.PastLemmas.{later_past, one_date}
use Rattle.rr_offsets.proofs.past.after_dates.Goals as goal

pub loop-date-preserved : goal.loop-date-preserved
loop-date-preserved c =
    let fits : FitsSigned w64 c.after_date-last.result = record { sfits = c.after_date-last.type_inv } in
    let here : FitsSigned w64 (get_or c.args.dates.now c.loop-date.date-index (pos 0)) = search rules in
    let e = rw (to_z-of_z here, to_z-of_z c.ranges.from) at c.after_date-last.ensures in
    let i = rw (to_z-of_z c.ranges.from, to_z-of_z c.ranges.past) at c.loop-date.invariant in
    rw (to_z-of_z fits, to_z-of_z c.ranges.past, to_z-of_z c.ranges.from) (record {
      past = later_past c.args.past _ c.after_date-last.result i.past e.past;
      dates = one_date _ c.after_date-last.result e.past.from c.args.from c.args.dates.now c.loop-date.date-index (pos 0) c.loop-date-test.true i.dates e.date;
    })

pub returns-clause-dates : goal.returns-clause-dates
returns-clause-dates c =
    rw (take_all c.loop-date.date-index c.args.dates.now c.loop-date-test.false, to_z-of_z c.ranges.from) at c.loop-date.invariant.dates
