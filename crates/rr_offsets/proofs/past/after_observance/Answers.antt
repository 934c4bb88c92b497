use Rattle.std.proofs.Common.{rules, w32, w64, to_z-of_z, FitsSigned}
use Rattle.rr_offsets.proofs.PastLemmas.{date_over, dates_over, later_past}
use Rattle.rr_offsets.proofs.past.after_observance.Goals as goal

pub returns-clause-over : goal.returns-clause-over
returns-clause-over c =
    let o = c.args.observance.now in
    let first : FitsSigned w64 c.after_date-start.result = record { sfits = c.after_date-start.type_inv } in
    let second : FitsSigned w64 c.after_dates-dates.result = record { sfits = c.after_dates-dates.type_inv } in
    let third : FitsSigned w64 c.after_rules.result = record { sfits = c.after_rules.type_inv } in
    let from : FitsSigned w32 o.from = search rules in
    let start : FitsSigned w64 o.series.start = search rules in
    let s = rw (to_z-of_z from, to_z-of_z start) at c.after_date-start.ensures in
    let d = rw (to_z-of_z first, to_z-of_z from, c.as_slice.ensures.value) at c.after_dates-dates.ensures in
    let r = rw (to_z-of_z second, to_z-of_z from, c.as_slice-2.ensures) at c.after_rules.ensures in
    let both = later_past c.after_date-start.result c.after_dates-dates.result c.after_rules.result d.past r.past in
    rw (to_z-of_z third) (record {
      start = date_over c.after_date-start.result c.after_rules.result both.from o.from o.series.start s.date;
      plus = dates_over c.after_dates-dates.result c.after_rules.result r.past.from o.from o.series.plus d.dates;
      rules = r.rules;
    })
