use Rattle.std.proofs.Common.{arith}
use Rattle.rr_ical.proofs.ListedLemmas.{series_valid}
use Rattle.rr_ical.proofs.list.read_text.Goals as goal

pub returns-clause-valid : goal.returns-clause-valid
returns-clause-valid c =
    let v = c.in_ok-all.ensures.valid in
    rw c.series_of_list.ensures (series_valid c.in_ok-all.all.first c.in_ok-all.all.plus v.in_years v.rises (omega (arith, v.counted, v.few)))
