use Rattle.rr_trip.proofs.CountLemmas.{counts-same}
use Rattle.rr_trip.proofs.report.Report.counts.Goals as goal

pub returns : goal.returns
returns c =
    counts-same c.as_slice-lines.result.now c.args.self.now.lines.items c.count_said.result c.count_said-2.result c.count_said-3.result c.count_said-4.result
    c.count_said-5.result c.count_said-6.result c.count_said-7.result c.count_matched.result c.as_slice-lines.ensures.value c.count_said.ensures
    c.count_said-2.ensures c.count_said-3.ensures c.count_said-4.ensures c.count_said-5.ensures c.count_said-6.ensures c.count_said-7.ensures
    c.count_matched.ensures
