use Rattle.std.proofs.Common.{◌∙◌, rules, tests}
use Rattle.std.proofs.lemmas.Iterator.{YieldsList-from_slice}
use Rattle.std.proofs.lemmas.Iterator.Consumers.{YieldsList-from_filter, count_from_yields_List}
use Rattle.std.proofs.lemmas.List.Sums.{length-filter}
use Rattle.rr_trip.specs.Counts.{is_matched}
use Rattle.rr_trip.specs.declared.report.ReportLine.{ReportLine}
use Rattle.rr_trip.proofs.report.count_matched.Goals as goal

pub returns : goal.returns
returns c =
    count_from_yields_List c.filter.result _ c.count.ensures.ran
    (YieldsList-from_filter _ (λ (line : ReportLine). is_matched line.partner) (YieldsList-from_slice c.args.lines.now cc)
    c.filter.ensures.closure (λ x r q k. search (rules, tests)))
    ∙ length-filter (λ (line : ReportLine). is_matched line.partner) c.args.lines.now
