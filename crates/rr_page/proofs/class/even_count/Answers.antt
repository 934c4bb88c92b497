use Rattle.std.proofs.Common.{◌∙◌, rules, tests}
use Rattle.std.proofs.lemmas.Iterator.{YieldsList-from_slice}
use Rattle.std.proofs.lemmas.Iterator.Consumers.{YieldsList-from_filter, count_from_yields_List}
use Rattle.std.proofs.lemmas.List.Sums.{length-filter}
use Rattle.rr_page.specs.Class.{is_even}
use Rattle.rr_trip.specs.declared.report.ReportLine.{ReportLine}
use Rattle.rr_page.proofs.class.even_count.Goals as goal

pub returns : goal.returns
returns c =
    count_from_yields_List c.filter.result _ c.count.ensures.ran
    (YieldsList-from_filter _ (λ (line : ReportLine). is_even line) (YieldsList-from_slice c.args.lines.now cc)
    c.filter.ensures.closure (λ x r q k. search (rules, tests)))
    ∙ length-filter (λ (line : ReportLine). is_even line) c.args.lines.now
