use Rattle.std.proofs.Common.{Some, option_map, sym, ap, ◌∙◌}
use Rattle.rr_compare.specs.Parsed.{asked_in, request_in}
use Rattle.rr_compare.specs.Words.{comparison}
use Rattle.rr_calendars.proofs.FetchLemmas.{fetched_for}
use Rattle.rr_calendars.proofs.work.fetch_asked.Goals as goal

pub returns-in-Some-Comparison-clause-files : goal.returns-in-Some-Comparison-clause-files
returns-in-Some-Comparison-clause-files g c =
    let request = rw c.in-Some-Comparison.is at c.in-Some-Comparison.field-0-is in
    fetched_for (g.S.Source.held c.args.source.now) (Some (comparison (request_in c.in-Some-Comparison.request))) (option_map asked_in c.args.asked)
    c.fetch_all.result (sym (ap (option_map asked_in) (c.in-Some-Comparison.is ∙ ap Some request))) c.fetch_all.ensures.files
