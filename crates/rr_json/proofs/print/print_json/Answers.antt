use Rattle.rr_facts.specs.Facts.{facts_in}
use Rattle.rr_json.proofs.PrintLemmas.{whole_report}
use Rattle.rr_json.proofs.print.print_json.Goals as goal

pub returns : goal.returns
returns c =
    whole_report (facts_in c.args.facts.now) c.args.report.now.lines.items c.deref.result.now c.counts-counts.result c.status.result
    c.status_number.result c.in_ok-text.text.items c.push_counts.new.out.items c.extend_from_slice.new.self.items c.push_events.new.out.items
    c.extend_from_slice-2.new.self.items c.push_facts.new.out.items c.push.new.self.items c.counts-counts.ensures c.status.ensures
    c.status_number.ensures c.deref.ensures.value c.in_ok-text.ensures.items c.in_ok-push_counts.ensures c.in_ok-extend_from_slice.ensures.items
    c.in_ok-push_events.ensures c.in_ok-extend_from_slice-2.ensures.items c.in_ok-push_facts.ensures c.in_ok-push.ensures.items
