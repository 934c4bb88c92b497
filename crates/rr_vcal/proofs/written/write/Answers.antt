use Rattle.std.proofs.Common.{rules}
use Rattle.rr_vcal.proofs.PushLemmas.{series_written}
use Rattle.rr_vcal.proofs.written.write.Goals as goal

pub returns : goal.returns
returns c =
    series_written c.args.series.now c.push_date.new.out.items c.push_rules.new.out.items c.push_rules-2.new.out.items c.push_dates.new.out.items
    c.push_dates-2.new.out.items c.as_slice.result.now c.as_slice-2.result.now c.as_slice-3.result.now c.as_slice-4.result.now
    (search rules) (search rules) (search rules) (search rules) (search rules) (search rules) (search rules) (search rules) (search rules)
