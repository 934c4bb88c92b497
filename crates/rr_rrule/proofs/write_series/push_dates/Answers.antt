use Rattle.std.proofs.Common.{rules, w64, to_z, of_z, pos, get_or}
use Rattle.rr_model.specs.Text.Written.{date_line}
use Rattle.rr_text.proofs.WrittenListLemmas.{one_written}
use Rattle.rr_rrule.proofs.write_series.push_dates.Goals as goal

pub loop-at-preserved : goal.loop-at-preserved
loop-at-preserved c =
    one_written (date_line c.args.name.now c.args.kind) c.loop-at.out.items c.push_date_line.new.out.items _ c.args.dates.now c.loop-at.at-index
    (to_z w64 (of_z w64 (get_or c.args.dates.now c.loop-at.at-index (pos 0)))) (pos 0)
    c.loop-at-test.true (search rules) c.loop-at.invariant c.in_ok-push_date_line.ensures
