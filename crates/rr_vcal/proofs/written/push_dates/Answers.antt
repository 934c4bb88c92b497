use Rattle.std.proofs.Common.{rules, w64, to_z, of_z, pos, get_or}
use Rattle.rr_text.proofs.WrittenListLemmas.{one_written}
use Rattle.rr_vcal.specs.Writing.{vcal_date_line}
use Rattle.rr_vcal.proofs.written.push_dates.Goals as goal

pub loop-date-preserved : goal.loop-date-preserved
loop-date-preserved c =
    one_written (vcal_date_line c.args.name.now c.args.kind) c.loop-date.out.items c.push_date.new.out.items _ c.args.dates.now c.loop-date.date-index
    (to_z w64 (of_z w64 (get_or c.args.dates.now c.loop-date.date-index (pos 0)))) (pos 0)
    c.loop-date-test.true (search rules) c.loop-date.invariant c.in_ok-push_date.ensures
