use Rattle.std.proofs.Common.{refl}
use Rattle.rr_trip.specs.Printed.{line_text, lines_text}
use Rattle.rr_trip.proofs.PrintLemmas.{one_printed}
use Rattle.rr_trip.proofs.printing.push_lines.Goals as goal

pub loop-line-preserved : goal.loop-line-preserved
loop-line-preserved c =
    one_printed (lines_text c.args.only_differences) (line_text c.args.only_differences) (λ x xs. refl) c.loop-line.out.items
    c.push_line.new.out.items _ c.args.lines.now c.loop-line.line-index c.line-item.result _
    c.loop-line-test.true c.line-item.is c.loop-line.invariant c.in_ok-push_line.ensures
