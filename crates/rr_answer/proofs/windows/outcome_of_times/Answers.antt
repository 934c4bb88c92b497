use Rattle.std.proofs.Common.{sym, arith}
use Rattle.std.proofs.lemmas.List.{length-take-le}
use Rattle.rr_text.specs.Printed.{IsPrintableAt}
use Rattle.rr_answer.proofs.WindowSaidLemmas.{front_all}
use Rattle.rr_answer.proofs.windows.outcome_of_times.Goals as goal

pub slice_bounds-lines_of-end : goal.slice_bounds-lines_of-end
slice_bounds-lines_of-end c = sym (length-take-le 100_000 c.args.times.now (omega (arith, c.if-times-most.false)))

pub lines_of-requires-2 : goal.lines_of-requires-2
lines_of-requires-2 c = front_all (IsPrintableAt c.args.kind) 100_000 c.args.times.now (omega (arith, c.if-times-most.false)) c.requires
