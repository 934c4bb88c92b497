use Rattle.std.proofs.Common.{sym, ◌∙◌}
use Rattle.rr_find.proofs.SearchLemmas.{none_without_window, first_if_some}
use Rattle.rr_find.proofs.search.find.Goals as goal

pub returns-in_default : goal.returns-in_default
returns-in_default g c =
    none_without_window (g.A.DaySeq.sketch c.args.seq.now) (g.met.A.DaySeq.bounded c.args.seq.now).valid c.in_default.ensures.window

pub returns-then-is_some : goal.returns-then-is_some
returns-then-is_some g c =
    first_if_some (g.A.DaySeq.sketch c.args.seq.now) c.loop-interval.interval c.in_ok-found.found (g.met.A.DaySeq.bounded c.args.seq.now).valid
    c.loop-interval.invariant (sym c.is_some.ensures ∙ c.if-is_some.true) c.in_ok-found.ensures
