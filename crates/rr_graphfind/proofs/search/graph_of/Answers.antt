use Rattle.std.proofs.Common.{subst, sym}
use Rattle.std.specs.Prelude.{Some}
use Rattle.rr_model.specs.Sets.Sketch.{StandsIn}
use Rattle.rr_graphfind.specs.Found.{IsGraphFound}
use Rattle.rr_graphfind.proofs.FoundLemmas.{found_pattern, no_window_none, none_found}
use Rattle.rr_graphfind.proofs.search.graph_of.Goals as goal

pub returns-in_err-window : goal.returns-in_err-window
returns-in_err-window g c =
    let s = g.A.DaySeq.sketch c.args.seq.now in
    subst (λ found. IsGraphFound (StandsIn s) found) (sym c.from_residual.ensures)
    (no_window_none s (g.met.A.DaySeq.bounded c.args.seq.now).valid c.in_err-window.ensures.window)

pub returns-in_err-pattern : goal.returns-in_err-pattern
returns-in_err-pattern g c =
    let s = g.A.DaySeq.sketch c.args.seq.now in
    subst (λ found. IsGraphFound (StandsIn s) found) (sym c.from_residual-in_err-pattern.ensures)
    (none_found s c.in_ok-window.window (g.met.A.DaySeq.bounded c.args.seq.now).valid c.in_ok-window.ensures.window c.in_err-pattern.ensures)

pub returns : goal.returns
returns g c =
    let s = g.A.DaySeq.sketch c.args.seq.now in
    let known = c.in_ok-window.ensures in
    subst (λ event. IsGraphFound (StandsIn s) (Some event)) (sym c.event_of.ensures)
    (found_pattern s c.in_ok-window.window c.in_ok-pattern.pattern (g.met.A.DaySeq.bounded c.args.seq.now).valid known.window known.near
    c.in_ok-pattern.ensures)
