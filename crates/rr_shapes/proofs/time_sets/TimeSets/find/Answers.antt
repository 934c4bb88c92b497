use Rattle.std.proofs.Common.{◌≡◌, Contains, Some, slice_get, sym, subst}
use Rattle.rr_shapes.proofs.ShapeLemmas.{absent, found_at, if_none}
use Rattle.rr_shapes.proofs.time_sets.TimeSets.find.Goals as goal

pub returns-in_err-number-clause-absent : goal.returns-in_err-number-clause-absent
returns-in_err-number-clause-absent c =
    if_none c.from_residual.result (¬ Contains c.args.self.now c.args.times.now)
    (subst (λ sets. ¬ Contains sets c.args.times.now) c.self.view_is
    (absent c.self.inside.sets.keys c.args.times.now (sym c.in_err-number.ensures.found)))

pub returns-clause-found : goal.returns-clause-found
returns-clause-found c =
    subst (λ sets. slice_get sets c.in_ok-number.number ≡ Some c.args.times.now) c.self.view_is
    (found_at c.self.inside.sets.keys c.args.times.now c.in_ok-number.number (sym c.in_ok-number.ensures.index))
