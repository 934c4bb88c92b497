use Rattle.rr_walk.proofs.rule_lazy.RuleLazy.skip_to.Goals as goal

pub returns-in-WholeDays-clause-knows : goal.returns-in-WholeDays-clause-knows
returns-in-WholeDays-clause-knows c sets k = c.skip_to.ensures.knows sets (rw c.in-WholeDays.is at k)

pub returns-in-FineUnits-clause-knows : goal.returns-in-FineUnits-clause-knows
returns-in-FineUnits-clause-knows c sets k = c.skip_to-in-FineUnits.ensures.knows sets (rw c.in-FineUnits.is at k)
