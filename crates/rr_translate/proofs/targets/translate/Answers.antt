use Rattle.rr_translate.proofs.targets.translate.Goals as goal

pub returns-in-Vcal : goal.returns-in-Vcal
returns-in-Vcal c = rw c.in-Vcal.is c.vcal_text.ensures
