use Rattle.rr_vcal.proofs.ValidReadLemmas.{scan-valid}
use Rattle.rr_vcalfile.proofs.series.vseries_of.Goals as goal

pub returns-in-Ok-clause-valid : goal.returns-in-Ok-clause-valid
returns-in-Ok-clause-valid c = scan-valid c.args.offset c.in_ok-scan.scan c.in-Ok.series c.in-Ok.ensures
