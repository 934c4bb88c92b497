use Rattle.std.proofs.Common.{refl, Some}
use Rattle.rr_decide.proofs.QuietLemmas.{brought_forward}
use Rattle.rr_decide.proofs.quiet.Quiet.bring_forward.Goals as goal

pub returns : goal.returns
returns c =
    let self = c.args.self.now in
    brought_forward self (record { alike = self.alike; recent = Some c.after.result; table = self.table }) c.args.pair refl refl c.after.ensures c.requires
