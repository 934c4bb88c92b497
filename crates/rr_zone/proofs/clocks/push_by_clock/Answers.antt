use Rattle.rr_zone.proofs.LocalLemmas.{piece_put}
use Rattle.rr_zone.proofs.clocks.push_by_clock.Goals as goal

pub returns-in_ok-extend_from_slice-in-Err-clause-value : goal.returns-in_ok-extend_from_slice-in-Err-clause-value
returns-in_ok-extend_from_slice-in-Err-clause-value c =
    rw c.in-Err.is
    (piece_put c.args.piece c.args.out.now.items c.extend_from_slice.new.self.items c.in_ok-extend_from_slice-in-Err.ensures.items)
