use Rattle.rr_zone.proofs.LocalLemmas.{piece_put}
use Rattle.rr_zone.proofs.clocks.push_piece.Goals as goal

pub returns-clause-value : goal.returns-clause-value
returns-clause-value c = piece_put c.args.piece c.args.out.now.items c.extend_from_slice.new.self.items c.in_ok-extend_from_slice.ensures.items
