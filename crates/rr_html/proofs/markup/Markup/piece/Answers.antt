use Rattle.rr_html.proofs.MarkupLemmas.{piece_is}
use Rattle.rr_html.proofs.markup.Markup.piece.Goals as goal

pub invariant_of-self-2 : goal.invariant_of-self-2
invariant_of-self-2 c = piece_is _ _ c.args.piece c.text.result.now c.self.invariant c.text.ensures c.in_ok-extend_from_slice.ensures.items
