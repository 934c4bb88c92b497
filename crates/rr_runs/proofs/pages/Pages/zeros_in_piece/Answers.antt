use Rattle.rr_runs.proofs.PagesLemmas.{zeros_in_piece}
use Rattle.rr_runs.proofs.pages.Pages.zeros_in_piece.Goals as goal

pub returns : goal.returns
returns c =
    zeros_in_piece c.args.self.now c.piece.result.now c.args.index c.leading_same.result c.piece.ensures c.leading_same.ensures.few c.leading_same.ensures.same
