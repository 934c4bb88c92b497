use Rattle.rr_runs.proofs.PagesLemmas.{cut_piece}
use Rattle.rr_runs.proofs.pages.Pages.piece_within.Goals as goal

pub returns-clause-value : goal.returns-clause-value
returns-clause-value c = cut_piece c.args.self.now c.args.index c.piece.result.now c.first_numbers.result.now c.args.most c.piece.ensures c.first_numbers.ensures
