use Rattle.std.proofs.Common.{arith}
use Rattle.rr_runs.proofs.PagesLemmas.{new_page}
use Rattle.rr_runs.proofs.pool.new_page.Goals as goal

pub returns-clause-page : goal.returns-clause-page
returns-clause-page c =
    new_page c.args.pool.now.items c.args.numbers.now c.extend_from_slice.new.self.items c.len-page.result
    c.in_ok-extend_from_slice.ensures.items (omega arith) c.requires
