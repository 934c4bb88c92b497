use Rattle.std.proofs.Common.{sym, arith}
use Rattle.rr_runs.proofs.PagesLemmas.{length_numbers}
use Rattle.rr_runs.proofs.pages.Pages.len.Goals as goal

pub returns-clause-value : goal.returns-clause-value
returns-clause-value c =
    let all =
    length_numbers c.self.inside.pool.items c.self.inside.pages.items c.self.inside.rest.items c.args.self.now (sym c.self.view_is) c.self.invariant in
    omega (arith, all, c.len.ensures, c.len-2.ensures)
