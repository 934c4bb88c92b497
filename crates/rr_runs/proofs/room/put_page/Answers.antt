use Rattle.rr_runs.proofs.PagesLemmas.{page_put}
use Rattle.rr_runs.proofs.room.put_page.Goals as goal

pub returns-clause-value : goal.returns-clause-value
returns-clause-value c =
    page_put c.args.pool.now.items c.page_for.new.pool.items c.args.pages.now.items c.push.new.self.items c.args.numbers.now c.in_ok-page.page
    c.requires.stand c.page_for.ensures.grown c.in_ok-page.ensures.page c.in_ok-push.ensures.items
