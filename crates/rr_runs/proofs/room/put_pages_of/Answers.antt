use Rattle.std.proofs.Common.{refl}
use Rattle.rr_runs.proofs.PagesLemmas.{pages_put, pages_stand, same_pages_stand}
use Rattle.rr_runs.proofs.room.put_pages_of.Goals as goal

pub returns-clause-stand : goal.returns-clause-stand
returns-clause-stand c =
    same_pages_stand c.page_of_same.new.pool.items c.args.pages.now.items c.put_same.new.numbers.items c.in_ok-page.page c.args.count
    (pages_stand c.args.pool.now.items c.page_of_same.new.pool.items c.args.pages.now.items c.requires.stand c.page_of_same.ensures.grown)
    c.in_ok-page.ensures.page.within c.in_ok-put_same.ensures.value

pub returns-clause-value : goal.returns-clause-value
returns-clause-value c =
    pages_put c.args.pool.now.items c.page_of_same.new.pool.items c.args.pages.now.items c.put_same.new.numbers.items _ c.in_ok-page.page c.args.number
    c.args.count c.requires.stand c.page_of_same.ensures.grown refl c.in_ok-page.ensures.page c.in_ok-put_same.ensures.value
