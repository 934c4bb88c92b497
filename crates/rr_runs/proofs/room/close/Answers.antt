use Rattle.std.proofs.Common.{arith}
use Rattle.rr_runs.proofs.PagesLemmas.{all_closed, back_paged, closed_is_paged}
use Rattle.rr_runs.proofs.room.close.Goals as goal

pub returns-in-Ok-clause-paged : goal.returns-in-Ok-clause-paged
returns-in-Ok-clause-paged c =
    closed_is_paged c.put_pages.new.pool.items c.put_pages.new.pages.items c.let_go.new.rest.items c.put_pages.ensures.stand
    (omega (arith, c.in-Ok.ensures.many)) c.let_go.ensures

pub returns-in-Ok-clause-same : goal.returns-in-Ok-clause-same
returns-in-Ok-clause-same c =
    all_closed c.args.pool.now.items c.put_pages.new.pool.items c.args.pages.now.items c.put_pages.new.pages.items c.args.rest.now.items
    c.let_go.new.rest.items (rw c.as_slice.ensures.value at c.in-Ok.ensures.value) c.let_go.ensures

pub returns-in-Err-clause-paged : goal.returns-in-Err-clause-paged
returns-in-Err-clause-paged c =
    (back_paged c.args.pool.now.items c.put_pages.new.pool.items c.args.pages.now.items c.put_pages.new.pages.items c.truncate.new.self.items
    c.args.rest.now.items c.len-before.result c.requires.paged c.put_pages.ensures.grown c.put_pages.ensures.more (omega arith) c.truncate.ensures.items).0

pub returns-in-Err-clause-same : goal.returns-in-Err-clause-same
returns-in-Err-clause-same c =
    (back_paged c.args.pool.now.items c.put_pages.new.pool.items c.args.pages.now.items c.put_pages.new.pages.items c.truncate.new.self.items
    c.args.rest.now.items c.len-before.result c.requires.paged c.put_pages.ensures.grown c.put_pages.ensures.more (omega arith) c.truncate.ensures.items).1
