use Rattle.std.proofs.Common.{refl}
use Rattle.rr_runs.proofs.PagesLemmas.{block_put}
use Rattle.rr_runs.proofs.pages.Pages.push_block_again.Goals as goal

pub returns : goal.returns
returns c =
    let read = c.read_into-count in
    block_put c.args.self.now c.args.self.now c.push_some.new.self read.new.block c.first_numbers.result.now c.args.index c.args.most
    read.result c.in_ok-put.put refl read.ensures.room read.ensures.few read.ensures.most read.ensures.value c.first_numbers.ensures c.in_ok-put.ensures
