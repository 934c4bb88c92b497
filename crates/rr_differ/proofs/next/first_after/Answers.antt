use Rattle.rr_differ.proofs.SecondLemmas.{first_in_rests, rest_rises}
use Rattle.rr_differ.proofs.next.first_after.Goals as goal

pub first_shown-requires-clause-xs : goal.first_shown-requires-clause-xs
first_shown-requires-clause-xs c = rest_rises c.count_below.result c.args.xs.now c.requires.xs

pub first_shown-requires-clause-ys : goal.first_shown-requires-clause-ys
first_shown-requires-clause-ys c = rest_rises c.count_below-2.result c.args.ys.now c.requires.ys

pub returns : goal.returns
returns c =
    first_in_rests c.args.xs.now c.args.ys.now c.count_below.result c.count_below-2.result c.args.from c.count_below.ensures c.count_below-2.ensures
    c.first_shown.result c.first_shown.ensures
