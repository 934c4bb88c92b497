use Rattle.std.proofs.Common.{rules, tests, lit<}
use Rattle.std.proofs.lemmas.Iterator.Search.{find_from_yields_List}
use Rattle.std.proofs.lemmas.Iterator.Splits.{YieldsList-from_str_split}
use Rattle.rr_windows.specs.Names.{has_name}
use Rattle.rr_windows.proofs.names.line_in.Goals as goal

pub returns : goal.returns
returns c =
    find_from_yields_List (has_name c.args.name.now) _ _ _ c.find.ensures.ran
    (YieldsList-from_str_split 10 c.args.text.now (lit< tt) c.split.ensures.text c.split.ensures.has_more c.split.ensures.pattern)
    (λ x b q k. search (rules, tests))
