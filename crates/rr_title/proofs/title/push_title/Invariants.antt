use Rattle.std.proofs.Common.{◌≡◌, ◌++◌, drop}
use Rattle.rr_title.specs.Title.{title_from, title_text}
use Rattle.rr_title.proofs.title.push_title.Given as goal

abbrev pub invariant-loop-index : goal.invariant-loop-index
invariant-loop-index l = l.out.items ++ title_from l.left (drop l.index l.title) ≡ l.fn.out.items ++ title_text l.title
