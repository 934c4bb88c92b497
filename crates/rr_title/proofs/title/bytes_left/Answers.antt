use Rattle.std.proofs.Common.{◌∙◌, arith}
use Rattle.std.proofs.lemmas.Bool.Decides.{nat_tests}
use Rattle.rr_title.proofs.SafeLemmas.{left_none, left_some}
use Rattle.rr_title.proofs.title.bytes_left.Goals as goal

pub returns-then-left-eq0 : goal.returns-then-left-eq0
returns-then-left-eq0 c = c.front_length.ensures ∙ left_none c.args.left c.args.byte c.args.more.now (grind (arith, nat_tests))

pub returns-else-left-eq0 : goal.returns-else-left-eq0
returns-else-left-eq0 c = left_some c.args.left c.args.byte c.args.more.now (λ none. grind (arith, nat_tests))
