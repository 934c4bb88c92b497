use Rattle.std.proofs.Common.{arith}
use Rattle.std.proofs.lemmas.Bool.Decides.{nat_tests}
use Rattle.rr_title.proofs.SafeLemmas.{pushed_byte, pushed_escape}
use Rattle.rr_title.proofs.title.push_byte.Goals as goal

pub returns-then-of-eq0 : goal.returns-then-of-eq0
returns-then-of-eq0 c =
    pushed_escape c.args.of c.args.byte c.args.out.now.items c.push_escaped.new.out.items (grind (arith, nat_tests)) c.in_ok-push_escaped.ensures

pub returns : goal.returns
returns c = pushed_byte c.args.of c.args.byte c.args.out.now.items c.push.new.self.items (λ none. grind (arith, nat_tests)) c.in_ok-push.ensures.items
