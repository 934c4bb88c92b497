use Rattle.std.proofs.Common.{rules, arith}
use Rattle.rr_zone.proofs.RewrittenLemmas.{blank_written}
use Rattle.rr_zone.proofs.rewritten.push_blank_lines.Goals as goal

pub loop-left-preserved : goal.loop-left-preserved
loop-left-preserved c =
    blank_written c.loop-left.out.items c.extend_from_slice.new.self.items _ c.loop-left.left _ (omega arith) (search rules) (search rules)
    c.loop-left.invariant
