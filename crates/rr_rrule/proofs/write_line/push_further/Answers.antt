use Rattle.std.proofs.Common.{rules}
use Rattle.rr_rrule.proofs.PushLemmas.{piece_written}
use Rattle.rr_rrule.proofs.write_line.push_further.Goals as goal

pub loop-rest-preserved : goal.loop-rest-preserved
loop-rest-preserved c =
    piece_written c.loop-rest.out.items c.extend_from_slice-in-loop-rest.new.self.items c.split_at.result.0.now c.split_at.result.1.now
    c.loop-rest.rest.now _ c.min.result (search rules) (search rules) (search rules) (search rules) c.loop-rest.invariant (search rules)
