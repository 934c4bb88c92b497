use Rattle.std.proofs.Common.{rules}
use Rattle.rr_rrule.proofs.PushLemmas.{line_written}
use Rattle.rr_rrule.proofs.write_line.push_folded.Goals as goal

pub returns : goal.returns
returns c =
    line_written c.args.out.now.items c.extend_from_slice-2.new.self.items c.split_at.result.0.now c.split_at.result.1.now c.args.line.now c.min.result
    (search rules) (search rules) (search rules) (search rules)
