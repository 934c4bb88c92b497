use Rattle.std.proofs.Common.{rules, ◌+◌}
use Rattle.std.proofs.lemmas.List.{take_min}
use Rattle.rr_io.proofs.names.front.Goals as goal

pub returns : goal.returns
returns c = rw (← take_min (c.args.limit + 1) c.args.bytes.now) (search rules)
