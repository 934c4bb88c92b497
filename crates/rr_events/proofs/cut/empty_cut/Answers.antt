use Rattle.rr_events.proofs.EmptyLemmas.{empty-first}
use Rattle.rr_events.proofs.cut.empty_cut.Goals as goal

pub returns : goal.returns
returns c = λ text empty. rw c.new.ensures (empty-first c.args.number text c.args.after.now empty)
