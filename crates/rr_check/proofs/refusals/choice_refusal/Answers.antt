use Rattle.std.proofs.Common.{to_z-of_z}
use Rattle.rr_model.proofs.StartLemmas.{IsDayWithin-start}
use Rattle.rr_check.proofs.refusals.choice_refusal.Goals as goal

pub chosen-requires-clause-near : goal.chosen-requires-clause-near
chosen-requires-clause-near c = rw (to_z-of_z c.ranges.start) (IsDayWithin-start 0 c.args.kind c.args.start c.requires.start)
