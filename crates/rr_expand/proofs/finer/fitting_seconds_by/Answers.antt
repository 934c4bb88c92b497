use Rattle.std.proofs.Common.{to_z-of_z}
use Rattle.std.specs.Prelude.{nat_lt}
use Rattle.rr_model.specs.Rising.Sets.{IsSetOf}
use Rattle.rr_expand.specs.Expansion.{IsFittingSecond}
use Rattle.rr_expand.proofs.SetLemmas.{ok_set}
use Rattle.rr_expand.proofs.TimeLemmas.{below_a_day}
use Rattle.rr_expand.proofs.finer.fitting_seconds_by.Goals as goal

day_set : (c : goal.After-as_slice) → IsSetOf nat_lt c.as_slice.result.now (IsFittingSecond c.args.rule.now c.args.start c.args.day)
day_set c =
    rw c.as_slice.ensures.value (rw (to_z-of_z c.ranges.start, to_z-of_z c.ranges.day) at c.in_ok-seconds.ensures)

pub of-requires : goal.of-requires
of-requires c = below_a_day _ _ (λ s h. h.1) (day_set c)

pub returns : goal.returns
returns c = ok_set (IsFittingSecond c.args.rule.now c.args.start c.args.day) c.as_slice.result.now c.of.result (day_set c.before.before) c.of.ensures
