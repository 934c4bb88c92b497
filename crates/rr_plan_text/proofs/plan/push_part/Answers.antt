use Rattle.std.proofs.Common.{refl}
use Rattle.rr_plan_text.proofs.TextLemmas.{part_text}
use Rattle.rr_plan_text.proofs.plan.push_part.Goals as goal

pub returns : goal.returns
returns c =
    rw (
      c.in_ok-push.ensures.items,
      c.in_ok-push_event.ensures,
      c.in_ok-extend_from_slice-3.ensures.items,
      c.in_ok-extend_from_slice-2.ensures.items,
      c.as_slice-2.ensures.value,
      c.in_ok-extend_from_slice.ensures.items,
    )
    (part_text c.args.part.now c.args.out.now.items c.in_ok-cancelled.cancelled.items _ (rw c.as_slice.ensures.value at c.in_ok-cancelled.ensures) refl)
