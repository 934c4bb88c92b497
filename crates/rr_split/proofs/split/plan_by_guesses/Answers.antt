use Rattle.std.proofs.Common.{ap, length, arith}
use Rattle.rr_days.specs.Sequence.{sketch}
use Rattle.rr_split.proofs.PlanLemmas.{parts_are_plan}
use Rattle.rr_split.proofs.split.plan_by_guesses.Goals as goal

pub returns : goal.returns
returns c =
    let taken = c.in_ok-taken.taken in
    let few = c.in_ok-taken.ensures.few in
    let listed = ap length c.as_slice.ensures.value in
    let guessed = rw c.in-Some.is at c.in_ok-events.ensures.few in
    let most = c.most_parts.ensures in
    parts_are_plan (sketch c.args.days) (sketch taken.rest) c.args.most taken.room
    (record { parts = taken.parts; kind = c.kind-kind.result; single = c.in-Some-2.left }) c.requires c.in_ok-taken.ensures.split
    (rw c.in-Some-2.is at c.in_ok-left.ensures.equal) c.kind-kind.ensures (omega (arith, few, listed, guessed, most)) c.in_ok-taken.ensures.room
    (rw c.in-Some-2.is at c.in_ok-left.ensures.few) (rw c.in-Some-2.is at c.in_ok-left.ensures.rises)
    (rw c.in-Some-2.is at c.in_ok-left.ensures.within)
