use Rattle.std.proofs.Common.{subst, sym, ◌∙◌}
use Rattle.rr_trip.proofs.PartLemmas.{AreUpTo, none_left, nothing_of, parted_next, whole_next}
use Rattle.rr_trip.proofs.parts.parts_of.Goals as goal

pub loop-group-preserved-in-Continue-1 : goal.loop-group-preserved-in-Continue-1
loop-group-preserved-in-Continue-1 c =
    parted_next c.args.groups.items c.in-Some.group c.next.new.self.rest.items c.loop-group.parts.items c.put_parted.new.parts.items
    (subst (λ gs. AreUpTo c.args.groups.items gs c.loop-group.parts.items) c.in-Some.ensures.steps.0 c.loop-group.invariant) c.if-is_at_one_place.ensures c.in_ok-put_parted.ensures

pub loop-group-preserved : goal.loop-group-preserved
loop-group-preserved c =
    whole_next c.args.groups.items c.in-Some.group c.next.new.self.rest.items c.loop-group.parts.items c.push.new.self.items
    (subst (λ gs. AreUpTo c.args.groups.items gs c.loop-group.parts.items) c.in-Some.ensures.steps.0 c.loop-group.invariant) c.if-is_at_one_place.ensures c.in_ok-push.ensures.items

pub returns : goal.returns
returns c = none_left c.args.groups.items c.loop-group.group-iterator.rest.items c.loop-group.parts.items c.loop-group.invariant (nothing_of _ (sym c.loop-group.group-iterator.rest.ok.0 ∙ c.in-None.ensures.steps.0))
