use Rattle.std.proofs.Common.{◌≡◌, sym, to_z-of_z}
use Rattle.std.specs.Prelude.{Some, slice_get}
use Rattle.rr_walk.specs.Ruling.{unit_offsets_more, unit_offset}
use Rattle.rr_walk.proofs.UnitOffsetLemmas.{knows_put, number_of}
use Rattle.rr_walk.proofs.fine_rule.FineRule.number_on.Goals as goal

pub returns-in-Some-clause-within : goal.returns-in-Some-clause-within
returns-in-Some-clause-within c =
    let offset = rw (to_z-of_z c.ranges.day) at c.unit_offset-offset.ensures in
    let listed = rw (c.deref.ensures.value, offset) at (c.kept_at.ensures c.in-Some.number c.in-Some.is) in
    let held : slice_get c.args.self.now.kept (unit_offset c.args.self.now c.args.day) ≡ Some (Some c.in-Some.number) =
    rw (← c.self.view_is) (rw (sym c.self.view_is) at listed) in
    (c.requires.knows c.args.day c.requires.near c.requires.allowed c.in-Some.number held).0

pub returns-in-Some-clause-number : goal.returns-in-Some-clause-number
returns-in-Some-clause-number c =
    let offset = rw (to_z-of_z c.ranges.day) at c.unit_offset-offset.ensures in
    let listed = rw (c.deref.ensures.value, offset) at (c.kept_at.ensures c.in-Some.number c.in-Some.is) in
    let held : slice_get c.args.self.now.kept (unit_offset c.args.self.now c.args.day) ≡ Some (Some c.in-Some.number) =
    rw (← c.self.view_is) (rw (sym c.self.view_is) at listed) in
    (c.requires.knows c.args.day c.requires.near c.requires.allowed c.in-Some.number held).1

pub returns-in_err-number-clause-knows : goal.returns-in_err-number-clause-knows
returns-in_err-number-clause-knows c = unit_offsets_more c.args.self.now c.args.sets.now c.place.new.self c.place.ensures.kept c.requires.knows

pub returns-clause-within : goal.returns-clause-within
returns-clause-within c =
    let r = c.args.self.now in
    let u = rw c.self.view_is at c.self.invariant in
    (number_of r c.args.sets.now c.place.new.self c.args.day c.in_ok-number.number c.in_ok-chosen.chosen u.freq u.valid.valid.interval_low c.requires.allowed
    c.in_ok-number.ensures.placed (rw (to_z-of_z c.ranges.day) at c.in_ok-chosen.ensures)).0

pub returns-clause-number : goal.returns-clause-number
returns-clause-number c =
    let r = c.args.self.now in
    let u = rw c.self.view_is at c.self.invariant in
    (number_of r c.args.sets.now c.place.new.self c.args.day c.in_ok-number.number c.in_ok-chosen.chosen u.freq u.valid.valid.interval_low c.requires.allowed
    c.in_ok-number.ensures.placed (rw (to_z-of_z c.ranges.day) at c.in_ok-chosen.ensures)).1

pub returns-clause-knows : goal.returns-clause-knows
returns-clause-knows c =
    let r = c.args.self.now in
    let u = rw c.self.view_is at c.self.invariant in
    let offset = rw (to_z-of_z c.ranges.day) at c.unit_offset-offset.ensures in
    knows_put r c.args.sets.now c.place.new.self c.args.day c.in_ok-number.number c.in_ok-chosen.chosen u.freq u.valid.valid.interval_low c.requires.allowed
    c.in_ok-number.ensures.placed (rw (to_z-of_z c.ranges.day) at c.in_ok-chosen.ensures) c.keep.new.self c.keep.ensures.same
    (rw offset at c.keep.ensures.kept) c.requires.knows c.place.ensures.kept
