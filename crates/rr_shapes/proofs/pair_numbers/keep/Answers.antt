use Rattle.std.proofs.Common.{refl, arith}
use Rattle.rr_shapes.specs.Slots.{slot_of}
use Rattle.rr_shapes.proofs.SlotLemmas.{added, written}
use Rattle.rr_shapes.proofs.pair_numbers.keep.Goals as goal

pub returns-then-slot-len : goal.returns-then-slot-len
returns-then-slot-len c =
    written slot_of c.args.slots.now.items _ (c.args.pair, c.args.number) c.slot_of-slot.result c.slot_of-slot.ensures.slot
    (omega (arith, c.if-slot-len.true, c.len.ensures)) refl

pub returns-else-slot-len : goal.returns-else-slot-len
returns-else-slot-len c =
    added slot_of c.args.slots.now.items c.resize.new.self.items (c.args.pair, c.args.number) c.slot_of-slot.result c.slot_of-slot.ensures.slot
    128 c.args.slots.now.len c.resize.new.self.len c.resize.result (omega (arith, c.if-slot-len.false, c.len.ensures)) c.slot_of-slot.ensures.within
    (omega arith) (omega arith) c.resize.ensures.len c.resize.ensures.by_index.0 c.resize.ensures.by_index.1
