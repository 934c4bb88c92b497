use Rattle.std.proofs.Common.{refl, get_or}
use Rattle.rr_trip.specs.Printed.{uid_text, uid_byte}
use Rattle.rr_trip.proofs.PrintLemmas.{all_printed, one_printed}
use Rattle.rr_trip.proofs.printing.push_uid.Goals as goal

pub loop-byte-preserved : goal.loop-byte-preserved
loop-byte-preserved c =
    one_printed uid_text uid_byte (λ x xs. refl) c.loop-byte.out.items c.push_uid_byte.new.out.items _ c.args.uid.now c.loop-byte.byte-index
    (get_or c.args.uid.now c.loop-byte.byte-index 0) 0 c.loop-byte-test.true refl c.loop-byte.invariant c.in_ok-push_uid_byte.ensures

pub returns : goal.returns
returns c = all_printed uid_text c.loop-byte.out.items _ c.args.uid.now c.loop-byte.byte-index refl c.loop-byte-test.false c.loop-byte.invariant
