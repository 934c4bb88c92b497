use Rattle.std.proofs.Common.{refl, get_or}
use Rattle.rr_trip.specs.Grid.{time_list_text, time_text}
use Rattle.rr_trip.proofs.PrintLemmas.{all_printed, one_printed}
use Rattle.rr_trip.proofs.grid.push_time_list.Goals as goal

pub loop-second-preserved : goal.loop-second-preserved
loop-second-preserved c =
    one_printed time_list_text time_text (λ x xs. refl) c.loop-second.out.items c.push_time.new.out.items _ c.args.times.now c.loop-second.second-index
    (get_or c.args.times.now c.loop-second.second-index 0) 0 c.loop-second-test.true refl c.loop-second.invariant c.in_ok-push_time.ensures

pub returns : goal.returns
returns c = all_printed time_list_text c.loop-second.out.items _ c.args.times.now c.loop-second.second-index refl c.loop-second-test.false c.loop-second.invariant
