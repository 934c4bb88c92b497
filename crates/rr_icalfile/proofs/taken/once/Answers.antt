use Rattle.rr_icalfile.proofs.TakenLemmas.{kept_at}
use Rattle.rr_icalfile.proofs.taken.once.Goals as goal

pub loop-part-preserved : goal.loop-part-preserved
loop-part-preserved c =
    kept_at c.args.parts.now c.loop-part.part-index c.part-item.result c.loop-part.kept.items c.keep.new.kept.items c.loop-part.first c.in_ok-words.words
    c.first_series-first.result c.states_again.result c.loop-part-test.true c.part-item.is c.in_ok-words.ensures c.states_again.ensures c.in_ok-keep.ensures
    c.first_series-first.ensures c.loop-part.invariant
