use Rattle.std.proofs.Common.{◌<◌, length, arith}
use Rattle.rr_groups.proofs.EntryLemmas.{put_key}
use Rattle.rr_groups.proofs.keys.keys_of.Goals as goal

pub loop-index-preserved : goal.loop-index-preserved
loop-index-preserved g c =
    let keys = g.F.EventFile.keys c.args.file.now in
    let below : c.loop-index.index < length keys = omega (arith, c.loop-index-test.true, c.count-index-end.ensures) in
    put_key keys c.loop-index.keys.items c.push.new.self.items c.loop-index.index c.in_ok-key_at.field-0 c.loop-index.invariant below
    c.in_ok-key_at.ensures c.in_ok-push.ensures.items
