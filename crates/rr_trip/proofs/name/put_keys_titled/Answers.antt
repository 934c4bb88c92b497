use Rattle.std.proofs.Common.{◌≡◌, ◌++◌, ◌<◌, ◌≤◌, length, arith, rules}
use Rattle.rr_trip.specs.Shown.{keys_titled, titled_part}
use Rattle.rr_trip.proofs.ShownLemmas.{titled_all, titled_next}
use Rattle.rr_trip.proofs.name.put_keys_titled.Goals as goal

pub loop-index-preserved : goal.loop-index-preserved
loop-index-preserved g c =
    let keys = g.F.EventFile.keys c.args.file.now in
    let titles = g.F.EventFile.titles c.args.file.now in
    let below : c.loop-index.index < length keys = omega (arith, c.loop-index-test.true, c.count-index-end.ensures) in
    let put : c.put_titled.new.keys.items ≡ c.loop-index.keys.items ++ titled_part c.args.name.now (titles c.loop-index.index) c.in_ok-key.key = search rules in
    titled_next c.args.name.now titles keys c.loop-index.keys.items c.loop-index.index
    (c.args.keys.now.items ++ keys_titled c.args.name.now titles 0 keys) c.loop-index.invariant c.in_ok-key.key
    c.put_titled.new.keys.items below c.in_ok-key.ensures put

pub returns : goal.returns
returns g c =
    let keys = g.F.EventFile.keys c.args.file.now in
    let titles = g.F.EventFile.titles c.args.file.now in
    let none : length keys ≤ c.loop-index.index = omega (arith, c.loop-index-test.false, c.count-index-end.ensures) in
    titled_all c.args.name.now titles keys c.loop-index.keys.items c.loop-index.index
    (c.args.keys.now.items ++ keys_titled c.args.name.now titles 0 keys) c.loop-index.invariant none
