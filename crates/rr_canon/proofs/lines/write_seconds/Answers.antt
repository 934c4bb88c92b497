use Rattle.std.proofs.Common.{◌++◌, ◌∷◌, [], take, take_all, refl, arith}
use Rattle.std.specs.Fmt.{decimal}
use Rattle.std.proofs.lemmas.Result.{on_ok_weaker}
use Rattle.rr_model.specs.Sets.DescriptorText.{fields}
use Rattle.rr_canon.proofs.AppendLemmas.{appended_as, two_appended}
use Rattle.rr_canon.proofs.LineLemmas.{seconds_begun, seconds_more, seconds_ended}
use Rattle.rr_canon.proofs.lines.write_seconds.Goals as goal

pub loop-second-init : goal.loop-second-init
loop-second-init g c = appended_as _ _ _ _ (seconds_begun [] (116 ∷ []) c.args.times.now refl) c.in_ok-write_all.ensures.bytes

pub loop-second-preserved : goal.loop-second-preserved
loop-second-preserved g c =
    let contents = g.W.Write.contents in
    let times = c.args.times.now in
    let front = 116 ∷ fields (take c.loop-second.second-index times) in
    let more = 32 ∷ decimal c.from.result in
    appended_as _ _ _ _ (seconds_more [] front (front ++ more) times c.loop-second.second-index c.from.result
    (omega (arith, c.loop-second-test.true)) c.from.ensures refl refl)
    (two_appended (contents c.args.out.now) (contents c.loop-second.out) (contents c.write_part.new.out) front more c.loop-second.invariant
    c.in_ok-write_part.ensures)

pub returns : goal.returns
returns g c =
    let contents = g.W.Write.contents in
    let times = c.args.times.now in
    let k = c.loop-second.second-index in
    let front = 116 ∷ fields (take k times) in
    on_ok_weaker c.write_all-2.result
    (λ e. appended_as _ _ _ _ (seconds_ended [] front (front ++ 10 ∷ []) times (take k times)
    (take_all k times (omega (arith, c.loop-second-test.false))) refl refl)
    (two_appended (contents c.args.out.now) (contents c.loop-second.out) (contents c.write_all-2.new.self) front (10 ∷ []) c.loop-second.invariant e))
    c.write_all-2.ensures.bytes
