use Rattle.std.proofs.Common.{◌<◌, ◌++◌, ◌∷◌, [], length, ap, refl, arith}
use Rattle.std.proofs.lemmas.Result.{on_ok_weaker}
use Rattle.rr_model.specs.Sets.Stretches.{item_text}
use Rattle.rr_times.specs.Items.{stretch_of}
use Rattle.rr_canon.proofs.AppendLemmas.{appended_as, two_appended}
use Rattle.rr_canon.proofs.ItemLemmas.{one_more_item, items_ended}
use Rattle.rr_canon.proofs.lines.write_stretches.Goals as goal

pub loop-from-init : goal.loop-from-init
loop-from-init g c = ((116 ∷ [], c.in_ok-write_all.ensures.bytes, refl), omega arith)

pub loop-from-preserved : goal.loop-from-preserved
loop-from-preserved g c =
    let contents = g.W.Write.contents in
    let times = c.args.times.now in
    let within : c.loop-from.from < length times = omega (arith, c.loop-from-test.true, ap length c.as_slice-count.ensures.same) in
    let written = c.loop-from.invariant.0 in
    let item = stretch_of c.stretch-item.result in
    let more = 32 ∷ item_text item in (
      (
        written.0 ++ more,
        two_appended (contents c.args.out.now) (contents c.loop-from.out) (contents c.write_item.new.out) written.0 more written.1 c.in_ok-write_item.ensures,
        one_more_item times [] written.0 (written.0 ++ more) c.loop-from.from item within c.stretch-item.ensures.item c.stretch-item.ensures.some
            written.2 refl,
      ),
      c.stretch-item.ensures.few,
    )

pub returns : goal.returns
returns g c =
    let contents = g.W.Write.contents in
    let times = c.args.times.now in
    let written = c.loop-from.invariant.0 in
    on_ok_weaker c.write_all-2.result
    (λ e. appended_as _ _ _ _ (items_ended times [] written.0 (written.0 ++ 10 ∷ []) c.loop-from.from
    (omega (arith, c.loop-from-test.false, ap length c.as_slice-count.ensures.same)) written.2 refl)
    (two_appended (contents c.args.out.now) (contents c.loop-from.out) (contents c.write_all-2.new.self) written.0 (10 ∷ []) written.1 e))
    c.write_all-2.ensures.bytes
