use Rattle.std.proofs.Common.{[], ◌∷◌, ◌++◌, map, take, refl, sym, arith}
use Rattle.std.proofs.lemmas.Option.{get_or_from_slice_get}
use Rattle.rr_model.specs.Sets.DescriptorText.{text_of_lines}
use Rattle.rr_canon.proofs.AppendLemmas.{appended_as, nothing_appended, two_appended}
use Rattle.rr_canon.proofs.DescribeLemmas.{no_sets, one_more_set}
use Rattle.rr_canon.specs.Versions.{set_line_of}
use Rattle.rr_canon.proofs.text.write_all_sets.Goals as goal

pub loop-number-init : goal.loop-number-init
loop-number-init g c =
    appended_as _ _ _ _ (no_sets (set_line_of c.args.version) [] c.args.sets.now) (nothing_appended (g.W.Write.contents c.args.out.now))

pub loop-number-preserved : goal.loop-number-preserved
loop-number-preserved g c =
    let contents = g.W.Write.contents in
    let number = c.loop-number.number in
    let set_line = set_line_of c.args.version in
    let before = text_of_lines (map set_line (take number c.args.sets.now)) in
    let more = text_of_lines (set_line c.times.result.now ∷ []) in
    appended_as _ _ _ _ (one_more_set set_line [] before (before ++ more) c.times.result.now c.args.sets.now number
    (omega (arith, c.count-number-end.ensures, c.loop-number-test.true))
    (sym (get_or_from_slice_get c.args.sets.now number c.times.result.now [] c.times.ensures)) refl refl)
    (two_appended (contents c.args.out.now) (contents c.loop-number.out) (contents c.write_set.new.out) before more c.loop-number.invariant
    c.in_ok-write_set.ensures)
