use Rattle.std.proofs.Common.{◌≡◌, ◌+ℤ◌, ◌-ℤ◌, pos, [], w64, to_z, of_z, refl, ap, ◌∙◌, arith}
use Rattle.std.proofs.lemmas.Int.{ints, to_z-of_z}
use Rattle.rr_model.specs.Sets.Sketch.{times_on}
use Rattle.rr_true.specs.Changes.{offset_of}
use Rattle.rr_utc.proofs.DayLemmas.{found_on, named_moved}
use Rattle.rr_utc.proofs.day.moments_on.Goals as goal

pub returns : goal.returns
returns g c =
    let s = g.A.DaySeq.sketch c.args.seq.now in
    let f = offset_of c.args.zone.now in
    let day = c.args.day in
    let same : to_z w64 (of_z w64 day) ≡ day = to_z-of_z w64 day c.ranges.day in
    let low = c.requires.low in
    let high = c.requires.high in
    let before : to_z w64 (of_z w64 (to_z w64 (of_z w64 day) -ℤ pos 1)) ≡ day -ℤ pos 1 = omega (arith, ints, low, high) in
    let after : to_z w64 (of_z w64 (to_z w64 (of_z w64 day) +ℤ pos 1)) ≡ day +ℤ pos 1 = omega (arith, ints, low, high) in
    found_on s (g.met.A.DaySeq.bounded c.args.seq.now).valid f c.is_offset.ensures day c.requires.kind
    c.put_moments.new.found c.put_moments-2.new.found c.put_moments-3.new.found
    (named_moved f _ day _ (day -ℤ pos 1) _ (times_on s (day -ℤ pos 1)) _ [] _ same before (c.at.ensures ∙ ap (times_on s) before) c.new-found.ensures c.in_ok-put_moments.ensures)
    (named_moved f _ day _ day _ (times_on s day) _ _ _ same same (c.at-2.ensures ∙ ap (times_on s) same) refl c.in_ok-put_moments-2.ensures)
    (named_moved f _ day _ (day +ℤ pos 1) _ (times_on s (day +ℤ pos 1)) _ _ _ same after (c.at-3.ensures ∙ ap (times_on s) after) refl c.in_ok-put_moments-3.ensures)
