use Rattle.std.proofs.Common.{◌≡◌, ℕ, ℤ, List, [], subst, sym, ap, ◌∙◌, to_z-of_z}
use Rattle.std.proofs.lemmas.Option.{get_or_from_slice_get, slice_get_within}
use Rattle.std.proofs.lemmas.Result.{IfOk-weaker}
use Rattle.rr_model.specs.Rising.Sets.{IsSecondsOfDay}
use Rattle.rr_model.specs.Sets.Sketch.{times_on}
use Rattle.rr_model.specs.declared.sketch.Sketch.{Sketch}
use Rattle.rr_shapes.specs.Numbering.{IsNumbering}
use Rattle.rr_shapes.specs.Tables.{IsUnknown}
use Rattle.rr_shapes.specs.declared.pair_numbers.Pair.{Pair}
use Rattle.rr_days.specs.MadeSets.{AreKnown, IsMadeSet, KeepsKnown}
use Rattle.rr_days.specs.declared.combined_sets.CombinedSets.{CombinedSets}
use Rattle.rr_days.specs.declared.op.Op.{Op}
use Rattle.rr_days.proofs.MadeSetLemmas.{both_ok, made_number}
use Rattle.rr_shapes.proofs.ShapeLemmas.{placed_extends}
use Rattle.rr_algebra.specs.Combining.{table}
use Rattle.rr_algebra.proofs.CombineLemmas.{made_placed, made_time_set, sets_placed}
use Rattle.rr_algebra.proofs.combining.number_of.Goals as goal

-- what is made of the sets of a day
made_on : (op : Op) (s u : Sketch) (stored day : ℤ) (xs ys : List ℕ) (was old : CombinedSets) (new : List (List ℕ)) (number : ℕ) → stored ≡ day
    → xs ≡ times_on s stored → ys ≡ times_on u stored → was ≡ old → IsMadeSet op xs ys was.shapes new number
    → IsMadeSet op (times_on s day) (times_on u day) old.shapes new number
made_on op s u stored day xs ys was old new number is first second same made =
    subst (λ (o : CombinedSets). IsMadeSet op (times_on s day) (times_on u day) o.shapes new number) same
    (subst (λ x. IsMadeSet op x (times_on u day) was.shapes new number) (first ∙ ap (times_on s) is)
    (subst (λ y. IsMadeSet op xs y was.shapes new number) (second ∙ ap (times_on u) is) made))

pub put_made-requires-clause-new : goal.put_made-requires-clause-new
put_made-requires-clause-new g c =
    let pair : Pair = record { a = c.number_on.result; b = c.number_on-2.result } in
    subst (λ (k : CombinedSets). IsUnknown k.known pair) (sym c.known_number.ensures.unchanged) c.in_default.ensures.unknown

pub returns-clause-sets : goal.returns-clause-sets
returns-clause-sets g c =
    let s = g.A.DaySeq.sketch c.args.one.now in
    let u = g.B.DaySeq.sketch c.args.other.now in
    let old = c.args.sets.now in
    let new = c.put_made.new.self.shapes in
    both_ok c.put_made.result (λ set. IsMadeSet c.args.op c.at.result.now c.at-2.result.now c.known_number.new.self.shapes new set.number) (λ set. IsNumbering new) _ c.put_made.ensures.made c.put_made.ensures.numbering (λ set m numbering.
    let made = made_on c.args.op s u _ c.args.day c.at.result.now c.at-2.result.now c.known_number.new.self old new set.number (to_z-of_z c.ranges.day) c.at.ensures c.at-2.ensures
    c.known_number.ensures.unchanged m in
    let of_day : IsSecondsOfDay made.times =
    subst IsSecondsOfDay (get_or_from_slice_get new set.number made.times [] made.placed.stands)
    (numbering.of_day set.number [] (slice_get_within new set.number made.times made.placed.stands)) in
    sets_placed c.args.kind made.times old.shapes new set.number made.placed
    (λ some. made_time_set c.args.kind c.args.op (times_on s c.args.day) (times_on u c.args.day) made.times c.requires.first c.requires.second made.made of_day some)
    c.requires.sets)

pub returns-clause-known : goal.returns-clause-known
returns-clause-known g c =
    let one = table (g.A.DaySeq.sets c.args.one.now) in
    let other = table (g.B.DaySeq.sets c.args.other.now) in
    let pair : Pair = record { a = c.number_on.result; b = c.number_on-2.result } in
    let were : AreKnown c.args.op one other c.known_number.new.self.shapes c.known_number.new.self.known =
    subst (λ (k : CombinedSets). AreKnown c.args.op one other k.shapes k.known) (sym c.known_number.ensures.unchanged) c.requires.known in
    IfOk-weaker c.put_made.result
    (λ set. KeepsKnown c.args.op pair c.at.result.now c.at-2.result.now c.known_number.new.self c.put_made.new.self) _
    (λ set keeps. keeps one other (c.number_on.ensures ∙ sym c.at.ensures) (c.number_on-2.ensures ∙ sym c.at-2.ensures) were) c.put_made.ensures.known

pub returns-clause-made : goal.returns-clause-made
returns-clause-made g c =
    let s = g.A.DaySeq.sketch c.args.one.now in
    let u = g.B.DaySeq.sketch c.args.other.now in
    let old = c.args.sets.now in
    let new = c.put_made.new.self.shapes in
    IfOk-weaker c.put_made.result (λ set. IsMadeSet c.args.op c.at.result.now c.at-2.result.now c.known_number.new.self.shapes new set.number) _ (λ set m.
    let made = made_on c.args.op s u _ c.args.day c.at.result.now c.at-2.result.now c.known_number.new.self old new set.number (to_z-of_z c.ranges.day) c.at.ensures c.at-2.ensures
    c.known_number.ensures.unchanged m in
    made_placed c.args.op s u c.args.day made.times old.shapes new set.number made.placed made.made c.requires.made) c.put_made.ensures.made

pub returns-clause-grown : goal.returns-clause-grown
returns-clause-grown g c =
    let old = c.args.sets.now.shapes in
    let new = c.put_made.new.self.shapes in
    IfOk-weaker c.put_made.result
    (λ set. IsMadeSet c.args.op c.at.result.now c.at-2.result.now c.known_number.new.self.shapes new set.number) _
    (λ set m.
    let made = subst (λ (o : CombinedSets). IsMadeSet c.args.op c.at.result.now c.at-2.result.now o.shapes new set.number) c.known_number.ensures.unchanged m in
    placed_extends made.times old new set.number made.placed) c.put_made.ensures.made

pub returns-clause-number : goal.returns-clause-number
returns-clause-number g c =
    let s = g.A.DaySeq.sketch c.args.one.now in
    let u = g.B.DaySeq.sketch c.args.other.now in
    let old = c.args.sets.now in
    let new = c.put_made.new.self.shapes in
    IfOk-weaker c.put_made.result (λ set. IsMadeSet c.args.op c.at.result.now c.at-2.result.now c.known_number.new.self.shapes new set.number) _ (λ set m.
    let made = made_on c.args.op s u _ c.args.day c.at.result.now c.at-2.result.now c.known_number.new.self old new set.number (to_z-of_z c.ranges.day) c.at.ensures c.at-2.ensures
    c.known_number.ensures.unchanged m in
    made_number c.args.op (times_on s c.args.day) (times_on u c.args.day) old.shapes new set.number made) c.put_made.ensures.made
